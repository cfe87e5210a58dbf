use Rattle.std.proofs.Common.{◌+◌, ◌-◌, Err, sym, ap, ◌∙◌, arith}
use Rattle.std.proofs.lemmas.Result.{err_from_is_err_and}
use Rattle.adl.specs.Reads.{consequent}
use Rattle.adl.specs.Views.{table, around}
use Rattle.table.specs.Entries.{coded}
use Rattle.fault.specs.declared.Layer.TheVariants as layer
use Rattle.table.proofs.Answering.{many_refused, many_turn, many_over}
use Rattle.adl.proofs.Parts.{consequent_refused, consequent_too_deep, consequent_goes, after_and, after_outcome}
use Rattle.adl.proofs.reader.Reader.+check_consequent.Goals as goal

pub returns-in_err-head : goal.returns-in_err-head
returns-in_err-head d c =
    let t = table c.args.self.now.table.now in
    let a = around c.args.self.now in
    let p = err_from_is_err_and c.from_residual.result c.from_residual.ensures.1 in
    p.1 ∙ ap Err p.2 ∙ consequent_refused t c.args.room a c.args.at c.in_err-head.field-0.0 c.in_err-head.ensures.same

pub returns-then-room-eq0 : goal.returns-then-room-eq0
returns-then-room-eq0 d c =
    let t = table c.args.self.now.table.now in
    let a = around c.args.self.now in
    ap Err c.new.ensures ∙ consequent_too_deep t c.args.room a c.args.at (coded c.in_ok-head.head) c.if-room-eq0.true c.in_ok-head.ensures.same

pub returns-in_err-next-in-And : goal.returns-in_err-next-in-And
returns-in_err-next-in-And d c =
    let t = table c.args.self.now.table.now in
    let a = around c.args.self.now in
    let r = consequent t (c.args.room - 1) a in
    let k = c.in_ok-head.head.kind in
    let o = c.in_ok-head.head.operand in
    let p = err_from_is_err_and c.from_residual-in_err-next-in-And.result c.from_residual-in_err-next-in-And.ensures.1 in
    p.1 ∙ ap Err p.2
    ∙ many_refused layer.Task r (o - c.loop.counter) c.loop.next c.in_err-next-in-And.field-0.0 (omega arith) c.in_err-next-in-And.ensures
    ∙ c.loop.invariant
    ∙ after_and t r a k o (c.args.at + 1) c.in-And.is
    ∙ consequent_goes t c.args.room a c.args.at (coded c.in_ok-head.head) (omega arith) c.in_ok-head.ensures.same

pub loop-preserved : goal.loop-preserved
loop-preserved d c =
    let t = table c.args.self.now.table.now in
    let a = around c.args.self.now in
    let r = consequent t (c.args.room - 1) a in
    many_turn layer.Task r c.in_ok-head.head.operand c.loop.counter c.loop.next c.in_ok-next-in-And.next (omega arith) c.in_ok-next-in-And.ensures
    ∙ c.loop.invariant

pub returns-after-loop : goal.returns-after-loop
returns-after-loop d c =
    let t = table c.args.self.now.table.now in
    let a = around c.args.self.now in
    let r = consequent t (c.args.room - 1) a in
    let k = c.in_ok-head.head.kind in
    let o = c.in_ok-head.head.operand in
    sym (many_over layer.Task r (o - c.loop.counter) c.loop.next (omega arith))
    ∙ c.loop.invariant
    ∙ after_and t r a k o (c.args.at + 1) c.in-And.is
    ∙ consequent_goes t c.args.room a c.args.at (coded c.in_ok-head.head) (omega arith) c.in_ok-head.ensures.same

pub returns-in_default : goal.returns-in_default
returns-in_default d c =
    let t = table c.args.self.now.table.now in
    let a = around c.args.self.now in
    let r = consequent t (c.args.room - 1) a in
    let k = c.in_ok-head.head.kind in
    let o = c.in_ok-head.head.operand in
    c.check_change.ensures
    ∙ after_outcome t r a k o (c.args.at + 1) c.in_default.not-And
    ∙ consequent_goes t c.args.room a c.args.at (coded c.in_ok-head.head) (omega arith) c.in_ok-head.ensures.same
