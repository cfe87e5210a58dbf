use Rattle.std.proofs.Common.{◌+◌, ◌-◌, sym, ◌∙◌, arith}
use Rattle.fault.specs.declared.Layer.TheVariants as layer
use Rattle.table.proofs.Answering.{many_refused, many_turn, many_over}
use Rattle.book.specs.Reads.{ground}
use Rattle.table.specs.Entries.{coded}
use Rattle.book.specs.Views.{table}
use Rattle.book.proofs.Heading.{handed_back}
use Rattle.book.proofs.Parts.{ground_refused, ground_goes, after_not, after_junction, after_leaf}
use Rattle.book.proofs.check.+check_ground.Goals as goal

pub returns-in_err-head : goal.returns-in_err-head
returns-in_err-head d c =
    let t = table c.args.table.now in
    handed_back c.from_residual.result _ c.from_residual.ensures.1
    ∙ ground_refused t c.args.levels c.args.at c.in_err-head.field-0.0 c.in_err-head.ensures.same

pub returns-in-Not : goal.returns-in-Not
returns-in-Not d c =
    let t = table c.args.table.now in
    let r = ground t (c.args.levels - 1) in
    let h = c.in_ok-head.head in
    c.check_ground.ensures
    ∙ after_not r h.kind h.operand (c.args.at + 1) c.in-Not.is
    ∙ ground_goes t c.args.levels c.args.at (coded h) c.in_ok-head.ensures.room c.in_ok-head.ensures.same

pub returns-in_err-next-in-And : goal.returns-in_err-next-in-And
returns-in_err-next-in-And d c =
    let t = table c.args.table.now in
    let r = ground t (c.args.levels - 1) in
    let h = c.in_ok-head.head in
    handed_back c.from_residual-in_err-next-in-And.result _ c.from_residual-in_err-next-in-And.ensures.1
    ∙ many_refused layer.Book r (h.operand - c.loop.counter) c.loop.next c.in_err-next-in-And.field-0.0 (omega arith) c.in_err-next-in-And.ensures
    ∙ c.loop.invariant
    ∙ after_junction r h.kind h.operand (c.args.at + 1) c.in-And.is
    ∙ ground_goes t c.args.levels c.args.at (coded h) c.in_ok-head.ensures.room c.in_ok-head.ensures.same

pub loop-preserved : goal.loop-preserved
loop-preserved d c =
    let r = ground (table c.args.table.now) (c.args.levels - 1) in
    many_turn layer.Book r c.in_ok-head.head.operand c.loop.counter c.loop.next c.in_ok-next-in-And.next (omega arith) c.in_ok-next-in-And.ensures
    ∙ c.loop.invariant

pub returns-after-loop : goal.returns-after-loop
returns-after-loop d c =
    let t = table c.args.table.now in
    let r = ground t (c.args.levels - 1) in
    let h = c.in_ok-head.head in
    sym (many_over layer.Book r (h.operand - c.loop.counter) c.loop.next (omega arith))
    ∙ c.loop.invariant
    ∙ after_junction r h.kind h.operand (c.args.at + 1) c.in-And.is
    ∙ ground_goes t c.args.levels c.args.at (coded h) c.in_ok-head.ensures.room c.in_ok-head.ensures.same

pub returns-in_default : goal.returns-in_default
returns-in_default d c =
    let t = table c.args.table.now in
    let h = c.in_ok-head.head in
    after_leaf (ground t (c.args.levels - 1)) h.kind h.operand (c.args.at + 1) c.in_default.not-Not c.in_default.not-And c.in_default.not-Or
    ∙ ground_goes t c.args.levels c.args.at (coded h) c.in_ok-head.ensures.room c.in_ok-head.ensures.same
