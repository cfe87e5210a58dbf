use Rattle.std.proofs.Common.{◌+◌, ◌-◌, Err, sym, ap, ◌∙◌, arith}
use Rattle.std.proofs.lemmas.Result.{err_from_is_err_and}
use Rattle.adl.specs.Reads.{formula}
use Rattle.adl.specs.Views.{table, around, answer}
use Rattle.table.specs.Entries.{coded}
use Rattle.fault.specs.declared.Layer.TheVariants as layer
use Rattle.table.proofs.Answering.{many_refused, many_turn, many_over}
use Rattle.adl.proofs.Parts.{formula_refused, formula_too_deep, formula_goes, after_atom, after_equal, equal_refused, after_not, after_junction, after_imply, imply_refused, after_quantifier, after_constant}
use Rattle.adl.proofs.reader.Reader.+check_formula.Goals as goal

pub returns-in_err-head : goal.returns-in_err-head
returns-in_err-head d c =
    let t = table c.args.self.now.table.now in
    let a = around c.args.self.now in
    let p = err_from_is_err_and c.from_residual.result c.from_residual.ensures.1 in
    p.1 ∙ ap Err p.2 ∙ formula_refused t c.args.room a c.args.at c.in_err-head.field-0.0 c.in_err-head.ensures.same

pub returns-then-room-eq0 : goal.returns-then-room-eq0
returns-then-room-eq0 d c =
    let t = table c.args.self.now.table.now in
    let a = around c.args.self.now in
    ap Err c.new.ensures ∙ formula_too_deep t c.args.room a c.args.at (coded c.in_ok-head.head) c.if-room-eq0.true c.in_ok-head.ensures.same

pub returns-in_err-next-in-And : goal.returns-in_err-next-in-And
returns-in_err-next-in-And d c =
    let t = table c.args.self.now.table.now in
    let a = around c.args.self.now in
    let r = formula t (c.args.room - 1) in
    let k = c.in_ok-head.head.kind in
    let o = c.in_ok-head.head.operand in
    let p = err_from_is_err_and c.from_residual-in_err-next-in-And.result c.from_residual-in_err-next-in-And.ensures.1 in
    p.1 ∙ ap Err p.2
    ∙ many_refused layer.Task (r a) (o - c.loop.counter) c.loop.next c.in_err-next-in-And.field-0.0 (omega arith) c.in_err-next-in-And.ensures
    ∙ c.loop.invariant
    ∙ after_junction t r a k o (c.args.at + 1) c.in-And.is
    ∙ formula_goes t c.args.room a c.args.at (coded c.in_ok-head.head) (omega arith) c.in_ok-head.ensures.same

pub loop-preserved : goal.loop-preserved
loop-preserved d c =
    let t = table c.args.self.now.table.now in
    let a = around c.args.self.now in
    let r = formula t (c.args.room - 1) in
    many_turn layer.Task (r a) c.in_ok-head.head.operand c.loop.counter c.loop.next c.in_ok-next-in-And.next (omega arith) c.in_ok-next-in-And.ensures
    ∙ c.loop.invariant

pub returns-after-loop : goal.returns-after-loop
returns-after-loop d c =
    let t = table c.args.self.now.table.now in
    let a = around c.args.self.now in
    let r = formula t (c.args.room - 1) in
    let k = c.in_ok-head.head.kind in
    let o = c.in_ok-head.head.operand in
    sym (many_over layer.Task (r a) (o - c.loop.counter) c.loop.next (omega arith))
    ∙ c.loop.invariant
    ∙ after_junction t r a k o (c.args.at + 1) c.in-And.is
    ∙ formula_goes t c.args.room a c.args.at (coded c.in_ok-head.head) (omega arith) c.in_ok-head.ensures.same

pub returns-in-Atom : goal.returns-in-Atom
returns-in-Atom d c =
    let t = table c.args.self.now.table.now in
    let a = around c.args.self.now in
    let r = formula t (c.args.room - 1) in
    let k = c.in_ok-head.head.kind in
    let o = c.in_ok-head.head.operand in
    c.check_terms.ensures
    ∙ after_atom t r a k o (c.args.at + 1) c.in-Atom.is
    ∙ formula_goes t c.args.room a c.args.at (coded c.in_ok-head.head) (omega arith) c.in_ok-head.ensures.same

pub returns-in_err-second-in-Equal : goal.returns-in_err-second-in-Equal
returns-in_err-second-in-Equal d c =
    let t = table c.args.self.now.table.now in
    let a = around c.args.self.now in
    let r = formula t (c.args.room - 1) in
    let k = c.in_ok-head.head.kind in
    let o = c.in_ok-head.head.operand in
    let p = err_from_is_err_and c.from_residual-in_err-second-in-Equal.result c.from_residual-in_err-second-in-Equal.ensures.1 in
    p.1 ∙ ap Err p.2
    ∙ equal_refused t r a k o (c.args.at + 1) c.in-Equal.is c.in_err-second-in-Equal.field-0.0 c.in_err-second-in-Equal.ensures
    ∙ formula_goes t c.args.room a c.args.at (coded c.in_ok-head.head) (omega arith) c.in_ok-head.ensures.same

pub returns-in_ok-second-in-Equal : goal.returns-in_ok-second-in-Equal
returns-in_ok-second-in-Equal d c =
    let t = table c.args.self.now.table.now in
    let a = around c.args.self.now in
    let r = formula t (c.args.room - 1) in
    let k = c.in_ok-head.head.kind in
    let o = c.in_ok-head.head.operand in
    c.check_term-in-Equal.ensures
    ∙ after_equal t r a k o (c.args.at + 1) c.in-Equal.is c.in_ok-second-in-Equal.second c.in_ok-second-in-Equal.ensures
    ∙ formula_goes t c.args.room a c.args.at (coded c.in_ok-head.head) (omega arith) c.in_ok-head.ensures.same

pub returns-in-Not : goal.returns-in-Not
returns-in-Not d c =
    let t = table c.args.self.now.table.now in
    let a = around c.args.self.now in
    let r = formula t (c.args.room - 1) in
    let k = c.in_ok-head.head.kind in
    let o = c.in_ok-head.head.operand in
    c.check_formula.ensures
    ∙ after_not t r a k o (c.args.at + 1) c.in-Not.is
    ∙ formula_goes t c.args.room a c.args.at (coded c.in_ok-head.head) (omega arith) c.in_ok-head.ensures.same

pub returns-in_err-second-in-Imply : goal.returns-in_err-second-in-Imply
returns-in_err-second-in-Imply d c =
    let t = table c.args.self.now.table.now in
    let a = around c.args.self.now in
    let r = formula t (c.args.room - 1) in
    let k = c.in_ok-head.head.kind in
    let o = c.in_ok-head.head.operand in
    let p = err_from_is_err_and c.from_residual-in_err-second-in-Imply.result c.from_residual-in_err-second-in-Imply.ensures.1 in
    p.1 ∙ ap Err p.2
    ∙ imply_refused t r a k o (c.args.at + 1) c.in-Imply.is c.in_err-second-in-Imply.field-0.0 c.in_err-second-in-Imply.ensures
    ∙ formula_goes t c.args.room a c.args.at (coded c.in_ok-head.head) (omega arith) c.in_ok-head.ensures.same

pub returns-in_ok-second-in-Imply : goal.returns-in_ok-second-in-Imply
returns-in_ok-second-in-Imply d c =
    let t = table c.args.self.now.table.now in
    let a = around c.args.self.now in
    let r = formula t (c.args.room - 1) in
    let k = c.in_ok-head.head.kind in
    let o = c.in_ok-head.head.operand in
    c.check_formula-in-Imply-2.ensures
    ∙ after_imply t r a k o (c.args.at + 1) c.in-Imply.is c.in_ok-second-in-Imply.second c.in_ok-second-in-Imply.ensures
    ∙ formula_goes t c.args.room a c.args.at (coded c.in_ok-head.head) (omega arith) c.in_ok-head.ensures.same

pub returns-in-Forall : goal.returns-in-Forall
returns-in-Forall d c =
    let t = table c.args.self.now.table.now in
    let a = around c.args.self.now in
    let r = formula t (c.args.room - 1) in
    let k = c.in_ok-head.head.kind in
    let o = c.in_ok-head.head.operand in
    c.check_formula-in-Forall.ensures
    ∙ ap (λ x. answer (formula x (c.args.room - 1) (around c.deeper.result) (c.args.at + 1))) c.deeper.ensures.table
    ∙ ap (λ x. answer (r x (c.args.at + 1))) c.deeper.ensures.around
    ∙ after_quantifier t r a k o (c.args.at + 1) c.in-Forall.is
    ∙ formula_goes t c.args.room a c.args.at (coded c.in_ok-head.head) (omega arith) c.in_ok-head.ensures.same

pub returns-in_default : goal.returns-in_default
returns-in_default d c =
    let t = table c.args.self.now.table.now in
    let a = around c.args.self.now in
    let r = formula t (c.args.room - 1) in
    let k = c.in_ok-head.head.kind in
    let o = c.in_ok-head.head.operand in
    after_constant t r a k o (c.args.at + 1) c.in_default.not-Atom c.in_default.not-Equal c.in_default.not-Not c.in_default.not-And c.in_default.not-Or c.in_default.not-Imply c.in_default.not-Forall c.in_default.not-Exists
    ∙ formula_goes t c.args.room a c.args.at (coded c.in_ok-head.head) (omega arith) c.in_ok-head.ensures.same
