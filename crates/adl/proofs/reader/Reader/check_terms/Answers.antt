use Rattle.std.proofs.Common.{◌-◌, Err, ap, ◌∙◌, arith}
use Rattle.std.proofs.lemmas.Result.{err_from_is_err_and}
use Rattle.adl.specs.Tables.{arity}
use Rattle.adl.specs.Reads.{term}
use Rattle.adl.specs.Views.{table, around}
use Rattle.fault.specs.declared.Layer.TheVariants as layer
use Rattle.table.proofs.Answering.{many_refused, many_turn}
use Rattle.adl.proofs.reader.Reader.check_terms.Goals as goal

pub returns-in_err-next : goal.returns-in_err-next
returns-in_err-next c =
    let t = table c.args.self.now.table.now in
    let p = err_from_is_err_and c.from_residual.result c.from_residual.ensures.1 in
    p.1 ∙ ap Err p.2
    ∙ many_refused layer.Task (term t (around c.args.self.now)) (arity t c.args.predicate - c.loop.counter) c.loop.next c.in_err-next.field-0.0 (omega arith) c.in_err-next.ensures
    ∙ c.loop.invariant

pub loop-preserved : goal.loop-preserved
loop-preserved c =
    let t = table c.args.self.now.table.now in
    many_turn layer.Task (term t (around c.args.self.now)) (arity t c.args.predicate) c.loop.counter c.loop.next c.in_ok-next.next (omega arith) c.in_ok-next.ensures
    ∙ c.loop.invariant
