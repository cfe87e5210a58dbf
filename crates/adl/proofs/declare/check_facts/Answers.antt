use Rattle.std.proofs.Common.{◌-◌, Err, ap, ◌∙◌, arith}
use Rattle.std.proofs.lemmas.Result.{err_from_is_err_and}
use Rattle.adl.specs.Reads.{fact}
use Rattle.adl.specs.Views.{table}
use Rattle.fault.specs.declared.Layer.TheVariants as layer
use Rattle.table.proofs.Answering.{many_refused, many_turn}
use Rattle.adl.proofs.declare.check_facts.Goals as goal

pub returns-in_err-next : goal.returns-in_err-next
returns-in_err-next c =
    let p = err_from_is_err_and c.from_residual.result c.from_residual.ensures.1 in
    p.1 ∙ ap Err p.2
    ∙ many_refused layer.Task (fact (table c.args.table.now)) (c.args.table.now.sizes.facts - c.loop.counter) c.loop.next c.in_err-next.field-0.0 (omega arith) c.in_err-next.ensures
    ∙ c.loop.invariant

pub loop-preserved : goal.loop-preserved
loop-preserved c =
    many_turn layer.Task (fact (table c.args.table.now)) c.args.table.now.sizes.facts c.loop.counter c.loop.next c.in_ok-next.next (omega arith) c.in_ok-next.ensures
    ∙ c.loop.invariant
