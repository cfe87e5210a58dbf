use Rattle.table.proofs.Lengths.{operands_long}
use Rattle.std.proofs.Common.{arith}
use Rattle.adl.specs.Held.{tree_of}
use Rattle.runs.proofs.Fittings.{operator_begun}
use Rattle.runs.proofs.Choosing.{all_chosen}
use Rattle.runs.proofs.choices.list_choices.Goals as goal

pub offset_bounds-task-start : goal.offset_bounds-task-start
offset_bounds-task-start c =
    let k = c.args.task.now in
    omega (arith, (operator_begun k c.args.operator c.if-operator-task.false).1.inside, k.table.short)

pub bounds-task-start : goal.bounds-task-start
bounds-task-start c =
    let k = c.args.task.now in
    omega (arith, (operator_begun k c.args.operator c.if-operator-task.false).1.inside, (operands_long k.table.entries k.table.whole))

pub overflow_add-start : goal.overflow_add-start
overflow_add-start c =
    let k = c.args.task.now in
    omega (arith, (operator_begun k c.args.operator c.if-operator-task.false).1.inside, k.table.short)

pub extend-requires-clause-parameters : goal.extend-requires-clause-parameters
extend-requires-clause-parameters c = (_, _, (operator_begun c.args.task.now c.args.operator c.if-operator-task.false).1.parameters)

pub extend-requires-clause-few : goal.extend-requires-clause-few
extend-requires-clause-few c = omega (arith, (operator_begun c.args.task.now c.args.operator c.if-operator-task.false).1.few)

pub returns-in-Ok-clause-count : goal.returns-in-Ok-clause-count
returns-in-Ok-clause-count c h = (operator_begun c.args.task.now c.args.operator h).1.count

pub returns-in-Ok-clause-few : goal.returns-in-Ok-clause-few
returns-in-Ok-clause-few c = omega (arith, (operator_begun c.args.task.now c.args.operator c.if-operator-task.false).1.few)

pub returns-in-Ok-clause-lists : goal.returns-in-Ok-clause-lists
returns-in-Ok-clause-lists c h =
    let k = c.args.task.now in
    let r = (operator_begun k c.args.operator h).1 in
    all_chosen (tree_of k) c.args.operator _ _ _ c.extend.new.out.items (omega arith) c.clear.ensures.items (c.in-Ok.ensures.lists _ _ r.parameters)
