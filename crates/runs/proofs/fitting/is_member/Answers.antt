use Rattle.table.proofs.Lengths.{operands_long}
use Rattle.std.proofs.Common.{arith}
use Rattle.adl.specs.Held.{held}
use Rattle.adl_theorems.proofs.Standing.{declarations_inside}
use Rattle.runs.proofs.Membership.{object_is_member, no_member}
use Rattle.runs.proofs.fitting.is_member.Goals as goal

pub bounds-task-type_number : goal.bounds-task-type_number
bounds-task-type_number c = let k = c.args.task.now in omega (arith, declarations_inside (held k) k.formed, (operands_long k.table.entries k.table.whole))

pub returns-then-object-task : goal.returns-then-object-task
returns-then-object-task c =
    let k = c.args.task.now in
    object_is_member (held k) k.formed c.args.type_number c.args.object c.requires c.if-object-task.true

pub returns-else-object-task : goal.returns-else-object-task
returns-else-object-task c =
    let k = c.args.task.now in
    no_member (held k) k.formed c.args.type_number c.args.object c.requires c.if-object-task.false
