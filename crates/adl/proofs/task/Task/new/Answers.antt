use Rattle.std.proofs.Common.{refl}
use Rattle.adl.specs.Reads.{formula, task, operator_places}
use Rattle.adl.proofs.task.Task.new.Goals as goal

pub invariant_of-result-2 : goal.invariant_of-result-2
unfolding task formula operator_places
invariant_of-result-2 c = record { formed = refl; counted = refl; goal = refl; placed = refl }

pub returns : goal.returns
unfolding task formula
returns c = refl
