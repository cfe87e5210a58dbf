use Rattle.model.proofs.Stepping.{what_a_step_leaves}
use Rattle.model.proofs.what_a_step_leaves.Goals as goal

pub returns : goal.returns
returns c = what_a_step_leaves
