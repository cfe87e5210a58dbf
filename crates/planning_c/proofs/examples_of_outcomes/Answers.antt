use Rattle.planning_c.proofs.Told.{outcomes}
use Rattle.planning_c.proofs.examples_of_outcomes.Goals as goal

pub returns : goal.returns
returns c = outcomes
