use Rattle.examples.proofs.Reading.{refusals}
use Rattle.examples.proofs.examples_of_refusals.Goals as goal

pub returns : goal.returns
returns c = refusals
