use Rattle.examples.proofs.Both.{agreeing}
use Rattle.examples.proofs.examples_of_agreeing.Goals as goal

pub returns : goal.returns
returns c = agreeing
