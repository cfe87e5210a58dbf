use Rattle.examples.proofs.Instantiated.{instantiating}
use Rattle.examples.proofs.examples_of_instantiating.Goals as goal

pub returns : goal.returns
returns c = instantiating
