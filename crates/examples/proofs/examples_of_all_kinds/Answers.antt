use Rattle.examples.proofs.AllKinds.{all_kinds}
use Rattle.examples.proofs.examples_of_all_kinds.Goals as goal

pub returns : goal.returns
returns c = all_kinds
