use Rattle.examples.proofs.Ascending.{rising_lists}
use Rattle.examples.proofs.examples_of_rising_lists.Goals as goal

pub returns : goal.returns
returns c = rising_lists
