use Rattle.examples.proofs.Reading.{entries}
use Rattle.examples.proofs.examples_of_entries.Goals as goal

pub returns : goal.returns
returns c = entries
