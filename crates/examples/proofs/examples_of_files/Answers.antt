use Rattle.examples.proofs.Bytes.{files}
use Rattle.examples.proofs.examples_of_files.Goals as goal

pub returns : goal.returns
returns c = files
