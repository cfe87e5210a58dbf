use Rattle.examples.proofs.Rounds.{clash, writing}
use Rattle.examples.proofs.examples_of_settling.Goals as goal

pub returns-clause-clashes : goal.returns-clause-clashes
returns-clause-clashes c = clash

pub returns-clause-writes : goal.returns-clause-writes
returns-clause-writes c = writing
