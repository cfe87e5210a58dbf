use Rattle.examples.proofs.Books.{opening, finding}
use Rattle.examples.proofs.examples_of_opening.Goals as goal

pub returns-clause-opens : goal.returns-clause-opens
returns-clause-opens c = opening

pub returns-clause-finds : goal.returns-clause-finds
returns-clause-finds c = finding
