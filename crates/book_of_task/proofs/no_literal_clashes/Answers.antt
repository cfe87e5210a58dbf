use Rattle.book_of_task.proofs.Clashes.{no_literal_clashes}
use Rattle.book_of_task.proofs.no_literal_clashes.Goals as goal

pub returns : goal.returns
returns c = no_literal_clashes
