use Rattle.book_theorems.proofs.Complete.{what_is_written_opens}
use Rattle.book_theorems.proofs.what_is_written_opens.Goals as goal

pub returns : goal.returns
returns c = what_is_written_opens
