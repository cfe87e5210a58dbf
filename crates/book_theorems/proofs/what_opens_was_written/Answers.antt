use Rattle.book_theorems.proofs.Sound.{what_opens_was_written}
use Rattle.book_theorems.proofs.what_opens_was_written.Goals as goal

pub returns : goal.returns
returns c = what_opens_was_written
