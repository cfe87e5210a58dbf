use Rattle.table.proofs.Lengths.{operands_long}
use Rattle.book.specs.Held.{held}
use Rattle.book.proofs.WellFormed.{opened_books_are_well_formed}
use Rattle.book_theorems.proofs.records_hold_well_formed_books.Goals as goal

pub returns : goal.returns
returns c = λ r. opened_books_are_well_formed (held r) r.formed (operands_long r.table.entries r.table.whole) r.table.few
