-- The book of a task, written out.
use Rattle.std.specs.Prelude.{◌≡◌, ℕ, ◌≤◌, List, length, Ok}
use Rattle.model.specs.Forming.{WellFormed}
use Rattle.model.specs.Trees.{Task}
use Rattle.model.specs.Books.{book}
use Rattle.adl_theorems.specs.Writes as task_limits
use Rattle.book.specs.Opens.{opens, given, book_of}
use Rattle.book.specs.declared.sizes.Sizes.{Sizes}
use Rattle.book_theorems.specs.Writes.{write_book, Writes}

-- the book of a well-formed task within the limits of a task table opens, where it is written out in no more entries than a book table may have, in
-- arrays that are long enough; and it is that book that stands there
abbrev pub BooksOfTasksOpen : Type 0
BooksOfTasksOpen =
    (t : Task) → WellFormed t → task_limits.WithinLimits t → length (write_book (book t)) ≤ 1048576
    → (z : Sizes) (ks os : List ℕ) → Writes (book t) (given z ks os) → z.entries ≤ length ks → z.entries ≤ length os
    → (opens z ks os ≡ Ok tt) × (book_of (given z ks os) ≡ book t)
