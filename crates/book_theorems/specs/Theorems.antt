-- What is shown of opening.
use Rattle.std.specs.Prelude.{◌≡◌, ℕ, ◌≤◌, List, length, Ok}
use Rattle.model.specs.Books.{Book}
use Rattle.model.specs.Opening.{WellFormedBook}
use Rattle.book.specs.Tables.{most_names}
use Rattle.book.specs.Opens.{opens, given, book_of}
use Rattle.book_theorems.specs.Writes.{Writes, WithinLimits}
use Rattle.book.specs.Held.{tree_of}
use Rattle.book.specs.declared.sizes.Sizes.{Sizes}
use Rattle.book.specs.declared.book.Book.{Book as Record}

-- operators and objects of a book's names are below 32
abbrev pub WellFormed : Book → Type 0
WellFormed = WellFormedBook most_names most_names

-- every well-formed book within the limits, written out in arrays that are long enough, opens, and it is that book that stands there
abbrev pub WhatIsWrittenOpens : Type 0
WhatIsWrittenOpens =
    (x : Book) → WellFormed x → WithinLimits x → (z : Sizes) (ks os : List ℕ) → Writes x (given z ks os) → z.entries ≤ length ks → z.entries ≤ length os
    → (opens z ks os ≡ Ok tt) × (book_of (given z ks os) ≡ x)

-- a table that opens is a book written out, one that is well formed and within the limits
pub record WasWritten (z : Sizes) (ks os : List ℕ) : Type 0 where
  pub written : Writes (book_of (given z ks os)) (given z ks os)
  pub formed : WellFormed (book_of (given z ks os))
  pub limits : WithinLimits (book_of (given z ks os))
  -- and of no other such book
  pub only : (x : Book) → WellFormed x → WithinLimits x → Writes x (given z ks os) → x ≡ book_of (given z ks os)

abbrev pub WhatOpensWasWritten : Type 0
WhatOpensWasWritten = (z : Sizes) (ks os : List ℕ) → opens z ks os ≡ Ok tt → WasWritten z ks os

-- a record that exists holds a well-formed book
abbrev pub RecordsHoldWellFormedBooks : Type 0
RecordsHoldWellFormedBooks = (r : Record) → WellFormed (tree_of r)
