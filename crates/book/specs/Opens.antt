-- What opening answers, and the book that a record holds.
use Rattle.std.specs.Prelude.{ℕ, ◌+◌, Bool, true, ◌||◌, List, [], Ok, ◌==◌, nat_lt}
use Rattle.fault.specs.declared.Layer.TheVariants as layer
use Rattle.table.specs.Reading.{Out, bad, good}
use Rattle.table.specs.Answers as read
use Rattle.table.specs.Answers.{Answer, done, refuse_if, and_then, is_good}
use Rattle.model.specs.Settling.{known}
use Rattle.model.specs.Books as tree
use Rattle.book.specs.Tables.{Table}
use Rattle.book.specs.Reads.{book}
use Rattle.book.specs.declared.sizes.Sizes.{Sizes}

-- the sizes, first to last: each outside its limits is refused by its position; that both groups together have more atoms than there
-- are is told of the second
abbrev pub sizes_fit : Sizes → Answer
sizes_fit z =
    refuse_if layer.Book (nat_lt 65536 z.atoms) 1 0
    (refuse_if layer.Book (nat_lt z.atoms (z.relevant + z.always)) 1 2
    (refuse_if layer.Book (nat_lt 1048576 z.actions) 1 3
    (refuse_if layer.Book (z.entries == 0 || nat_lt 1048576 z.entries) 1 4
    (Ok tt))))

-- each array has at least as many places as there are entries, kinds first
abbrev pub lengths_fit : ℕ → List ℕ → List ℕ → Answer
lengths_fit = read.lengths_fit layer.Book

-- the table that these sizes and arrays make
abbrev pub given : Sizes → List ℕ → List ℕ → Table
given z ks os = record {
  atoms = z.atoms;
  relevant = z.relevant;
  always = z.always;
  actions = z.actions;
  entries = z.entries;
  kinds = ks;
  operands = os;
}

-- what opening answers: the first fault of the sizes, of the arrays, of the entries
abbrev pub opens : Sizes → List ℕ → List ℕ → Answer
opens z ks os = and_then (sizes_fit z) (and_then (lengths_fit z.entries ks os) (done layer.Book (book (given z ks os))))

-- a book stands in the table
abbrev pub accepted : Table → Bool
accepted t = is_good (book t)

-- no atoms, the goal TRUE, and no actions
abbrev pub blank : tree.Book
blank = record { atoms = 0; relevant = []; always = []; goal = known true; actions = [] }

abbrev pub book_in : Out tree.Book → tree.Book
book_in (bad n p) = blank
book_in (good b j) = b

-- the book that stands in the table
abbrev pub book_of : Table → tree.Book
book_of t = book_in (book t)
