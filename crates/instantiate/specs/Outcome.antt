-- What instantiating a task answers.
use Rattle.std.specs.Prelude.{ℕ, ◌++◌, cond, min, List, length, map, Ok, Err, Result, nat_lt}
use Rattle.std.proofs.Math.Option.{Option, some, none}
use Rattle.fault.specs.declared.Fault.{Fault}
use Rattle.fault.specs.declared.Layer.TheVariants.{Book}
use Rattle.fault.specs.Faults.{refusal}
use Rattle.table.specs.Reading.{Entry, entry}
use Rattle.model.specs.Lists.{gather}
use Rattle.model.specs.Trees.{Task, Name}
use Rattle.model.specs.Meaning.{Literal}
use Rattle.model.specs.Settling.{choices, named, names, reach, round_one, round_two}
use Rattle.model.specs.Books as tree
use Rattle.model.specs.Books.{actions, book}
use Rattle.book.specs.declared.sizes.Sizes.{Sizes}
use Rattle.book_theorems.specs.Writes.{write_start, write_ground, write_book}
use Rattle.instantiate.specs.Listing.{different}
use Rattle.book_of_task.specs.Places.{first_clash}

-- the names of an operator's actions
abbrev pub names_of : Task → ℕ → List Name
names_of t i = map (named i) (choices t i)

-- the literals that the actions of an operator can bring about in round one, and those of all operators
abbrev pub literals_of : Task → ℕ → List Literal
literals_of t i = gather (reach t (round_one t)) (names_of t i)

abbrev pub literals_one : Task → List Literal
literals_one t = gather (reach t (round_one t)) (names t)

-- how many places the list of literals needs
abbrev pub literals_needed : Task → ℕ
literals_needed t = different (literals_one t)

-- the entries of a task's book
abbrev pub book_entries : Task → List Entry
book_entries t = write_book (book t)

-- the entries of a task's book before its actions: both groups of atoms and the goal
abbrev pub preface_entries : Task → List Entry
preface_entries t = map write_start (book t).relevant ++ (map (entry 21) (book t).always ++ write_ground (book t).goal)

-- the actions of an operator in the book
abbrev pub actions_of : Task → ℕ → List tree.Action
actions_of t i = actions t (round_two t) (names_of t i)

-- the sizes of a book
abbrev pub sizes_of : tree.Book → Sizes
sizes_of b = record {
  atoms = b.atoms;
  relevant = length b.relevant;
  always = length b.always;
  actions = length b.actions;
  entries = length (write_book b);
}

-- the most entries of a book that is written into arrays of these lengths
abbrev pub most : ℕ → ℕ → ℕ
most kinds operands = min (min kinds operands) 1048576

-- unless there is a clash
abbrev pub unless_clash : Option ℕ → Result Sizes Fault → Result Sizes Fault
unless_clash none rest = rest
unless_clash (some p) rest = Err (refusal 13 Book p)

-- with room for so many literals in the list, and so many entries in the arrays: a list that is too short is told first, by its length,
-- then a clash, then a book that is too long, by its entries; else the sizes of the task's book
abbrev pub instantiates : Task → ℕ → ℕ → ℕ → Result Sizes Fault
instantiates t room kinds operands =
    cond (nat_lt room (literals_needed t)) (Err (refusal 12 Book room))
    (unless_clash (first_clash t)
    (cond (nat_lt (most kinds operands) (length (book_entries t))) (Err (refusal 11 Book (length (book_entries t))))
    (Ok (sizes_of (book t)))))

-- these numbers stand at the front of an array, and past them it is as it was
abbrev pub kinds_of : List Entry → List ℕ
kinds_of = map (λ (e : Entry). e.kind)

abbrev pub operands_of : List Entry → List ℕ
operands_of = map (λ (e : Entry). e.operand)
