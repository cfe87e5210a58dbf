-- The files of tasks and of books, and what converting the one into the other answers.
use Rattle.std.specs.Prelude.{◌≡◌, ℕ, cond, nat_lt, List, [], ◌∷◌, length, drop, Ok, Err, Result}
use Rattle.fault.specs.declared.Fault.{Fault}
use Rattle.fault.specs.declared.Layer.TheVariants.{File}
use Rattle.fault.specs.Faults.{refusal}
use Rattle.table.specs.Answers.{Answer, and_then}
use Rattle.model.specs.Trees.{Task}
use Rattle.model.specs.Books.{Book, book}
use Rattle.adl.specs.declared.sizes.Sizes as task
use Rattle.adl.specs.Loads as loading
use Rattle.adl.specs.Loads.{loads, task_of}
use Rattle.book.specs.declared.sizes.Sizes as ground
use Rattle.book.specs.Opens as opening
use Rattle.book.specs.Opens.{opens, book_of}
use Rattle.instantiate.specs.Growing.{over}
use Rattle.instantiate.specs.Outcome.{book_entries, sizes_of, instantiates}
use Rattle.files.specs.declared.converting.Lent.{Lent}
use Rattle.files.specs.Formats.{number, file, kinds_told, operands_told, fits, reads}

-- the six sizes that the file of a task opens with
abbrev pub task_sizes : List ℕ → task.Sizes
task_sizes b = record {
  objects = number b;
  types = number (drop 4 b);
  predicates = number (drop 8 b);
  facts = number (drop 12 b);
  operators = number (drop 16 b);
  entries = number (drop 20 b);
}

-- the task that stands in it
abbrev pub task_in_file : List ℕ → Task
task_in_file b = task_of (loading.given (task_sizes b) (kinds_told 6 b) (operands_told 6 b))

-- what loading it answers, with so many places: the first refusal of reading it, and of loading
abbrev pub loads_file : List ℕ → ℕ → ℕ → Answer
loads_file b kinds operands = and_then (reads 6 b kinds operands) (loads (task_sizes b) (kinds_told 6 b) (operands_told 6 b))

-- the five sizes that the file of a book opens with
abbrev pub book_sizes : List ℕ → ground.Sizes
book_sizes b = record {
  atoms = number b;
  relevant = number (drop 4 b);
  always = number (drop 8 b);
  actions = number (drop 12 b);
  entries = number (drop 16 b);
}

-- what opening it answers, in the same form
abbrev pub opens_file : List ℕ → ℕ → ℕ → Answer
opens_file b kinds operands = and_then (reads 5 b kinds operands) (opens (book_sizes b) (kinds_told 5 b) (operands_told 5 b))

-- what an array holds into which these numbers were read, if there was no refusal
abbrev pub read_into : Answer → List ℕ → List ℕ → List ℕ
read_into (Ok u) xs old = over xs old
read_into (Err f) xs old = old

-- the file of a task's book
abbrev pub size_list : ground.Sizes → List ℕ
size_list z = z.atoms ∷ (z.relevant ∷ (z.always ∷ (z.actions ∷ (z.entries ∷ []))))

abbrev pub book_file : Task → List ℕ
book_file t = file (size_list (sizes_of (book t))) (book_entries t)

-- these bytes are the file of a book: they are as many as their sizes tell, what they tell opens, and it is that book
pub record HoldsBook (bytes : List ℕ) (x : Book) : Type 0 where
  pub fits : fits 5 bytes ≡ Ok tt
  pub opens : opens (book_sizes bytes) (kinds_told 5 bytes) (operands_told 5 bytes) ≡ Ok tt
  pub book : book_of (opening.given (book_sizes bytes) (kinds_told 5 bytes) (operands_told 5 bytes)) ≡ x

-- how many places the lent arrays have
pub record Room : Type 0 where
  pub task_kinds : ℕ
  pub task_operands : ℕ
  pub literals : ℕ
  pub book_kinds : ℕ
  pub book_operands : ℕ

abbrev pub room_of : Lent → Room
room_of lent = record {
  task_kinds = length lent.task_kinds.now;
  task_operands = length lent.task_operands.now;
  literals = length lent.literals.now;
  book_kinds = length lent.book_kinds.now;
  book_operands = length lent.book_operands.now;
}

-- unless there is a refusal before
abbrev pub before : {A B : Type 0} → Result A Fault → Result B Fault → Result B Fault
before (Ok x) next = next
before (Err f) next = Err f

-- what writing the file of a task's book answers, with so many places: the first refusal of instantiating, and of the output, which tells the bytes
-- needed; else the length of the file
abbrev pub writes_file : Task → ℕ → ℕ → ℕ → ℕ → Result ℕ Fault
writes_file t literals kinds operands output =
    before (instantiates t literals kinds operands)
    (cond (nat_lt output (length (book_file t))) (Err (refusal 14 File (length (book_file t))))
    (Ok (length (book_file t))))

-- what converting answers: the first refusal of loading the file, and of writing
abbrev pub converts : List ℕ → Room → ℕ → Result ℕ Fault
converts input room output =
    before (loads_file input room.task_kinds room.task_operands)
    (writes_file (task_in_file input) room.literals room.book_kinds room.book_operands output)
