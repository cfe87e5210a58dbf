-- The files of the worked tasks and of their books.
use Rattle.std.specs.Prelude.{◌≡◌, ℕ, ◌≤◌, List, [], ◌∷◌, length, Ok}
use Rattle.adl.specs.declared.sizes.Sizes as task
use Rattle.instantiate.specs.Outcome.{literals_needed}
use Rattle.files.specs.Formats.{laid_out}
use Rattle.files.specs.Converting.{HoldsBook, Room, book_file, converts, size_list, task_in_file}
use Rattle.worked.specs.declared.case.Case.{Case}
use Rattle.worked.specs.declared.case.Case.TheVariants.{CellPainted}
use Rattle.worked.specs.Tables.{task_table, book_table}
use Rattle.worked.specs.ComingOut.{the_task, the_book}

-- the sizes of a task's table, in their order
abbrev pub task_size_list : task.Sizes → List ℕ
task_size_list z = z.objects ∷ z.types ∷ z.predicates ∷ z.facts ∷ z.operators ∷ z.entries ∷ []

-- its table in a file, and that of its book
abbrev pub task_file : Case → List ℕ
task_file c = laid_out (task_size_list (task_table c).sizes) (task_table c).kinds (task_table c).operands

abbrev pub file_of_book : Case → List ℕ
file_of_book c = laid_out (size_list (book_table c).sizes) (book_table c).kinds (book_table c).operands

-- there is room for the entries of the task and of its book, and for its literals
pub record Enough (c : Case) (room : Room) : Type 0 where
  pub task_kinds : (task_table c).sizes.entries ≤ room.task_kinds
  pub task_operands : (task_table c).sizes.entries ≤ room.task_operands
  pub literals : literals_needed (the_task c) ≤ room.literals
  pub book_kinds : (book_table c).sizes.entries ≤ room.book_kinds
  pub book_operands : (book_table c).sizes.entries ≤ room.book_operands

pub record FileComesOut (c : Case) : Type 0 where
  -- with room, converting the task's file answers the length of its book's file, and that is what is written
  pub converts : (room : Room) (output : ℕ) → Enough c room → length (file_of_book c) ≤ output → converts (task_file c) room output ≡ Ok (length (file_of_book c))
  pub written : book_file (task_in_file (task_file c)) ≡ file_of_book c
  -- it is a file of the task's book
  pub holds : HoldsBook (file_of_book c) (the_book c)

-- the files of all worked tasks do; that of the painted cell has 114 bytes, and its book's 65
pub record WorkedFilesComeOut : Type 0 where
  pub each : (c : Case) → FileComesOut c
  pub painted : length (task_file CellPainted) ≡ 114
  pub painted_book : length (file_of_book CellPainted) ≡ 65
