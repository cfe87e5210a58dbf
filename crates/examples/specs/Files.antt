-- Files: numbers as bytes, what a file tells, and what is refused.
use Rattle.std.specs.Prelude.{◌≡◌, ℕ, ◌^◌, List, [], ◌∷◌, Ok, Err}
use Rattle.fault.specs.declared.Layer.TheVariants.{Task, Book, File}
use Rattle.fault.specs.Faults.{refusal}
use Rattle.model.specs.Books as tree
use Rattle.files.specs.Formats.{number, laid_out, numbers, kinds_told, operands_told, reads}
use Rattle.files.specs.Converting.{HoldsBook, converts, loads_file, opens_file, read_into, Room}
use Rattle.files.specs.Theorems.{FourBytes, Bytes, Tells}
use Rattle.worked.specs.declared.case.Case.TheVariants.{GoalTrue, CellPainted}
use Rattle.worked.specs.Files.{task_file, file_of_book}
use Rattle.worked.specs.ComingOut.{the_book}

-- so many places in each array
abbrev pub places : ℕ → Room
places n = record { task_kinds = n; task_operands = n; literals = n; book_kinds = n; book_operands = n }

-- two sizes, 9 and 2, then two kinds, then two operands
abbrev pub small_file : List ℕ
small_file = 9 ∷ 0 ∷ 0 ∷ 0 ∷ 2 ∷ 0 ∷ 0 ∷ 0 ∷ 14 ∷ 5 ∷ 1 ∷ 2 ∷ 0 ∷ 0 ∷ 0 ∷ 0 ∷ 0 ∷ 128 ∷ []

pub record FilesByExample : Type 0 where
  -- four bytes, least first
  pub bytes : number (1 ∷ 2 ∷ 0 ∷ 0 ∷ []) ≡ 513
  pub lays_out : laid_out (9 ∷ 2 ∷ []) (14 ∷ 5 ∷ []) (513 ∷ 2147483648 ∷ []) ≡ small_file
  pub tells : Tells (9 ∷ 2 ∷ []) (14 ∷ 5 ∷ []) (513 ∷ 2147483648 ∷ []) small_file
  pub tells_not : Tells (9 ∷ 2 ∷ []) (14 ∷ 5 ∷ []) (513 ∷ 0 ∷ []) small_file → ⊥
  pub again : laid_out (numbers 2 small_file) (kinds_told 2 small_file) (operands_told 2 small_file) ≡ small_file
  pub in_four_bytes : FourBytes (513 ∷ 2147483648 ∷ [])
  pub too_large : FourBytes (2 ^ 32 ∷ []) → ⊥
  pub are_bytes : Bytes small_file
  pub no_bytes : Bytes (9 ∷ 256 ∷ []) → ⊥
  -- 9: one byte is no file; a file with a byte after it
  pub one_byte : reads 6 (7 ∷ []) 9 9 ≡ Err (refusal 9 File 1)
  -- 10: the array of the kinds, or of the operands, has no place
  pub no_kind : loads_file (task_file GoalTrue) 0 1 ≡ Err (refusal 10 File 0)
  pub no_operand : loads_file (task_file GoalTrue) 1 0 ≡ Err (refusal 10 File 0)
  pub loads : loads_file (task_file GoalTrue) 1 1 ≡ Ok tt
  pub opens : opens_file (file_of_book GoalTrue) 1 1 ≡ Ok tt
  -- the file of a task is none of a book
  pub no_book : opens_file (task_file GoalTrue) 9 9 ≡ Err (refusal 9 File 29)
  -- 14: the file of the book has 25 bytes
  pub too_short : converts (task_file GoalTrue) (places 1) 24 ≡ Err (refusal 14 File 25)
  pub long_enough : converts (task_file GoalTrue) (places 1) 25 ≡ Ok 25
  -- refusals of loading and of instantiating come through
  pub not_loaded : converts (laid_out (1 ∷ 0 ∷ 0 ∷ 0 ∷ 0 ∷ 1 ∷ []) (12 ∷ []) (0 ∷ [])) (places 9) 99 ≡ Err (refusal 3 Task 0)
  pub not_written : converts (task_file CellPainted) (record (places 18) { book_kinds = 8 }) 99 ≡ Err (refusal 11 Book 9)
  -- bytes that hold a book, and bytes that do not
  pub holds : HoldsBook (file_of_book CellPainted) (the_book CellPainted)
  pub holds_not : (b : tree.Book) → HoldsBook (7 ∷ []) b → ⊥
  -- what an array holds after a file was read into it, or was refused
  pub filled : read_into (Ok tt) (14 ∷ []) (0 ∷ 7 ∷ []) ≡ 14 ∷ 7 ∷ []
  pub left : read_into (Err (refusal 9 File 1)) (14 ∷ []) (0 ∷ 7 ∷ []) ≡ 0 ∷ 7 ∷ []
