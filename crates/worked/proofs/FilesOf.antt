-- The files of the worked tasks, by computing.
use Rattle.std.proofs.Common.{◌≡◌, ℕ, ◌≤◌, cond, ltb, List, length, Ok, Err, refl, ap, ◌∙◌}
use Rattle.fault.specs.declared.Layer.TheVariants.{File}
use Rattle.fault.specs.Faults.{refusal}
use Rattle.table.specs.Answers.{and_then}
use Rattle.model.specs.Lists.{below}
use Rattle.model.specs.Trees.{Task}
use Rattle.model.specs.Books as tree
use Rattle.adl.specs.Loads.{loads, given, task_of}
use Rattle.adl.specs.Reads.{task, formula, effect, consequent}
use Rattle.book.specs.Opens.{opens, book_of}
use Rattle.book.specs.Opens as books
use Rattle.book_theorems.specs.Writes.{write_book}
use Rattle.instantiate.specs.Outcome.{kinds_of, operands_of, sizes_of, book_entries}
use Rattle.files.specs.Formats.{number, laid_out, entries_told, fits, holds, kinds_told, operands_told, reads}
use Rattle.files.specs.Converting.{HoldsBook, Room, before, book_file, book_sizes, converts, loads_file, size_list, task_in_file, task_sizes, writes_file}
use Rattle.agreement.proofs.Tied.{passes}
use Rattle.worked.specs.Tables.{task_table, book_table}
use Rattle.worked.specs.ComingOut.{ComesOut, the_task, the_book}
use Rattle.worked.specs.Files.{Enough, FileComesOut, WorkedFilesComeOut, file_of_book, task_file}
use Rattle.worked.specs.declared.case.Case.{Case}
use Rattle.worked.specs.declared.case.Case.TheVariants.{CellPainted, GoalTrue, ForallOfNone, ExistsOfNone, OrOfNothing, AndOfNothing, NotOfNot, ObjectTwice, DeletedAndAdded}
use Rattle.worked.proofs.Cases.{come_out}

-- there are enough places
enough_places : (e k o : ℕ) → e ≤ k → e ≤ o → holds e k o ≡ Ok tt
enough_places e k o p q = passes e k _ _ p ∙ passes e o _ _ q

-- what is told of the file of a task, and of the file of a book
record TaskTold (c : Case) : Type 0 where
  long : fits 6 (task_file c) ≡ Ok tt
  sizes : task_sizes (task_file c) ≡ (task_table c).sizes
  kinds : kinds_told 6 (task_file c) ≡ (task_table c).kinds
  operands : operands_told 6 (task_file c) ≡ (task_table c).operands

record BookTold (c : Case) : Type 0 where
  long : fits 5 (file_of_book c) ≡ Ok tt
  sizes : book_sizes (file_of_book c) ≡ (book_table c).sizes
  kinds : kinds_told 5 (file_of_book c) ≡ (book_table c).kinds
  operands : operands_told 5 (file_of_book c) ≡ (book_table c).operands

module _ (c : Case) (z : sizes_of (tree.book (the_task c)) ≡ (book_table c).sizes) (t : TaskTold c) (b : BookTold c) where
  it : ComesOut c
  it = come_out c

  abbrev source : List ℕ
  source = task_file c

  abbrev out : List ℕ
  out = file_of_book c

  same_task : task_in_file source ≡ the_task c
  same_task =
      ap (λ x. task_of (given x (kinds_told 6 source) (operands_told 6 source))) t.sizes
      ∙ ap (λ x. task_of (given (task_table c).sizes x (operands_told 6 source))) t.kinds
      ∙ ap (λ x. task_of (given (task_table c).sizes (task_table c).kinds x)) t.operands

  same_book : book_file (the_task c) ≡ out
  same_book =
      ap (λ x. laid_out (size_list x) (kinds_of (book_entries (the_task c))) (operands_of (book_entries (the_task c)))) z
      ∙ ap (λ x. laid_out (size_list (book_table c).sizes) x (operands_of (book_entries (the_task c)))) it.kinds
      ∙ ap (laid_out (size_list (book_table c).sizes) (book_table c).kinds) it.operands

  told_loads : loads (task_sizes source) (kinds_told 6 source) (operands_told 6 source) ≡ Ok tt
  told_loads =
      ap (λ x. loads x (kinds_told 6 source) (operands_told 6 source)) t.sizes
      ∙ ap (λ x. loads (task_table c).sizes x (operands_told 6 source)) t.kinds
      ∙ ap (loads (task_table c).sizes (task_table c).kinds) t.operands
      ∙ it.loads

  converted : (room : Room) (output : ℕ) → Enough c room → length out ≤ output → converts source room output ≡ Ok (length out)
  converted room output enough long =
      let n : entries_told 6 source ≡ (task_table c).sizes.entries = ap (λ x. x.entries) t.sizes in
      let read : reads 6 source room.task_kinds room.task_operands ≡ Ok tt =
      ap (λ x. and_then x (holds (entries_told 6 source) room.task_kinds room.task_operands)) t.long
      ∙ ap (λ e. holds e room.task_kinds room.task_operands) n
      ∙ enough_places _ _ _ enough.task_kinds enough.task_operands in
      let loaded : loads_file source room.task_kinds room.task_operands ≡ Ok tt =
      ap (λ x. and_then x (loads (task_sizes source) (kinds_told 6 source) (operands_told 6 source))) read ∙ told_loads in
      let written = λ (k : Task). writes_file k room.literals room.book_kinds room.book_operands output in
      let told = λ (n : ℕ). cond (ltb output n) (Err (refusal 14 File n)) (Ok n) in
      ap (λ x. before x (written (task_in_file source))) loaded
      ∙ ap written same_task
      ∙ ap (λ x. before x (told (length (book_file (the_task c))))) (it.sizes room.literals room.book_kinds room.book_operands enough.literals enough.book_kinds enough.book_operands)
      ∙ ap (λ x. told (length x)) same_book
      ∙ passes (length out) output _ _ long

  held : HoldsBook out (the_book c)
  held = record {
    fits = b.long;
    opens =
        ap (λ x. opens x (kinds_told 5 out) (operands_told 5 out)) b.sizes
        ∙ ap (λ x. opens (book_table c).sizes x (operands_told 5 out)) b.kinds
        ∙ ap (opens (book_table c).sizes (book_table c).kinds) b.operands
        ∙ it.opens;
    book =
        ap (λ x. book_of (books.given x (kinds_told 5 out) (operands_told 5 out))) b.sizes
        ∙ ap (λ x. book_of (books.given (book_table c).sizes x (operands_told 5 out))) b.kinds
        ∙ ap (λ x. book_of (books.given (book_table c).sizes (book_table c).kinds x)) b.operands;
  }

  file_comes_out : FileComesOut c
  file_comes_out = record { converts = converted; written = ap book_file same_task ∙ same_book; holds = held }

-- what is left to compute
by_computing : (c : Case) → sizes_of (tree.book (the_task c)) ≡ (book_table c).sizes
    → fits 6 (task_file c) ≡ Ok tt → task_sizes (task_file c) ≡ (task_table c).sizes → kinds_told 6 (task_file c) ≡ (task_table c).kinds → operands_told 6 (task_file c) ≡ (task_table c).operands
    → fits 5 (file_of_book c) ≡ Ok tt → book_sizes (file_of_book c) ≡ (book_table c).sizes → kinds_told 5 (file_of_book c) ≡ (book_table c).kinds → operands_told 5 (file_of_book c) ≡ (book_table c).operands
    → FileComesOut c
by_computing c z a b d e f g h i = file_comes_out c z (record { long = a; sizes = b; kinds = d; operands = e }) (record { long = f; sizes = g; kinds = h; operands = i })

each_file : (c : Case) → FileComesOut c
unfolding task formula effect consequent below number laid_out write_book
each_file CellPainted = by_computing CellPainted refl refl refl refl refl refl refl refl refl
each_file GoalTrue = by_computing GoalTrue refl refl refl refl refl refl refl refl refl
each_file ForallOfNone = by_computing ForallOfNone refl refl refl refl refl refl refl refl refl
each_file ExistsOfNone = by_computing ExistsOfNone refl refl refl refl refl refl refl refl refl
each_file OrOfNothing = by_computing OrOfNothing refl refl refl refl refl refl refl refl refl
each_file AndOfNothing = by_computing AndOfNothing refl refl refl refl refl refl refl refl refl
each_file NotOfNot = by_computing NotOfNot refl refl refl refl refl refl refl refl refl
each_file ObjectTwice = by_computing ObjectTwice refl refl refl refl refl refl refl refl refl
each_file DeletedAndAdded = by_computing DeletedAndAdded refl refl refl refl refl refl refl refl refl

pub files_come_out : WorkedFilesComeOut
unfolding laid_out
files_come_out = record { each = each_file; painted = refl; painted_book = refl }
