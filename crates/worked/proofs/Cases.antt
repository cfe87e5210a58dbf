-- The worked tasks, by computing.
use Rattle.std.proofs.Common.{◌≡◌, ◌≤◌, Ok, map, refl, arith}
use mathlib.Core.Option.{none}
use Rattle.model.specs.Lists.{below}
use Rattle.model.specs.Meaning.{State}
use Rattle.model.specs.Runs.{task_run, book_run}
use Rattle.model.specs.Theorems.{before_all}
use Rattle.model.specs.Books as tree
use Rattle.adl.specs.Loads.{loads}
use Rattle.adl.specs.Reads.{task, formula, effect, consequent}
use Rattle.book.specs.Opens.{opens}
use Rattle.book.specs.Reads.{book, ground, objects}
use Rattle.book_theorems.specs.Writes.{write_book}
use Rattle.instantiate.specs.Outcome.{book_entries, kinds_of, operands_of, sizes_of}
use Rattle.book_of_task.specs.Places.{first_clash}
use Rattle.agreement.proofs.Tied.{answer_as}
use Rattle.worked.specs.Tables.{task_table, book_table}
use Rattle.worked.specs.Calls.{calls, in_task, in_book}
use Rattle.worked.specs.ComingOut.{the_task, the_book, ComesOut, WorkedTasksComeOut}
use Rattle.worked.specs.declared.case.Case.{Case}
use Rattle.worked.specs.declared.case.Case.TheVariants.{CellPainted, GoalTrue, ForallOfNone, ExistsOfNone, OrOfNothing, AndOfNothing, NotOfNot, ObjectTwice, DeletedAndAdded}
use Rattle.worked.proofs.Rooms.{writes, told, task_tells, book_tells}

-- what is left to compute
comes_out : (c : Case)
    → loads (task_table c).sizes (task_table c).kinds (task_table c).operands ≡ Ok tt
    → first_clash (the_task c) ≡ none
    → sizes_of (tree.book (the_task c)) ≡ (book_table c).sizes
    → (book_table c).sizes.entries ≤ 1048576
    → kinds_of (book_entries (the_task c)) ≡ (book_table c).kinds
    → operands_of (book_entries (the_task c)) ≡ (book_table c).operands
    → opens (book_table c).sizes (book_table c).kinds (book_table c).operands ≡ Ok tt
    → the_book c ≡ tree.book (the_task c)
    → ((s : State) → map answer_as (told (task_run (the_task c)) (before_all s) (calls c)) ≡ in_task c)
    → ((s : State) → map answer_as (told (book_run (the_book c)) (before_all s) (calls c)) ≡ in_book c)
    → ComesOut c
comes_out c loads clash sizes few kinds operands opens stands by_task by_book = record {
  loads = loads;
  sizes = writes (the_task c) (book_table c).sizes clash sizes few;
  kinds = kinds;
  operands = operands;
  opens = opens;
  stands = stands;
  task_answers = task_tells (the_task c) (calls c) (in_task c) by_task;
  book_answers = book_tells (the_book c) (calls c) (in_book c) by_book;
}

pub come_out : WorkedTasksComeOut
unfolding task formula effect consequent below book ground objects write_book first_clash
come_out CellPainted = comes_out CellPainted refl refl refl (omega arith) refl refl refl refl (λ s. refl) (λ s. refl)
come_out GoalTrue = comes_out GoalTrue refl refl refl (omega arith) refl refl refl refl (λ s. refl) (λ s. refl)
come_out ForallOfNone = comes_out ForallOfNone refl refl refl (omega arith) refl refl refl refl (λ s. refl) (λ s. refl)
come_out ExistsOfNone = comes_out ExistsOfNone refl refl refl (omega arith) refl refl refl refl (λ s. refl) (λ s. refl)
come_out OrOfNothing = comes_out OrOfNothing refl refl refl (omega arith) refl refl refl refl (λ s. refl) (λ s. refl)
come_out AndOfNothing = comes_out AndOfNothing refl refl refl (omega arith) refl refl refl refl (λ s. refl) (λ s. refl)
come_out NotOfNot = comes_out NotOfNot refl refl refl (omega arith) refl refl refl refl (λ s. refl) (λ s. refl)
come_out ObjectTwice = comes_out ObjectTwice refl refl refl (omega arith) refl refl refl refl (λ s. refl) (λ s. refl)
come_out DeletedAndAdded = comes_out DeletedAndAdded refl refl refl (omega arith) refl refl refl refl (λ s. refl) (λ s. refl)
