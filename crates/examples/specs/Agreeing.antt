-- What the agreement of both runs asks, and what it excludes.
use Rattle.std.specs.Prelude.{◌≡◌, ℕ, true, false, List, [], ◌∷◌}
use Rattle.fault.specs.declared.Layer.TheVariants.{Run}
use Rattle.fault.specs.Faults.{refusal}
use Rattle.model.specs.Trees as tree
use Rattle.model.specs.Meaning.{State}
use Rattle.store.specs.Sets.{none}
use Rattle.adl.specs.Held as loaded
use Rattle.adl.specs.Loads as loading
use Rattle.adl.specs.declared.task.Task.{Task}
use Rattle.book.specs.Held as opened
use Rattle.book.specs.Opens as opening
use Rattle.book.specs.declared.book.Book.{Book}
use Rattle.protocol.specs.declared.calls.Answer.TheVariants.{Done, Told, Count, Refused}
use Rattle.protocol.specs.declared.calls.Call.TheVariants.{Begin, Goal, Holds, End}
use Rattle.agreement.specs.Agreement.{Alike, SameTruth, BeginsFirst, Room, in_book}
use Rattle.agree.specs.Sides.{MadeFrom, AnswersAgree}
use Rattle.worked.specs.declared.case.Case.{Case}
use Rattle.worked.specs.declared.case.Case.TheVariants.{CellPainted}
use Rattle.worked.specs.Tables.{task_table, book_table}
use Rattle.worked.specs.ComingOut.{the_task}

abbrev pub cells : tree.Task
cells = the_task CellPainted

pub record AgreeingByExample : Type 0 where
  -- begin comes first, and again after an end
  pub first : BeginsFirst (Begin ∷ Goal ∷ End ∷ Begin ∷ [])
  pub not_first : BeginsFirst (Goal ∷ Begin ∷ []) → ⊥
  pub not_again : BeginsFirst (Begin ∷ End ∷ Goal ∷ []) → ⊥
  -- four atoms need four places, one fact needs one
  pub room : Room cells 4 1 (0 ∷ 0 ∷ 0 ∷ 0 ∷ []) (0 ∷ [])
  pub no_room : (im : List ℕ) → Room cells 4 1 im [] → ⊥
  -- the goal is false at first; that both tell it true is no agreement
  pub goal : Alike cells [] Goal (Told false) (Told false)
  pub wrong_goal : Alike cells [] Goal (Told true) (Told true) → ⊥
  pub wrong_atom : Alike cells [] (Holds 2) (Told false) (Told false) → ⊥
  pub wrong_count : Alike cells [] End (Count 1) (Count 1) → ⊥
  -- an empty store does not hold the facts
  pub wrong_store : (f : State) → SameTruth cells 4 1 [] none f → ⊥
  -- where a task's run answers 23, its book's run answers 24
  pub no_name : in_book 5 (Refused (refusal 23 Run 0)) ≡ Refused (refusal 24 Run 5)
  -- a record that holds a worked task's table, and one that holds its book's
  pub made : (c : Case) (t : Task) (b : Book) → loaded.held t ≡ loading.given (task_table c).sizes (task_table c).kinds (task_table c).operands
      → opened.held b ≡ opening.given (book_table c).sizes (book_table c).kinds (book_table c).operands → MadeFrom t b
  -- two calls, and their answers in both arrays
  pub answers : AnswersAgree cells (Begin ∷ Goal ∷ []) (Done ∷ Told false ∷ []) (Done ∷ Told false ∷ [])
  pub wrong_answers : AnswersAgree cells (Begin ∷ Goal ∷ []) (Done ∷ Told false ∷ []) (Done ∷ Told true ∷ []) → ⊥
