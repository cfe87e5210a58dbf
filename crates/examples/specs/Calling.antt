-- What calls of a run come to where something is amiss, and what was played.
use Rattle.std.specs.Prelude.{◌≡◌, ℕ, ◌+◌, true, false, List, [], ◌∷◌, Ok, Err}
use Rattle.fault.specs.declared.Layer.TheVariants.{Run}
use Rattle.fault.specs.Faults.{refusal}
use Rattle.model.specs.Trees.{Task}
use Rattle.model.specs.Meaning.{State, empty, is_fact}
use Rattle.model.specs.Books.{Book}
use Rattle.model.specs.Worked.{name}
use Rattle.store.specs.Sets.{none}
use Rattle.protocol.specs.Junctions.{joining}
use Rattle.protocol.specs.Names.{name_of}
use Rattle.protocol.specs.declared.name.Name.{Name}
use Rattle.protocol.specs.declared.junction.Junction.TheVariants.{All, Any}
use Rattle.protocol.specs.Machines.{begun, Performed, Played, answers, unbegun}
use Rattle.protocol.specs.TaskCalls.{task_machine}
use Rattle.protocol.specs.BookCalls.{book_machine}
use Rattle.protocol.specs.declared.calls.Answer.{Answer}
use Rattle.protocol.specs.declared.calls.Answer.TheVariants.{NoRun, Done, Told, Count, Refused}
use Rattle.protocol.specs.declared.calls.Call.TheVariants.{Begin, Holds, Goal, End}
use Rattle.worked.specs.declared.case.Case.TheVariants.{CellPainted}
use Rattle.worked.specs.ComingOut.{the_task, the_book}

-- a refusal of a run
abbrev pub refuses : ℕ → ℕ → Answer
refuses n p = Refused (refusal n Run p)

-- an image of four bytes
abbrev pub four : List ℕ
four = 0 ∷ 0 ∷ 0 ∷ 0 ∷ []

-- a task with four atoms, and its book, with one fact
abbrev pub cells : Task
cells = the_task CellPainted

abbrev pub its_book : Book
its_book = the_book CellPainted

-- the steps of a run that was begun, or the refusal; AND and OR of nothing; a name
pub record AnswersByExample : Type 0 where
  pub steps : begun (λ (n : ℕ). n + 1) (Ok 4) ≡ Ok 5
  pub no_steps : begun (λ (n : ℕ). n + 1) (Err (refusal 21 Run 4)) ≡ Err (refusal 21 Run 4)
  pub all_of_none : empty (joining All) ≡ true
  pub any_of_none : empty (joining Any) ≡ false
  pub names : (m : Name) → m.operator ≡ 2 → m.objects.now ≡ 1 ∷ [] → name_of m ≡ name 2 (1 ∷ [])

-- a step from the facts on, with these objects
abbrev pub performed : List ℕ → Performed
performed os = (task_machine cells 4).performs 0 (is_fact cells) four (name 0 os)

pub record CallsByExample : Type 0 where
  -- before begin, and after an end, there is no run
  pub no_run : (s : State) → answers (task_machine cells 4) (unbegun s four) (Goal ∷ Begin ∷ End ∷ Holds 0 ∷ []) ≡ NoRun ∷ Done ∷ Count 0 ∷ NoRun ∷ []
  -- a store of three places, or of none; an image of three bytes, or of none
  pub small_store : (s : State) → answers (task_machine cells 3) (unbegun s four) (Begin ∷ Goal ∷ []) ≡ refuses 21 4 ∷ NoRun ∷ []
  pub no_store : (s : State) → answers (book_machine its_book 0) (unbegun s four) (Begin ∷ Goal ∷ []) ≡ refuses 21 1 ∷ NoRun ∷ []
  pub short_image : (s : State) → answers (task_machine cells 4) (unbegun s (0 ∷ 0 ∷ 0 ∷ [])) (Begin ∷ Goal ∷ []) ≡ Done ∷ refuses 22 4 ∷ []
  pub no_image : (s : State) → answers (book_machine its_book 1) (unbegun s []) (Begin ∷ Goal ∷ []) ≡ Done ∷ refuses 22 1 ∷ []
  -- there is no atom 4
  pub no_atom : (s : State) → answers (task_machine cells 4) (unbegun s four) (Begin ∷ Holds 4 ∷ []) ≡ Done ∷ refuses 25 4 ∷ []
  pub no_atom_in_book : (s : State) → answers (book_machine its_book 1) (unbegun s four) (Begin ∷ Holds 4 ∷ []) ≡ Done ∷ refuses 25 4 ∷ []
  -- a step counts, but none after 65,535
  pub last_step : ((task_machine cells 4).performs 65534 (is_fact cells) four (name 0 (0 ∷ []))).answer ≡ Ok tt
  pub last_in_book : ((book_machine its_book 1).performs 65534 none four (name 0 (0 ∷ []))).answer ≡ Ok tt
  pub no_more : (s : State) → ((task_machine cells 4).performs 65535 s four (name 0 (0 ∷ []))).answer ≡ Err (refusal 26 Run 65535)
  pub no_more_in_book : (s : State) → ((book_machine its_book 1).performs 65535 s four (name 0 (0 ∷ []))).answer ≡ Err (refusal 26 Run 65535)
  -- a step fills the image with the facts before it; so does one whose precondition is false, and one whose name does not fit leaves it
  pub stepped : (performed (0 ∷ [])).set 0 ≡ true
  pub counts : (performed (0 ∷ [])).steps ≡ 1
  pub filled : (performed (0 ∷ [])).image ≡ 0 ∷ 0 ∷ 1 ∷ 0 ∷ []
  pub filled_so : (performed (1 ∷ [])).image ≡ 0 ∷ 0 ∷ 1 ∷ 0 ∷ []
  pub left : (performed (2 ∷ [])).image ≡ four
  -- the book's image has one byte to fill, also where it has no such action
  pub in_book : ((book_machine its_book 1).performs 0 none (7 ∷ 7 ∷ []) (name 0 (0 ∷ []))).image ≡ 0 ∷ 7 ∷ []
  pub no_action : ((book_machine its_book 1).performs 0 none (7 ∷ 7 ∷ []) (name 0 (1 ∷ []))).image ≡ 0 ∷ 7 ∷ []
  -- two calls were played: the first two of three answers are theirs
  pub played : (s : State) → Played (task_machine cells 4) (unbegun s four) (Begin ∷ Holds 2 ∷ []) (NoRun ∷ NoRun ∷ NoRun ∷ []) (is_fact cells) four (Done ∷ Told true ∷ NoRun ∷ [])
  pub played_not : (s : State) → Played (task_machine cells 4) (unbegun s four) (Begin ∷ Holds 2 ∷ []) (NoRun ∷ NoRun ∷ NoRun ∷ []) (is_fact cells) four (Done ∷ Told false ∷ NoRun ∷ []) → ⊥
  pub beyond : (s : State) → Played (task_machine cells 4) (unbegun s four) (Begin ∷ Holds 2 ∷ []) (NoRun ∷ NoRun ∷ NoRun ∷ []) (is_fact cells) four (Done ∷ Told true ∷ Done ∷ []) → ⊥
