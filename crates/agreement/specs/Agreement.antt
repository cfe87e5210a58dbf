-- The run of a task and the run of its book, beside each other: every list of calls is answered alike, and as the subject says.
use Rattle.std.specs.Prelude.{◌≡◌, ℕ, ◌<◌, ◌≤◌, Bool, true, false, cond, List, [], ◌∷◌, ◌++◌, map, length, Ok, ◌==◌, nat_lt}
use Rattle.fault.specs.declared.Layer.TheVariants.{Run}
use Rattle.fault.specs.Faults.{number_of, refusal}
use Rattle.model.specs.Lists.{has}
use Rattle.model.specs.Trees.{Task, Name, atoms}
use Rattle.model.specs.Forming.{WellFormed}
use Rattle.model.specs.Meaning.{State, value}
use Rattle.model.specs.Books.{Start, book}
use Rattle.model.specs.Runs as model
use Rattle.model.specs.Theorems.{leaves, takes, counted, counted_after, in_order}
use Rattle.protocol.specs.Names.{name_of}
use Rattle.protocol.specs.Machines.{refused, Turn, unbegun, turn, after}
use Rattle.protocol.specs.TaskCalls.{task_holds, task_goal, task_machine}
use Rattle.protocol.specs.BookCalls.{facts, book_holds, book_goal, book_machine}
use Rattle.protocol.specs.declared.calls.Answer.{Answer}
use Rattle.protocol.specs.declared.calls.Answer.TheVariants.{NoRun, Done, Told, Count, Refused}
use Rattle.protocol.specs.declared.calls.Call.{Call}
use Rattle.protocol.specs.declared.calls.Call.TheVariants.{Begin, Perform, Holds, Goal, End}

-- a call as the model has it
abbrev pub call_of : Call → model.Call
call_of Begin = model.begin
call_of (Perform m) = model.perform (name_of m)
call_of (Holds k) = model.holds k
call_of Goal = model.goal
call_of End = model.end

-- the steps that a list of calls has counted since its last begin, the latest first
abbrev pub steps_of : Task → List Call → List Name
steps_of t cs = counted_after t [] (map call_of cs)

-- begin comes first, and again before any call after an end
abbrev pub BeginsFirst : List Call → Type 0
BeginsFirst cs = in_order false (map call_of cs) ≡ true

-- a step was taken
abbrev pub is_done : Answer → Bool
is_done NoRun = false
is_done Done = true
is_done (Told b) = false
is_done (Count n) = false
is_done (Refused f) = false

-- a book's run refuses what a task's run refuses, by the same refusal, but that a name that does not fit is one that the book does not
-- have: 24 at the steps taken, in place of 23
abbrev pub in_book : ℕ → Answer → Answer
in_book n NoRun = NoRun
in_book n Done = Done
in_book n (Told b) = Told b
in_book n (Count k) = Count k
in_book n (Refused f) = cond (number_of f.cause == 23) (Refused (refusal 24 Run n)) (Refused f)

-- what a question for an atom is answered after the steps h: its truth, or that there is no such atom
abbrev pub truth_of : Task → List Name → ℕ → Answer
truth_of t h k = cond (nat_lt k (atoms t)) (Told (leaves t h k)) (Refused (refusal 25 Run k))

-- the value of the goal after the steps h
abbrev pub goal_after : Task → List Name → Bool
goal_after t h = value t (leaves t h) [] t.goal

-- the answers x of a task's run and y of its book's run to a call after the steps h: a begin is accepted in both; a step is taken in
-- both or in none, and it is taken exactly when the name fits, its precondition is true and fewer than the limit are counted; questions
-- are answered by what the facts and the steps leave; both ends tell the number of the steps
abbrev pub Alike : Task → List Name → Call → Answer → Answer → Type 0
Alike t h Begin x y = (x ≡ Done) × (y ≡ Done)
Alike t h (Perform m) x y = (is_done x ≡ takes t h (name_of m)) × (is_done y ≡ takes t h (name_of m)) × (y ≡ in_book (length h) x)
Alike t h (Holds k) x y = (x ≡ truth_of t h k) × (y ≡ truth_of t h k)
Alike t h Goal x y = (x ≡ Told (goal_after t h)) × (y ≡ Told (goal_after t h))
Alike t h End x y = (x ≡ Count (length h)) × (y ≡ Count (length h))

-- what both runs would answer next, after the steps h, over stores of these sizes that hold the sets s and f
pub record SameTruth (t : Task) (size size' : ℕ) (h : List Name) (s f : State) : Type 0 where
  -- the task's store holds what the facts and the steps leave
  pub left : s ≡ leaves t h
  -- every atom
  pub atom : (k : ℕ) → k < atoms t → (task_holds t size s k ≡ Ok (leaves t h k)) × (book_holds (book t) size' f k ≡ Ok (leaves t h k))
  -- a number that is no atom's
  pub no_atom : (k : ℕ) → atoms t ≤ k → (task_holds t size s k ≡ refused 25 k) × (book_holds (book t) size' f k ≡ refused 25 k)
  -- the goal, with images that are long enough
  pub goal : (im im' : List ℕ) → atoms t ≤ length im → facts (book t) ≤ length im'
      → ((task_goal t size s im).answer ≡ Ok (goal_after t h)) × ((book_goal (book t) size' f im').answer ≡ Ok (goal_after t h))
  -- an atom that the book lists as always true is true, and one that it lists nowhere is false
  pub always : (k : ℕ) → has k (book t).always ≡ true → leaves t h k ≡ true
  pub never : (k : ℕ) → k < atoms t → has k (map (λ (x : Start). x.atom) (book t).relevant) ≡ false → has k (book t).always ≡ false → leaves t h k ≡ false

-- after each call but end
abbrev pub TruthAlike : Task → ℕ → ℕ → List Name → Call → State → State → Type 0
TruthAlike t size size' h Begin s f = SameTruth t size size' h s f
TruthAlike t size size' h (Perform m) s f = SameTruth t size size' h s f
TruthAlike t size size' h (Holds k) s f = SameTruth t size size' h s f
TruthAlike t size size' h Goal s f = SameTruth t size size' h s f
TruthAlike t size size' h End s f = Unit {0}

-- a call agrees: u is what it comes to in the task's run, v what it comes to in the book's run, and the calls before it counted the
-- steps h
pub record Agrees (t : Task) (size size' : ℕ) (h : List Name) (c : Call) (u v : Turn) : Type 0 where
  pub answers : Alike t h c u.answer v.answer
  pub truth : TruthAlike t size size' (counted t h (call_of c)) c u.set v.set

-- stores of these sizes and images of these lengths are large enough for the task and its book
pub record Room (t : Task) (size size' : ℕ) (im im' : List ℕ) : Type 0 where
  pub task_store : atoms t ≤ size
  pub book_store : facts (book t) ≤ size'
  pub task_image : atoms t ≤ length im
  pub book_image : facts (book t) ≤ length im'

-- where a call of a list leads in the task's run, and in the book's
abbrev pub in_task : Task → ℕ → State → List ℕ → List Call → Call → Turn
in_task t size s im before c = turn (task_machine t size) (after (task_machine t size) (unbegun s im) before) c

abbrev pub in_its_book : Task → ℕ → State → List ℕ → List Call → Call → Turn
in_its_book t size f im before c = turn (book_machine (book t) size) (after (book_machine (book t) size) (unbegun f im) before) c

-- each call of the list agrees, whatever the stores and the images held at first
abbrev pub EachCallAgrees : Task → ℕ → ℕ → State → State → List ℕ → List ℕ → List Call → Type 0
EachCallAgrees t size size' s f im im' cs =
    (before : List Call) (c : Call) (rest : List Call) → cs ≡ before ++ (c ∷ rest)
    → Agrees t size size' (steps_of t before) c (in_task t size s im before c) (in_its_book t size' f im' before c)

-- the run of a well-formed task and the run of its book agree on every list of calls that begins first, over any two stores and images
-- that are large enough
abbrev pub TaskAndBookAgree : Type 0
TaskAndBookAgree =
    (t : Task) → WellFormed t → (size size' : ℕ) (s f : State) (im im' : List ℕ) → Room t size size' im im' → (cs : List Call) → BeginsFirst cs
    → EachCallAgrees t size size' s f im im' cs
