-- The run of a task and the run of its book agree on every list of calls, over stores and images that are large enough.
use Rattle.std.proofs.Common.{◌≡◌, ℕ, ◌<◌, ◌≤◌, Bool, true, false, cond, eqb, ltb, List, [], ◌∷◌, ◌++◌, map, length, Ok, sym, refl, ap, ◌∙◌, subst₂}
use mathlib.Core.Option as plain
use Rattle.std.proofs.lemmas.List.{map-append}
use Rattle.std.proofs.lemmas.Bool.{lt-ltb, le-ltb, eqb-true, cond-true, cond-false, cond_both}
use Rattle.fault.specs.declared.Cause.{Cause}
use Rattle.fault.specs.declared.Cause.TheVariants.{SizeOutOfLimits, ArrayTooShort, KindNotPermitted, EntriesMismatch, OperandOutOfRange, TooLongOrDeep, TooManyAtoms, NotRising, StoreTooSmall, ImageTooShort, NameDoesNotFit, NotApplicable, NoSuchAtom, StepLimit, OutsideStore, FileLength, PlacesTooShort, BookTooLong, ListTooShort, LiteralClashes, OutputTooShort, NoMemory}
use Rattle.fault.specs.declared.Layer.TheVariants.{Run}
use Rattle.fault.specs.Faults.{number_of, cause_of, refusal, writing_cause}
use Rattle.model.specs.Trees.{Task, Name, atoms}
use Rattle.model.specs.Meaning.{State, value}
use Rattle.model.specs.Settling.{ground_value}
use Rattle.model.specs.Books.{book, truth}
use Rattle.model.specs.Runs as model
use Rattle.model.specs.Theorems as claim
use Rattle.model.proofs.Values.{either, clash}
use Rattle.model.proofs.Agreement.{runs_agree}
use Rattle.protocol.specs.Machines.{Judged, unbegun}
use Rattle.protocol.specs.TaskCalls.{task_machine}
use Rattle.protocol.specs.BookCalls.{facts, book_machine}
use Rattle.protocol.specs.declared.calls.Answer.TheVariants.{Told, Refused}
use Rattle.protocol.specs.declared.calls.Call.{Call}
use Rattle.protocol.specs.declared.calls.Call.TheVariants.{Begin, Perform, Holds, Goal, End}
use Rattle.agreement.specs.Agreement.{call_of, steps_of, is_done, in_book, truth_of, goal_after, Alike, SameTruth, TruthAlike, Agrees, TaskAndBookAgree}
use Rattle.agreement.proofs.Tied.{answer_as, turn_stands, after_stands, passes, passes_both, task_tied, book_tied}

-- Refusals.

-- a choice between causes whose numbers are not 23
not_23 : (i n : ℕ) (c d : Cause) → (eqb i n ≡ true → eqb (number_of c) 23 ≡ false) → eqb (number_of d) 23 ≡ false → eqb (number_of (cond (eqb i n) c d)) 23 ≡ false
not_23 i n c d p q = cond_both (eqb i n) c d (λ x. eqb (number_of x) 23 ≡ false) p (λ _. q)

-- nor has a cause that only writing a book or its file has
writing_not_23 : (i : ℕ) → eqb (number_of (writing_cause i)) 23 ≡ false
unfolding writing_cause
writing_not_23 i =
    not_23 i 9 FileLength _ (λ _. refl)
    (not_23 i 10 PlacesTooShort _ (λ _. refl)
    (not_23 i 11 BookTooLong _ (λ _. refl)
    (not_23 i 12 ListTooShort _ (λ _. refl)
    (not_23 i 13 LiteralClashes _ (λ _. refl)
    (not_23 i 14 OutputTooShort NoMemory (λ _. refl) refl)))))

-- no other number's cause has the number 23
cause_23 : (i : ℕ) → eqb (number_of (cause_of i)) 23 ≡ eqb i 23
cause_23 i = either (eqb i 23)
    (λ e. ap (λ j. eqb (number_of (cause_of j)) 23) (eqb-true i 23 e) ∙ sym e)
    (λ e.
    not_23 i 1 SizeOutOfLimits _ (λ _. refl)
    (not_23 i 2 ArrayTooShort _ (λ _. refl)
    (not_23 i 3 KindNotPermitted _ (λ _. refl)
    (not_23 i 4 EntriesMismatch _ (λ _. refl)
    (not_23 i 5 OperandOutOfRange _ (λ _. refl)
    (not_23 i 6 TooLongOrDeep _ (λ _. refl)
    (not_23 i 7 TooManyAtoms _ (λ _. refl)
    (not_23 i 8 NotRising _ (λ _. refl)
    (not_23 i 21 StoreTooSmall _ (λ _. refl)
    (not_23 i 22 ImageTooShort _ (λ _. refl)
    (not_23 i 23 NameDoesNotFit _ (λ z. clash (sym e ∙ z))
    (not_23 i 24 NotApplicable _ (λ _. refl)
    (not_23 i 25 NoSuchAtom _ (λ _. refl)
    (not_23 i 26 StepLimit _ (λ _. refl)
    (not_23 i 31 OutsideStore _ (λ _. refl) (writing_not_23 i)))))))))))))))
    ∙ sym e)

-- the calls' answers, chosen as the model's
chosen : (b : Bool) (x y : model.Answer) → cond b (answer_as x) (answer_as y) ≡ answer_as (cond b x y)
chosen true x y = refl
chosen false x y = refl

-- what a book's run answers in place of the task's
in_book_as : (n : ℕ) (x : model.Answer) → in_book n (answer_as x) ≡ answer_as (claim.in_book n x)
in_book_as n model.idle = refl
in_book_as n model.done = refl
in_book_as n (model.told b) = refl
in_book_as n (model.count k) = refl
in_book_as n (model.refused i p) =
    ap (λ (b : Bool). cond b (Refused (refusal 24 Run n)) (Refused (refusal i Run p))) (cause_23 i)
    ∙ chosen (eqb i 23) (model.refused 24 n) (model.refused i p)

-- whether a step was taken
is_done_as : (x : model.Answer) → is_done (answer_as x) ≡ claim.is_done x
is_done_as model.idle = refl
is_done_as model.done = refl
is_done_as (model.told b) = refl
is_done_as (model.count k) = refl
is_done_as (model.refused i p) = refl

-- What both runs would answer next.

-- what is told
abbrev what_told : Bool → model.Answer → Bool
what_told d model.idle = d
what_told d model.done = d
what_told d (model.told b) = b
what_told d (model.count n) = d
what_told d (model.refused n p) = d

module _ (t : Task) (size size' : ℕ) (room : atoms t ≤ size) (room' : facts (book t) ≤ size') (h : List Name) (s f : State) (same : claim.SameTruth t h s f) where
  left_at : (k : ℕ) → s k ≡ claim.leaves t h k
  left_at k = ap (λ (z : State). z k) same.left

  -- an atom's truth, as the book tells it
  book_truth : (k : ℕ) → k < atoms t → truth (book t) f k ≡ claim.leaves t h k
  book_truth k lt =
      let yes = lt-ltb k (atoms t) lt in
      ap (what_told false)
      (sym (cond-true (ltb k (atoms t)) (model.told (truth (book t) f k)) (model.refused 25 k) yes)
      ∙ sym (same.every_atom k)
      ∙ cond-true (ltb k (atoms t)) (model.told (s k)) (model.refused 25 k) yes)
      ∙ left_at k

  same_goal : value t s [] t.goal ≡ goal_after t h
  same_goal = ap (λ (z : State). value t z [] t.goal) same.left

  book_value : ground_value f (book t).goal ≡ goal_after t h
  book_value = ap (what_told false) (sym same.goal) ∙ same_goal

  same_truth : SameTruth t size size' h s f
  same_truth = record {
    left = same.left;
    atom = λ k lt.
        let yes = lt-ltb k (atoms t) lt in (
          passes (atoms t) size _ _ room ∙ cond-true (ltb k (atoms t)) _ _ yes ∙ ap Ok (left_at k),
          passes (facts (book t)) size' _ _ room' ∙ cond-true (ltb k (atoms t)) _ _ yes ∙ ap Ok (book_truth k lt),
        );
    no_atom = λ k le.
        let no = le-ltb k (atoms t) le in (
          passes (atoms t) size _ _ room ∙ cond-false (ltb k (atoms t)) _ _ no,
          passes (facts (book t)) size' _ _ room' ∙ cond-false (ltb k (atoms t)) _ _ no,
        );
    goal = λ im im' long long'. (
      ap (λ (j : Judged). j.answer) (passes_both (atoms t) size (length im) _ _ _ room long) ∙ ap Ok same_goal,
      ap (λ (j : Judged). j.answer) (passes_both (facts (book t)) size' (length im') _ _ _ room' long') ∙ ap Ok book_value,
    );
    always = λ k e. sym (left_at k) ∙ same.always k e;
    never = λ k lt e e'. sym (left_at k) ∙ same.never k lt e e';
  }

-- after each call but end
truth_alike : (t : Task) (size size' : ℕ) → atoms t ≤ size → facts (book t) ≤ size' → (h : List Name) (c : Call) (s f : State)
    → claim.TruthAlike t h (call_of c) s f → TruthAlike t size size' h c s f
truth_alike t size size' room room' h Begin s f w = same_truth t size size' room room' h s f w
truth_alike t size size' room room' h (Perform m) s f w = same_truth t size size' room room' h s f w
truth_alike t size size' room room' h (Holds k) s f w = same_truth t size size' room room' h s f w
truth_alike t size size' room room' h Goal s f w = same_truth t size size' room room' h s f w
truth_alike t size size' room room' h End s f w = tt

-- Answers.

-- every call but begin
abbrev needs_run : Call → Bool
needs_run Begin = false
needs_run (Perform m) = true
needs_run (Holds k) = true
needs_run Goal = true
needs_run End = true

-- where a call that needs a run is in order, an end would be
first_ends : (on : Bool) (c : Call) (rest : List model.Call) → needs_run c ≡ true → claim.in_order on (call_of c ∷ rest) ≡ true → claim.in_order on (model.end ∷ []) ≡ true
first_ends true c rest n e = refl
first_ends false Begin rest n e = clash n
first_ends false (Perform m) rest n e = clash e
first_ends false (Holds k) rest n e = clash e
first_ends false Goal rest n e = clash e
first_ends false End rest n e = clash e

ends : (on : Bool) (before : List model.Call) (c : Call) (rest : List model.Call) → needs_run c ≡ true
    → claim.in_order on (before ++ (call_of c ∷ rest)) ≡ true → claim.in_order on (before ++ (model.end ∷ [])) ≡ true
ends on [] c rest n e = first_ends on c rest n e
ends on (model.begin ∷ before) c rest n e = ends true before c rest n e
ends true (model.perform m ∷ before) c rest n e = ends true before c rest n e
ends true (model.holds k ∷ before) c rest n e = ends true before c rest n e
ends true (model.goal ∷ before) c rest n e = ends true before c rest n e
ends true (model.end ∷ before) c rest n e = ends false before c rest n e
ends false (model.perform m ∷ before) c rest n e = clash e
ends false (model.holds k ∷ before) c rest n e = clash e
ends false (model.goal ∷ before) c rest n e = clash e
ends false (model.end ∷ before) c rest n e = clash e

-- whether steps are counted
abbrev counts : model.Answer → Bool
counts model.idle = false
counts model.done = false
counts (model.told b) = false
counts (model.count n) = true
counts (model.refused n p) = false

-- what is answered alike in the model is answered alike here, where an end would count the steps
module _ (t : Task) (h : List Name) where
  alike_holds : (o o' : plain.Option ℕ) (s f : State) (k : ℕ) → (model.turn (model.task_run t) o s model.end).answer ≡ model.count (length h) → s ≡ claim.leaves t h
      → (model.turn (model.task_run t) o s (model.holds k)).answer ≡ (model.turn (model.book_run (book t)) o' f (model.holds k)).answer
      → Alike t h (Holds k) (answer_as (model.turn (model.task_run t) o s (model.holds k)).answer) (answer_as (model.turn (model.book_run (book t)) o' f (model.holds k)).answer)
  alike_holds plain.none o' s f k on left w = clash (ap counts on)
  alike_holds (plain.some n) o' s f k on left w =
      let e : answer_as (model.task_holds t s k) ≡ truth_of t h k =
      ap (λ (z : State). answer_as (model.task_holds t z k)) left
      ∙ sym (chosen (ltb k (atoms t)) (model.told (claim.leaves t h k)) (model.refused 25 k)) in
      (e, ap answer_as (sym w) ∙ e)

  alike_goal : (o o' : plain.Option ℕ) (s f : State) → (model.turn (model.task_run t) o s model.end).answer ≡ model.count (length h) → s ≡ claim.leaves t h
      → (model.turn (model.task_run t) o s model.goal).answer ≡ (model.turn (model.book_run (book t)) o' f model.goal).answer
      → Alike t h Goal (answer_as (model.turn (model.task_run t) o s model.goal).answer) (answer_as (model.turn (model.book_run (book t)) o' f model.goal).answer)
  alike_goal plain.none o' s f on left w = clash (ap counts on)
  alike_goal (plain.some n) o' s f on left w =
      let e : answer_as (model.task_goal t s) ≡ Told (goal_after t h) = ap (λ (z : State). answer_as (model.task_goal t z)) left in
      (e, ap answer_as (sym w) ∙ e)

  -- questions leave the state
  question_left : (o : plain.Option ℕ) (s : State) (k : ℕ) → ((model.turn (model.task_run t) o s (model.holds k)).state ≡ s) × ((model.turn (model.task_run t) o s model.goal).state ≡ s)
  question_left plain.none s k = (refl, refl)
  question_left (plain.some n) s k = (refl, refl)

  -- every call
  alike : (v v' : model.Turn) (c : Call) → (needs_run c ≡ true → (model.turn (model.task_run t) v.steps v.state model.end).answer ≡ model.count (length h)) → claim.CallAgrees t h v v' (call_of c)
      → Alike t h c (answer_as (model.turn (model.task_run t) v.steps v.state (call_of c)).answer) (answer_as (model.turn (model.book_run (book t)) v'.steps v'.state (call_of c)).answer)
  alike v v' Begin on w = (ap answer_as w.answers.0, ap answer_as w.answers.1)
  alike v v' (Perform m) on w =
      let x = (model.turn (model.task_run t) v.steps v.state (call_of (Perform m))).answer in
      (is_done_as x ∙ w.answers.0, is_done_as _ ∙ w.answers.1, ap answer_as w.answers.2 ∙ sym (in_book_as (length h) x))
  alike v v' (Holds k) on w = alike_holds v.steps v'.steps v.state v'.state k (on refl) (sym (question_left v.steps v.state k).0 ∙ w.truth.left) w.answers
  alike v v' Goal on w = alike_goal v.steps v'.steps v.state v'.state (on refl) (sym (question_left v.steps v.state 0).1 ∙ w.truth.left) w.answers
  alike v v' End on w = (ap answer_as w.answers.0, ap answer_as w.answers.1)

pub task_and_book_agree : TaskAndBookAgree
task_and_book_agree t formed size size' s f im im' room cs first before c rest e =
    let bs = map call_of before in
    let rs = map call_of rest in
    let h = steps_of t before in
    let order : claim.in_order false (bs ++ (call_of c ∷ rs)) ≡ true =
    sym (ap (λ (xs : List Call). claim.in_order false (map call_of xs)) e ∙ ap (claim.in_order false) (map-append call_of before (c ∷ rest))) ∙ first in
    let r = model.task_run t in
    let r' = model.book_run (book t) in
    let v = model.after r (claim.before_all s) bs in
    let v' = model.after r' (claim.before_all f) bs in
    let w : claim.CallAgrees t h v v' (call_of c) = runs_agree t formed s f bs (call_of c) rs order in
    let on : needs_run c ≡ true → (model.turn r v.steps v.state model.end).answer ≡ model.count (length h) =
    λ n. (runs_agree t formed s f bs model.end [] (ends false bs c rs n order)).answers.0 in
    let task = task_tied t size room.task_store in
    let its_book = book_tied (book t) size' room.book_store in
    let u = turn_stands (atoms t) (task_machine t size) r task _ v (after_stands (atoms t) (task_machine t size) r task (unbegun s im) (claim.before_all s) (refl, room.task_image) before) c in
    let u' = turn_stands (facts (book t)) (book_machine (book t) size') r' its_book _ v' (after_stands (facts (book t)) (book_machine (book t) size') r' its_book (unbegun f im') (claim.before_all f) (refl, room.book_image) before) c in
    subst₂ (λ x y. Agrees t size size' h c x y) (sym u.0) (sym u'.0) (record {
      answers = alike t h v v' c on w;
      truth = truth_alike t size size' room.task_store room.book_store (claim.counted t h (call_of c)) c _ _ w.truth;
    })
