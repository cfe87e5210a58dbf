-- Machines over a store and an image that are large enough come to what the model's machines come to.
use Rattle.std.proofs.Common.{◌≡◌, ℕ, ◌+◌, ◌≤◌, Bool, true, false, cond, ltb, List, [], ◌∷◌, map, length, drop, Some, None, Ok, Option, sym, refl, ap, ◌∙◌, subst, arith}
use mathlib.Core.Option as plain
use Rattle.std.specs.List.{range_with_len}
use Rattle.std.proofs.lemmas.List.FromFn.{length-map-range_with_len}
use Rattle.std.proofs.lemmas.List.{length-append}
use Rattle.std.proofs.lemmas.Bool.{cond-false, le-ltb}
use Rattle.fault.specs.declared.Layer.TheVariants.{Run}
use Rattle.fault.specs.Faults.{refusal}
use Rattle.model.specs.Trees.{Task, Name, atoms}
use Rattle.model.specs.Meaning.{State, value, fits, applicable, step}
use Rattle.model.specs.Settling.{ground_value}
use Rattle.model.specs.Books.{Action, Book, find, truth}
use Rattle.model.specs.Runs as model
use Rattle.store.specs.Sets.{pictured}
use Rattle.protocol.specs.Names.{name_of}
use Rattle.protocol.specs.Machines.{refused, Begun, Judged, Performed, Machine, Turn, told, after_begin, after_perform, turn_from, turn, after}
use Rattle.protocol.specs.TaskCalls.{task_machine}
use Rattle.protocol.specs.BookCalls.{facts, book_act, book_machine}
use Rattle.protocol.specs.declared.calls.Answer.{Answer}
use Rattle.protocol.specs.declared.calls.Answer.TheVariants.{NoRun, Done, Told, Count, Refused}
use Rattle.protocol.specs.declared.calls.Call.{Call}
use Rattle.protocol.specs.declared.calls.Call.TheVariants.{Begin, Perform, Holds, Goal, End}
use Rattle.agreement.specs.Agreement.{call_of}

-- the model's steps, answers and turns, as the calls have them
abbrev pub steps_as : plain.Option ℕ → Option ℕ
steps_as plain.none = None
steps_as (plain.some n) = Some n

abbrev pub answer_as : model.Answer → Answer
answer_as model.idle = NoRun
answer_as model.done = Done
answer_as (model.told b) = Told b
answer_as (model.count n) = Count n
answer_as (model.refused n p) = Refused (refusal n Run p)

abbrev pub turn_as : List ℕ → model.Turn → Turn
turn_as im v = record { steps = steps_as v.steps; set = v.state; image = im; answer = answer_as v.answer }

-- a turn is the model's, with an image of at least that length
abbrev pub Stands : ℕ → Turn → model.Turn → Type 0
Stands n u v = (u ≡ turn_as u.image v) × (n ≤ length u.image)

-- a filled image is as long as what was filled
pictured_long : (n : ℕ) (s : State) (im : List ℕ) → n ≤ length (pictured n s im)
pictured_long n s im =
    let f : ℕ → ℕ = λ k. cond (s k) 1 0 in
    omega (arith, length-append (map f (range_with_len 0 n)) (drop n im), length-map-range_with_len f 0 n)

-- a machine whose calls, with an image of at least that length, are the model's
pub record Tied (n : ℕ) (m : Machine) (r : model.Machine) : Type 0 where
  pub first : (s : State) → m.begins s ≡ record { set = r.first; answer = Ok 0 }
  pub steps : (k : ℕ) (s : State) (im : List ℕ) (x : Name) → n ≤ length im → Stands n (after_perform (m.performs k s im x)) (r.takes_step k s x)
  pub atom : (s : State) (k : ℕ) → told (m.tells s k) ≡ answer_as (r.tells s k)
  pub goal : (s : State) (im : List ℕ) → n ≤ length im → (told (m.tells_goal s im).answer ≡ answer_as (r.tells_goal s)) × (n ≤ length (m.tells_goal s im).image)

-- two choices by one test stand as their ways do
beside : {A B : Type 0} (P : A → B → Type 0) (b : Bool) (x x' : A) (y y' : B) → P x y → P x' y' → P (cond b x x') (cond b y y')
beside P true x x' y y' p q = p
beside P false x x' y y' p q = q

module _ (n : ℕ) (m : Machine) (r : model.Machine) (tied : Tied n m r) where
  -- a begin
  begins : (o : Option ℕ) (s : State) (im : List ℕ) → n ≤ length im
      → Stands n (after_begin o im (m.begins s).set (m.begins s).answer) (record { steps = plain.some 0; state = r.first; answer = model.done })
  begins o s im h =
      subst (λ (b : Begun). Stands n (after_begin o im b.set b.answer) (record { steps = plain.some 0; state = r.first; answer = model.done }))
      (sym (tied.first s)) (refl, h)

  -- one call
  call_stands : (o : plain.Option ℕ) (s : State) (im : List ℕ) → n ≤ length im → (c : Call) → Stands n (turn_from m (steps_as o) s im c) (model.turn r o s (call_of c))
  call_stands plain.none s im h Begin = begins None s im h
  call_stands plain.none s im h (Perform x) = (refl, h)
  call_stands plain.none s im h (Holds k) = (refl, h)
  call_stands plain.none s im h Goal = (refl, h)
  call_stands plain.none s im h End = (refl, h)
  call_stands (plain.some k) s im h Begin = begins (Some k) s im h
  call_stands (plain.some k) s im h (Perform x) = tied.steps k s im (name_of x) h
  call_stands (plain.some k) s im h (Holds j) =
      (ap (λ (a : Answer). record { steps = Some k; set = s; image = im; answer = a }) (tied.atom s j), h)
  call_stands (plain.some k) s im h Goal =
      let w = tied.goal s im h in
      (ap (λ (a : Answer). record { steps = Some k; set = s; image = (m.tells_goal s im).image; answer = a }) w.0, w.1)
  call_stands (plain.some k) s im h End = (refl, h)

  pub turn_stands : (u : Turn) (v : model.Turn) → Stands n u v → (c : Call) → Stands n (turn m u c) (model.turn r v.steps v.state (call_of c))
  turn_stands u v (e, h) c =
      subst (λ (w : Turn). Stands n (turn m w c) (model.turn r v.steps v.state (call_of c))) (sym e)
      (call_stands v.steps v.state u.image h c)

  -- a list of calls
  pub after_stands : (u : Turn) (v : model.Turn) → Stands n u v → (cs : List Call) → Stands n (after m u cs) (model.after r v (map call_of cs))
  after_stands u v st [] = st
  after_stands u v st (c ∷ cs) = after_stands (turn m u c) (model.turn r v.steps v.state (call_of c)) (turn_stands u v st c) cs

-- an answer to a question for an atom
told_or_no_atom : (b x : Bool) (k : ℕ) → told (cond b (Ok x) (refused 25 k)) ≡ answer_as (cond b (model.told x) (model.refused 25 k))
told_or_no_atom true x k = refl
told_or_no_atom false x k = refl

-- where there is room, the tests for it are passed
pub passes : {A : Type 0} (n size : ℕ) (x y : A) → n ≤ size → cond (ltb size n) x y ≡ y
passes n size x y h = cond-false (ltb size n) x y (le-ltb size n h)

pub passes_both : {A : Type 0} (n size len : ℕ) (x y z : A) → n ≤ size → n ≤ len → cond (ltb size n) x (cond (ltb len n) y z) ≡ z
passes_both n size len x y z h l = passes n size x (cond (ltb len n) y z) h ∙ passes n len y z l

-- a step that is taken or refused, beside the model's
abbrev Steps : ℕ → Performed → model.Turn → Type 0
Steps n p v = Stands n (after_perform p) v

-- a task's machine
pub task_tied : (t : Task) (size : ℕ) → atoms t ≤ size → Tied (atoms t) (task_machine t size) (model.task_run t)
task_tied t size room = record {
  first = λ s. passes (atoms t) size _ _ room;
  steps = λ k s im x h.
      let n = atoms t in
      let seen = pictured n s im in
      let taken : Performed = record { steps = k + 1; set = step t x s; image = seen; answer = Ok tt } in
      let fails : Performed = record { steps = k; set = s; image = seen; answer = refused 24 k } in
      let unfit : Performed = record { steps = k; set = s; image = im; answer = refused 23 0 } in
      let many : Performed = record { steps = k; set = s; image = im; answer = refused 26 model.limit } in
      let judged : Performed = cond (fits t x) (cond (applicable t s x) taken fails) unfit in
      subst (λ (p : Performed). Steps n (cond (ltb k model.limit) p many) (model.task_perform t k s x))
      (sym (passes_both n size (length im) _ _ judged room h))
      (beside (Steps n) (ltb k model.limit) judged many _ _
      (beside (Steps n) (fits t x) (cond (applicable t s x) taken fails) unfit _ _
      (beside (Steps n) (applicable t s x) taken fails _ _ (refl, pictured_long n s im) (refl, pictured_long n s im))
      (refl, h))
      (refl, h));
  atom = λ s k. ap told (passes (atoms t) size _ _ room) ∙ told_or_no_atom (ltb k (atoms t)) (s k) k;
  goal = λ s im h.
      let e = passes_both {A = Judged} (atoms t) size (length im) _ _ (record { image = pictured (atoms t) s im; answer = Ok (value t s [] t.goal) }) room h in
      (ap (λ (j : Judged). told j.answer) e, subst (λ (j : Judged). atoms t ≤ length j.image) (sym e) (pictured_long (atoms t) s im));
}

-- a book's machine
book_acts : (n k : ℕ) (s : State) (im : List ℕ) → n ≤ length im → (a : plain.Option Action) → Steps n (book_act k s im a) (model.book_act k s a)
book_acts n k s im h plain.none = (refl, h)
book_acts n k s im h (plain.some a) = beside (Steps n) (ground_value s a.precondition) _ _ _ _ (refl, h) (refl, h)

pub book_tied : (b : Book) (size : ℕ) → facts b ≤ size → Tied (facts b) (book_machine b size) (model.book_run b)
book_tied b size room = record {
  first = λ s. passes (facts b) size _ _ room;
  steps = λ k s im x h.
      let n = facts b in
      let many : Performed = record { steps = k; set = s; image = im; answer = refused 26 model.limit } in
      let acted = book_act k s (pictured n s im) (find x b.actions) in
      subst (λ (p : Performed). Steps n (cond (ltb k model.limit) p many) (model.book_perform b k s x))
      (sym (passes_both n size (length im) _ _ acted room h))
      (beside (Steps n) (ltb k model.limit) acted many _ _
      (book_acts n k s (pictured n s im) (pictured_long n s im) (find x b.actions))
      (refl, h));
  atom = λ s k. ap told (passes (facts b) size _ _ room) ∙ told_or_no_atom (ltb k b.atoms) (truth b s k) k;
  goal = λ s im h.
      let e = passes_both {A = Judged} (facts b) size (length im) _ _ (record { image = pictured (facts b) s im; answer = Ok (ground_value s b.goal) }) room h in
      (ap (λ (j : Judged). told j.answer) e, subst (λ (j : Judged). facts b ≤ length j.image) (sym e) (pictured_long (facts b) s im));
}
