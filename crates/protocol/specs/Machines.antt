-- What the calls of a run leave and answer, of a task's run and of a book's, and where a list of calls leads.
use Rattle.std.specs.Prelude.{◌≡◌, ℕ, Bool, List, [], ◌∷◌, map, length, take, drop, Some, None, Ok, Err, Option, Result}
use Rattle.fault.specs.declared.Fault.{Fault}
use Rattle.fault.specs.declared.Layer.TheVariants.{Run}
use Rattle.fault.specs.Faults.{refusal}
use Rattle.model.specs.Meaning.{State}
use Rattle.model.specs.Trees as tree
use Rattle.protocol.specs.Names.{name_of}
use Rattle.protocol.specs.declared.calls.Answer.{Answer}
use Rattle.protocol.specs.declared.calls.Answer.TheVariants.{NoRun, Done, Told, Count, Refused}
use Rattle.protocol.specs.declared.calls.Call.{Call}
use Rattle.protocol.specs.declared.calls.Call.TheVariants.{Begin, Perform, Holds, Goal, End}

-- a refusal of a run
abbrev pub refused : {X : Type 0} → ℕ → ℕ → Result X Fault
refused n p = Err (refusal n Run p)

-- what `begin` leaves in the store, and the steps of the run that it gives
pub record Begun : Type 0 where
  pub set : State
  pub answer : Result ℕ Fault

-- the steps of a run, if one was begun
abbrev pub begun : {R : Type 0} → (R → ℕ) → Result R Fault → Result ℕ Fault
begun steps (Ok run) = Ok (steps run)
begun steps (Err f) = Err f

-- what `goal` leaves in the image, and the value of the goal
pub record Judged : Type 0 where
  pub image : List ℕ
  pub answer : Result Bool Fault

-- what `perform` leaves: the steps taken, the set, the image; and what it answers
pub record Performed : Type 0 where
  pub steps : ℕ
  pub set : State
  pub image : List ℕ
  pub answer : Result (Unit {0}) Fault

-- a run over a store of one size: each call takes the steps, the set and the image that there are, as far as it needs them
pub record Machine : Type 0 where
  pub begins : State → Begun
  pub performs : ℕ → State → List ℕ → tree.Name → Performed
  pub tells : State → ℕ → Result Bool Fault
  pub tells_goal : State → List ℕ → Judged

-- what a list of calls has come to: the steps of the run, if there is one, the store's set, the image, and the last answer
pub record Turn : Type 0 where
  pub steps : Option ℕ
  pub set : State
  pub image : List ℕ
  pub answer : Answer

-- before the first call
abbrev pub unbegun : State → List ℕ → Turn
unbegun s im = record { steps = None; set = s; image = im; answer = NoRun }

-- an answer that is done or refused, or told or refused
abbrev pub done : Result (Unit {0}) Fault → Answer
done (Ok u) = Done
done (Err f) = Refused f

abbrev pub told : Result Bool Fault → Answer
told (Ok b) = Told b
told (Err f) = Refused f

-- a begin that is refused leaves the run that there was
abbrev pub after_begin : Option ℕ → List ℕ → State → Result ℕ Fault → Turn
after_begin run im s (Ok n) = record { steps = Some n; set = s; image = im; answer = Done }
after_begin run im s (Err f) = record { steps = run; set = s; image = im; answer = Refused f }

-- what a step, taken or refused, comes to
abbrev pub after_perform : Performed → Turn
after_perform p = record { steps = Some p.steps; set = p.set; image = p.image; answer = done p.answer }

-- a call during a run that has taken n steps
abbrev pub running : Machine → ℕ → State → List ℕ → Call → Turn
running m n s im Begin = after_begin (Some n) im (m.begins s).set (m.begins s).answer
running m n s im (Perform x) = after_perform (m.performs n s im (name_of x))
running m n s im (Holds k) = record { steps = Some n; set = s; image = im; answer = told (m.tells s k) }
running m n s im Goal = record { steps = Some n; set = s; image = (m.tells_goal s im).image; answer = told (m.tells_goal s im).answer }
running m n s im End = record { steps = None; set = s; image = im; answer = Count n }

-- a call where there is no run
abbrev pub idle : Machine → State → List ℕ → Call → Turn
idle m s im Begin = after_begin None im (m.begins s).set (m.begins s).answer
idle m s im (Perform x) = unbegun s im
idle m s im (Holds k) = unbegun s im
idle m s im Goal = unbegun s im
idle m s im End = unbegun s im

-- one call
abbrev pub turn_from : Machine → Option ℕ → State → List ℕ → Call → Turn
turn_from m None s im c = idle m s im c
turn_from m (Some n) s im c = running m n s im c

abbrev pub turn : Machine → Turn → Call → Turn
turn m u c = turn_from m u.steps u.set u.image c

-- the turns of a list of calls, one for each
abbrev pub turns : Machine → Turn → List Call → List Turn
turns m u [] = []
turns m u (c ∷ cs) = turn m u c ∷ turns m (turn m u c) cs

-- what the list comes to
abbrev pub after : Machine → Turn → List Call → Turn
after m u [] = u
after m u (c ∷ cs) = after m (turn m u c) cs

-- the answers, one for each call
abbrev pub answers : Machine → Turn → List Call → List Answer
answers m u cs = map (λ (v : Turn). v.answer) (turns m u cs)

-- a list of calls was played: the store's set and the image are what it comes to, its answers stand at the first places of the array,
-- and past them the array holds what it held
pub record Played (m : Machine) (first : Turn) (cs : List Call) (held : List Answer) (set : State) (image : List ℕ) (out : List Answer) : Type 0 where
  pub set_is : set ≡ (after m first cs).set
  pub image_is : image ≡ (after m first cs).image
  pub answered : take (length cs) out ≡ answers m first cs
  pub rest : drop (length cs) out ≡ drop (length cs) held
