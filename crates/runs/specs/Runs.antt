-- What the calls of a task's run do: they judge in the image that they fill, and put numbers into the store one by one.
use Rattle.std.specs.Prelude.{ℕ, ◌+◌, cond, List, [], map, length, Ok, nat_lt}
use Rattle.model.specs.Meaning.{State, value, fits, precondition_of, effect_of, literals_where}
use Rattle.model.specs.Runs.{limit}
use Rattle.model.specs.Trees.{Task, Name, atoms, number}
use Rattle.store.specs.Sets.{none, pictured}
use Rattle.protocol.specs.Machines.{Begun, Judged, Performed, refused}
use Rattle.protocol.specs.Shown.{shown}
use Rattle.protocol.specs.Steps.{put_step, put_numbers}

-- `begin` empties the store and puts the facts
abbrev pub begin_by_puts : Task → ℕ → State → Begun
begin_by_puts t size s =
    cond (nat_lt size (atoms t)) (record { set = s; answer = refused 21 (atoms t) })
    (record { set = put_numbers size (map (λ f. number t f.predicate f.arguments) t.facts) none; answer = Ok 0 })

abbrev pub goal_by_image : Task → ℕ → State → List ℕ → Judged
goal_by_image t size s im =
    cond (nat_lt size (atoms t)) (record { image = im; answer = refused 21 (atoms t) })
    (cond (nat_lt (length im) (atoms t)) (record { image = im; answer = refused 22 (atoms t) })
    (record { image = pictured (atoms t) s im; answer = Ok (value t (shown (pictured (atoms t) s im)) [] t.goal) }))

abbrev pub perform_by_puts : Task → ℕ → ℕ → State → List ℕ → Name → Performed
perform_by_puts t size n s im m =
    let seen : State = shown (pictured (atoms t) s im) in
    cond (nat_lt n limit)
    (cond (nat_lt size (atoms t)) (record { steps = n; set = s; image = im; answer = refused 21 (atoms t) })
    (cond (nat_lt (length im) (atoms t)) (record { steps = n; set = s; image = im; answer = refused 22 (atoms t) })
    (cond (fits t m)
    (cond (value t seen m.objects (precondition_of t m))
    (record { steps = n + 1; set = put_step size (literals_where (value t seen) (effect_of t m)) s; image = pictured (atoms t) s im; answer = Ok tt })
    (record { steps = n; set = s; image = pictured (atoms t) s im; answer = refused 24 n }))
    (record { steps = n; set = s; image = im; answer = refused 23 0 }))))
    (record { steps = n; set = s; image = im; answer = refused 26 limit })
