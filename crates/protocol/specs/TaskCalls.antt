-- What each call of a task's run leaves and answers, over a store and an image of any size.
use Rattle.std.specs.Prelude.{ℕ, ◌+◌, Bool, cond, List, [], length, Ok, Result, nat_lt}
use Rattle.fault.specs.declared.Fault.{Fault}
use Rattle.model.specs.Trees.{Task, Name, atoms}
use Rattle.model.specs.Meaning.{State, value, fits, applicable, step, is_fact}
use Rattle.model.specs.Runs.{limit}
use Rattle.store.specs.Sets.{pictured}
use Rattle.protocol.specs.Machines.{refused, Begun, Judged, Performed, Machine}

-- the facts, in whatever the store held
abbrev pub task_begin : Task → ℕ → State → Begun
task_begin t size s =
    cond (nat_lt size (atoms t)) (record { set = s; answer = refused 21 (atoms t) })
    (record { set = is_fact t; answer = Ok 0 })

-- whether an atom is true
abbrev pub task_holds : Task → ℕ → State → ℕ → Result Bool Fault
task_holds t size s k =
    cond (nat_lt size (atoms t)) (refused 21 (atoms t))
    (cond (nat_lt k (atoms t)) (Ok (s k)) (refused 25 k))

-- the value of the goal, with the image filled
abbrev pub task_goal : Task → ℕ → State → List ℕ → Judged
task_goal t size s im =
    cond (nat_lt size (atoms t)) (record { image = im; answer = refused 21 (atoms t) })
    (cond (nat_lt (length im) (atoms t)) (record { image = im; answer = refused 22 (atoms t) })
    (record { image = pictured (atoms t) s im; answer = Ok (value t s [] t.goal) }))

-- a step is taken if fewer than the limit are counted, the store and the image have room, the name fits and its precondition is
-- true; a precondition that is false leaves the image filled, and every other refusal leaves all as it was
abbrev pub task_perform : Task → ℕ → ℕ → State → List ℕ → Name → Performed
task_perform t size n s im m =
    cond (nat_lt n limit)
    (cond (nat_lt size (atoms t)) (record { steps = n; set = s; image = im; answer = refused 21 (atoms t) })
    (cond (nat_lt (length im) (atoms t)) (record { steps = n; set = s; image = im; answer = refused 22 (atoms t) })
    (cond (fits t m)
    (cond (applicable t s m)
    (record { steps = n + 1; set = step t m s; image = pictured (atoms t) s im; answer = Ok tt })
    (record { steps = n; set = s; image = pictured (atoms t) s im; answer = refused 24 n }))
    (record { steps = n; set = s; image = im; answer = refused 23 0 }))))
    (record { steps = n; set = s; image = im; answer = refused 26 limit })

-- a task's run over a store of that size
abbrev pub task_machine : Task → ℕ → Machine
task_machine t size = record { begins = task_begin t size; performs = task_perform t size; tells = task_holds t size; tells_goal = task_goal t size }
