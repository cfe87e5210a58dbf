-- How the names of the scenario's actions are told.
use Rattle.std.specs.Prelude.{ℕ, ◌-◌, List, length, slice_index_or, ◌++◌, codes, cond, ◌==◌}

-- an object
abbrev pub object_text : ℕ → List ℕ
object_text object =
    cond (object == 0) (codes "the publisher")
    (cond (object == 1) (codes "the reader")
    (cond (object == 2) (codes "the mutex")
    (cond (object == 3) (codes "the heading")
    (cond (object == 4) (codes "the track") (codes "something else")))))

-- what an operator does
abbrev pub deed_text : ℕ → List ℕ
deed_text operator =
    cond (operator == 0) (codes "locks")
    (cond (operator == 1) (codes "unlocks")
    (cond (operator == 2) (codes "writes")
    (cond (operator == 4) (codes "copies") (codes "does something with"))))

-- a name, by its operator and its objects: the timeout, or what the first object does with the last
abbrev pub name_text : ℕ → List ℕ → List ℕ
name_text operator objects =
    cond (operator == 3) (codes "the timeout handler fires")
    (object_text (slice_index_or objects 0 5) ++ (codes " " ++ (deed_text operator ++ (codes " " ++ object_text (slice_index_or objects (length objects - 1) 5)))))
