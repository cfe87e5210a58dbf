-- What a check of all entries gives.
use Rattle.std.specs.Prelude.{◌≡◌, true, map, take}
use Rattle.model.specs.Trees.{atoms}
use Rattle.adl.specs.Tables.{Table}
use Rattle.adl.specs.Reads.{goal_place, operator_places}
use Rattle.adl.specs.Kept.{places_from}
use Rattle.adl.specs.Loads.{accepted, task_of}
use Rattle.adl.specs.declared.declare.Places.{Places}

-- a task stands in the table, and its parts begin at these places
pub record Placed (t : Table) (p : Places) : Type 0 where
  pub formed : accepted t ≡ true
  pub counted : p.atoms ≡ atoms (task_of t)
  pub goal : p.goal_at ≡ goal_place t
  pub operators : take t.operators p.operators.places ≡ map (places_from t) (operator_places t)
