-- What a record keeps of the places in its table.
use Rattle.std.specs.Prelude.{ℕ}
use Rattle.adl.specs.Tables.{Table}
use Rattle.adl.specs.Reads.{effect_place}
use Rattle.adl.specs.declared.operator_places.OperatorPlaces.{OperatorPlaces}

-- of the operator at place i
abbrev pub places_from : Table → ℕ → OperatorPlaces
places_from t i = record { start = i; effect = effect_place t i }
