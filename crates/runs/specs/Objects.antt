-- The objects that variables stand for.
use Rattle.std.specs.Prelude.{ℕ, List, [], ◌∷◌}
use Rattle.std.specs.Coded.{×_prop, Unit-prop, le_prop}
use Rattle.model.specs.Forming.{Within}

-- numbers are within a limit in one way only
pub within_prop : (n : ℕ) (os : List ℕ) → IsProp (Within n os)
within_prop n [] = Unit-prop
within_prop n (o ∷ os) = ×_prop le_prop (within_prop n os)
