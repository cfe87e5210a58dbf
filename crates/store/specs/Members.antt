-- A set as a list of its members.
use Rattle.std.specs.Prelude.{ℕ, ◌<◌, false, ◌||◌, List, [], ◌∷◌, length, ◌==◌, slice_index}
use Rattle.model.specs.Meaning.{State}

-- the set of the numbers that stand in the list
abbrev pub listed : List ℕ → State
listed [] k = false
listed (x ∷ xs) k = x == k || listed xs k

-- each member is below n
abbrev pub Under : ℕ → List ℕ → Type 0
Under n xs = (i : ℕ) → i < length xs → slice_index xs i < n
