-- What an image shows.
use Rattle.std.specs.Prelude.{ℕ, ◌%◌, List, ◌==◌, slice_index}
use Rattle.model.specs.Meaning.{State}

-- the facts whose byte is odd
abbrev pub shown : List ℕ → State
shown image k = slice_index image k % 2 == 1
