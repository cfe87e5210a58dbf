-- What a check of all entries gives.
use Rattle.std.specs.Prelude.{◌≡◌, ℕ, true}
use Rattle.book.specs.Tables.{Table}
use Rattle.book.specs.Reads.{actions_place}
use Rattle.book.specs.Opens.{accepted}

-- a book stands in the table, and its actions begin at this place
pub record Placed (t : Table) (p : ℕ) : Type 0 where
  pub formed : accepted t ≡ true
  pub actions : p ≡ actions_place t
