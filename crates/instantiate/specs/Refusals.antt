-- The refusals of instantiating.
use Rattle.std.specs.Prelude.{◌≡◌, ℕ, ◌<◌, List, length}
use Rattle.table.specs.Reading.{Entry}
use Rattle.fault.specs.declared.Fault.{Fault}
use Rattle.fault.specs.declared.Layer.TheVariants.{Book}
use Rattle.fault.specs.Faults.{refusal}
use Rattle.model.specs.Meaning.{Literal}
use Rattle.instantiate.specs.Listing.{different}

-- there is no memory left
abbrev pub no_memory : Fault
no_memory = refusal 61 Book 0

-- a list with so many places is too short for the different ones of these literals
abbrev pub TooShort : ℕ → List Literal → Fault → Type 0
TooShort n ls f = (f ≡ refusal 12 Book n) × (n < different ls)

-- a book of these entries is too long for so many
abbrev pub TooLong : ℕ → List Entry → Fault → Type 0
TooLong n es f = (f ≡ refusal 11 Book (length es)) × (n < length es)
