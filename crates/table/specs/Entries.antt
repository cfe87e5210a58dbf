-- Entries in two arrays.
use Rattle.std.specs.Prelude.{◌≡◌, ℕ, ◌+◌, List, Ok, Err, Result, nat_lt, slice_index}
use Rattle.fault.specs.declared.Fault.{Fault}
use Rattle.table.specs.Kinds.{code_of}
use Rattle.table.specs.Permits.{permitted}
use Rattle.table.specs.Reading.{Entry, entry, Out, good, unless}
use Rattle.table.specs.declared.arrays.Entries.{Entries}
use Rattle.table.specs.declared.arrays.Head.{Head}
use Rattle.table.specs.declared.places.Place.{Place}

-- so many entries in these arrays
pub record Holds (n : ℕ) (ks : List ℕ) (os : List ℕ) (e : Entries) : Type 0 where
  pub count : e.count ≡ n
  pub kinds : e.kinds.now ≡ ks
  pub operands : e.operands.now ≡ os

-- the entry at place i of arrays with n entries, with the first of the faults 4 and 3
abbrev pub first : ℕ → List ℕ → List ℕ → Place → ℕ → Out Entry
first n ks os p i =
    unless (nat_lt i n) 4 i
    (unless (permitted p (slice_index ks i)) 3 i
    (good (entry (slice_index ks i) (slice_index os i)) (i + 1)))

-- an entry with its kind's code
abbrev pub coded : Head → Entry
coded h = entry (code_of h.kind) h.operand

abbrev pub all_coded : Result Head Fault → Result Entry Fault
all_coded (Ok h) = Ok (coded h)
all_coded (Err f) = Err f
