-- Atoms that rise.
use Rattle.std.specs.Prelude.{ℕ, ◌+◌, ◌<◌, not, ◌&&◌, List, length, nat_le, slice_index}
use Rattle.table.specs.declared.places.Place.{Place}
use Rattle.table.specs.Reading.{Entry, Out, good, then, unless, series}
use Rattle.model.specs.Lists.{has}
use Rattle.book.specs.Tables.{Table, most_levels, head}

-- each number is below all later ones
abbrev pub Rises : List ℕ → Type 0
Rises xs = (a b : ℕ) → a < b → b < length xs → slice_index xs a < slice_index xs b

-- an entry of a group of atoms, whose atom is at least `low` and none of the others
abbrev pub member : Table → Place → List ℕ → ℕ → ℕ → Out Entry
member t p others low i =
    then (head t p most_levels i) λ e j.
    unless (nat_le low e.operand && not (has e.operand others)) 8 i (good e j)

abbrev pub after_member : ℕ → Entry → ℕ
after_member low e = e.operand + 1

-- so many entries of a group, from place i on
abbrev pub members_in : Table → Place → List ℕ → ℕ → ℕ → Out (List Entry)
members_in t p others count i = series (member t p others) after_member count 0 i
