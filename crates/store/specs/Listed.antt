-- The set that a store keeps as a rising list.
use Rattle.std.specs.Prelude.{ℕ, min}
use Rattle.model.specs.Meaning.{State}
use Rattle.rising.specs.declared.rising.Rising.{Rising}
use Rattle.rising.specs.Items.{items, room}
use Rattle.store.specs.Members.{listed}

-- a place for each fact, and 65,536 at most
abbrev pub list_size : Rising ℕ → ℕ
list_size r = min (room r) 65536

-- the set of the numbers in the list
abbrev pub list_facts : Rising ℕ → State
list_facts r = listed (items r)
