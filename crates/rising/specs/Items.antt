-- What a rising list holds.
use Rattle.std.specs.Prelude.{ℕ, List, length, take}
use Rattle.rising.specs.declared.rising.Rising.{Rising}

-- the keys, in their order
abbrev pub items : {K : Type 0} → Rising K → List K
items r = take r.len r.slots.now

-- the number of places
abbrev pub room : {K : Type 0} → Rising K → ℕ
room r = length r.slots.now
