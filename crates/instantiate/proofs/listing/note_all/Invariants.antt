use Rattle.std.proofs.Common.{◌≡◌, ◌++◌, List, map, take}
use Rattle.model.specs.Meaning as model
use Rattle.rising.specs.Items.{items, room}
use Rattle.runs.specs.Effects.{meant}
use Rattle.instantiate.specs.Listing.{Lists}
use Rattle.instantiate.proofs.listing.note_all.Given as goal

abbrev pub invariant-loop-literal : goal.invariant-loop-literal
invariant-loop-literal l =
    (room l.listed ≡ room l.initial.listed)
    × ((ls : List model.Literal) → Lists (items l.initial.listed) ls → Lists (items l.listed) (ls ++ map meant (take l.literal-index l.literals)))
