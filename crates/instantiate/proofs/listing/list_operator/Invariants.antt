use Rattle.std.proofs.Common.{◌≡◌, ◌++◌, List}
use Rattle.adl.specs.Held.{tree_of}
use Rattle.model.specs.Lists.{gather}
use Rattle.model.specs.Meaning as model
use Rattle.model.specs.Settling.{reach, round_one}
use Rattle.rising.specs.Items.{items, room}
use Rattle.instantiate.specs.Listing.{Lists}
use Rattle.instantiate.proofs.Naming.{front}
use Rattle.instantiate.proofs.listing.list_operator.Given as goal

abbrev pub invariant-loop-objects : goal.invariant-loop-objects
invariant-loop-objects l =
    let t = tree_of l.task in
    (room l.listed ≡ room l.initial.listed)
    × ((ls : List model.Literal) → Lists (items l.initial.listed) ls →
    Lists (items l.listed) (ls ++ gather (reach t (round_one t)) (front l.operator l.count l.objects-index l.objects-items)))
