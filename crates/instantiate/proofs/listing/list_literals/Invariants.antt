use Rattle.std.proofs.Common.{◌≡◌}
use Rattle.adl.specs.Held.{tree_of}
use Rattle.model.specs.Lists.{below, gather}
use Rattle.rising.specs.Items.{items, room}
use Rattle.instantiate.specs.Listing.{Lists}
use Rattle.instantiate.specs.Outcome.{literals_of}
use Rattle.instantiate.proofs.listing.list_literals.Given as goal

abbrev pub invariant-loop-operator : goal.invariant-loop-operator
invariant-loop-operator l =
    (room l.listed ≡ room l.initial.listed) × Lists (items l.listed) (gather (literals_of (tree_of l.task)) (below l.operator))
