use Rattle.std.proofs.Common.{◌≡◌, map, length}
use Rattle.model.specs.Lists.{below, keep}
use Rattle.adl.specs.Held.{tree_of}
use Rattle.instantiate.proofs.Becoming.{opens, told_two}
use Rattle.instantiate.proofs.verdicts.verdicts_two.Given as goal

-- the atoms so far, and how many of them are relevant
abbrev pub invariant-loop-atom : goal.invariant-loop-atom
invariant-loop-atom l =
    (l.fact ≡ length (keep (opens (tree_of l.task)) (below l.atom))) × (l.verdicts.items ≡ map (told_two (tree_of l.task)) (below l.atom))
