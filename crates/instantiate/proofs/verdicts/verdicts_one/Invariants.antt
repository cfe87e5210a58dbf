use Rattle.std.proofs.Common.{◌≡◌, map, take}
use Rattle.model.specs.Lists.{below}
use Rattle.model.specs.Trees.{atoms_of}
use Rattle.adl.specs.Held.{tree_of}
use Rattle.instantiate.specs.Verdicts.{told_one}
use Rattle.instantiate.proofs.verdicts.verdicts_one.Given as goal

-- the atoms of the predicates so far
abbrev pub invariant-loop-predicate : goal.invariant-loop-predicate
invariant-loop-predicate l =
    (l.first ≡ atoms_of (tree_of l.task).objects (take l.predicate (tree_of l.task).arities)) × (l.verdicts.items ≡ map (told_one (tree_of l.task)) (below l.first))
