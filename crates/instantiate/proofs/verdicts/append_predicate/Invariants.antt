use Rattle.std.proofs.Common.{◌≡◌, ◌+◌, map}
use Rattle.model.specs.Lists.{below}
use Rattle.adl.specs.Held.{tree_of}
use Rattle.instantiate.specs.Verdicts.{told_one}
use Rattle.instantiate.proofs.verdicts.append_predicate.Given as goal

-- the atoms so far
abbrev pub invariant-loop-i : goal.invariant-loop-i
invariant-loop-i l = l.out.items ≡ map (told_one (tree_of l.task)) (below (l.first + l.i))
