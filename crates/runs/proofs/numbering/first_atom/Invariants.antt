use Rattle.std.proofs.Common.{◌≡◌, take}
use Rattle.model.specs.Trees.{atoms_of}
use Rattle.adl.specs.Held.{tree_of}
use Rattle.runs.proofs.numbering.first_atom.Given as goal

-- the atoms of the predicates so far
abbrev pub invariant-loop-p : goal.invariant-loop-p
invariant-loop-p l = l.first ≡ atoms_of (tree_of l.task).objects (take l.p (tree_of l.task).arities)
