use Rattle.std.proofs.Common.{ℕ, ◌<◌, slice_index}
use Rattle.book.proofs.groups.Group.without_below.Given as goal

-- the atoms that were passed are below
abbrev pub invariant-loop-place : goal.invariant-loop-place
invariant-loop-place l = (k : ℕ) → k < l.place → slice_index l.self.atoms.now k < l.atom
