use Rattle.std.proofs.Common.{◌≡◌, ℕ, ◌<◌, length, get_or}
use Rattle.table.specs.declared.kind.Kind.TheVariants.{True}
use Rattle.table.proofs.entries.operands_of.Given as goal

-- those so far are written
abbrev pub invariant-loop-i : goal.invariant-loop-i
invariant-loop-i g l = (length l.operands ≡ g.row.N) × ((k : ℕ) → k < l.i → get_or l.operands k 0 ≡ (get_or l.entries k (True, 0)).1)
