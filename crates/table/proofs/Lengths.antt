-- The arrays of entries have as many places as a table says that it has entries.
use Rattle.std.proofs.Common.{◌≡◌, ℕ, ◌≤◌, length, subst}
use Rattle.table.specs.declared.arrays.Entries.{Entries}

pub kinds_long : (e : Entries) {n : ℕ} → e.count ≡ n → n ≤ length e.kinds.now
kinds_long e h = subst (λ m. m ≤ length e.kinds.now) h e.kinded

pub operands_long : (e : Entries) {n : ℕ} → e.count ≡ n → n ≤ length e.operands.now
operands_long e h = subst (λ m. m ≤ length e.operands.now) h e.numbered
