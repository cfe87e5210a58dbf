use Rattle.std.proofs.Common.{ℕ, ◌-◌, ◌<◌, ◌≤◌, length, get_or}
use Rattle.book.proofs.groups.place_among.Given as goal

-- the atom stands nowhere before low, and nowhere from high on
abbrev pub invariant-loop-low : goal.invariant-loop-low
invariant-loop-low l =
    (l.low ≤ l.high)
    × (l.high ≤ length l.atoms)
    × ((k : ℕ) → k < l.low → get_or l.atoms k 0 < l.atom)
    × ((k : ℕ) → l.high ≤ k → k < length l.atoms → l.atom < get_or l.atoms k 0)

abbrev pub decreases-loop-low : goal.decreases-loop-low
decreases-loop-low l = l.high - l.low
