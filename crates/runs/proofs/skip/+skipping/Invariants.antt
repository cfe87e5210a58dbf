use Rattle.std.proofs.Common.{ℕ, ◌+◌, ◌-◌, ◌*◌, ◌≤◌, List}
use Rattle.model.specs.Trees.{Formula}
use Rattle.adl.specs.Held.{held}
use Rattle.runs.specs.Standing.{FormulasAt}
use Rattle.runs.proofs.skip.+skipping.Given as goal

abbrev pub decreases-skip : goal.decreases-skip
decreases-skip l = 2 * (l.task.now.table.sizes.entries - l.at)

abbrev pub decreases-skip_all : goal.decreases-skip_all
decreases-skip_all l = 2 * (l.task.now.table.sizes.entries - l.at) + 1

-- the formulas that are left end where all of them end
abbrev pub invariant-skip_all-loop-k : goal.invariant-skip_all-loop-k
invariant-skip_all-loop-k l =
    (l.at ≤ l.next)
    × ((v : ℕ) (fs : List Formula) (j : ℕ) → FormulasAt (held l.task) v l.at l.count fs j → (gs : List Formula) × FormulasAt (held l.task) v l.next (l.count - l._k) gs j)
