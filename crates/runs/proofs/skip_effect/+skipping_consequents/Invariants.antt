use Rattle.std.proofs.Common.{ℕ, ◌+◌, ◌-◌, ◌*◌, ◌≤◌, List}
use Rattle.model.specs.Trees.{Consequent}
use Rattle.adl.specs.Held.{held}
use Rattle.runs.specs.Effects.{ConsequentsAt}
use Rattle.runs.proofs.skip_effect.+skipping_consequents.Given as goal

abbrev pub decreases-skip_consequent : goal.decreases-skip_consequent
decreases-skip_consequent l = 2 * (l.task.now.table.sizes.entries - l.at)

abbrev pub decreases-skip_consequents : goal.decreases-skip_consequents
decreases-skip_consequents l = 2 * (l.task.now.table.sizes.entries - l.at) + 1

-- the consequents that are left end where all of them end
abbrev pub invariant-skip_consequents-loop-k : goal.invariant-skip_consequents-loop-k
invariant-skip_consequents-loop-k l =
    (l.at ≤ l.next)
    × ((v : ℕ) (xs : List Consequent) (j : ℕ) → ConsequentsAt (held l.task) v l.at l.count xs j → (ys : List Consequent) × ConsequentsAt (held l.task) v l.next (l.count - l._k) ys j)
