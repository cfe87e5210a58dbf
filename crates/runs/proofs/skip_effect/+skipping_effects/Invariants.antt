use Rattle.std.proofs.Common.{ℕ, ◌+◌, ◌-◌, ◌*◌, ◌≤◌, List}
use Rattle.model.specs.Trees.{Effect}
use Rattle.adl.specs.Held.{held}
use Rattle.runs.specs.Effects.{EffectsAt}
use Rattle.runs.proofs.skip_effect.+skipping_effects.Given as goal

abbrev pub decreases-skip_effect : goal.decreases-skip_effect
decreases-skip_effect l = 2 * (l.task.now.table.sizes.entries - l.at)

abbrev pub decreases-skip_effects : goal.decreases-skip_effects
decreases-skip_effects l = 2 * (l.task.now.table.sizes.entries - l.at) + 1

-- the effects that are left end where all of them end
abbrev pub invariant-skip_effects-loop-k : goal.invariant-skip_effects-loop-k
invariant-skip_effects-loop-k l =
    (l.at ≤ l.next)
    × ((v : ℕ) (xs : List Effect) (j : ℕ) → EffectsAt (held l.task) v l.at l.count xs j → (ys : List Effect) × EffectsAt (held l.task) v l.next (l.count - l._k) ys j)
