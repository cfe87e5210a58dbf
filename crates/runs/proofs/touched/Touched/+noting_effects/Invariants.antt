use Rattle.std.proofs.Common.{ℕ, ◌+◌, ◌-◌, ◌*◌, ◌≤◌, List}
use Rattle.model.specs.Trees.{Effect, all_changes}
use Rattle.adl.specs.Held.{held}
use Rattle.adl.specs.Reads.{effects_of}
use Rattle.runs.specs.declared.touched.Touched.{Touched}
use Rattle.runs.specs.Effects.{EffectsAt}
use Rattle.runs.specs.Touching.{Touches}
use Rattle.runs.proofs.touched.Touched.+noting_effects.Given as goal

abbrev pub decreases-note_effect : goal.decreases-note_effect
decreases-note_effect l = 2 * (l.task.now.table.sizes.entries - l.at)

abbrev pub decreases-note_effects : goal.decreases-note_effects
decreases-note_effects l = 2 * (l.task.now.table.sizes.entries - l.at) + 1

-- the effects that are left end where all of them end, and once they are noted, all are
abbrev pub invariant-note_effects-loop-k : goal.invariant-note_effects-loop-k
invariant-note_effects-loop-k l =
    (l.at ≤ l.next)
    × ((v : ℕ) (xs : List Effect) (j : ℕ) → EffectsAt (held l.task) v l.at l.count xs j →
    (ys : List Effect) × EffectsAt (held l.task) v l.next (l.count - l._k) ys j
    × ((z : Touched) → Touches l.self (all_changes (effects_of ys)) z → Touches l.initial.self (all_changes (effects_of xs)) z))
