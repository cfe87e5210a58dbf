use Rattle.std.proofs.Common.{◌≡◌, ℕ, ◌+◌, ◌-◌, ◌*◌, ◌≤◌, List, fold}
use Rattle.model.specs.Lists.{below, keep, gather}
use Rattle.model.specs.Meaning.{bind}
use Rattle.model.specs.Trees.{Effect, in_set}
use Rattle.runs.specs.Effects.{EffectAt, EffectsIn, effect_literals, all_literals_in}
use Rattle.adl.specs.Held.{held, tree_of}
use Rattle.protocol.specs.Shown.{shown}
use Rattle.runs.specs.Shown.{bound}
use Rattle.runs.specs.Windows.{offered}
use Rattle.runs.proofs.sheet.Scene.+walking.Given as goal

abbrev pub decreases-walk : goal.decreases-walk
decreases-walk l = 2 * (l.self.now.sheet.task.now.table.sizes.entries - l.at)

abbrev pub decreases-walk_all : goal.decreases-walk_all
decreases-walk_all l = 2 * (l.self.now.sheet.task.now.table.sizes.entries - l.at) + 1

abbrev pub decreases-walk_each : goal.decreases-walk_each
decreases-walk_each l = 2 * (l.self.now.sheet.task.now.table.sizes.entries - l.at) + 1

-- the scene is as it was; after the effects that are left the window has all of them, and they end where all of them end
abbrev pub invariant-walk_all-loop-k : goal.invariant-walk_all-loop-k
invariant-walk_all-loop-k l =
    (l.self ≡ l.initial.self)
    × (l.at ≤ l.next)
    × ((es : List Effect) (j : ℕ) → EffectsIn l.initial.self l.at l.count es j →
    (fs : List Effect) × EffectsIn l.initial.self l.next (l.count - l._k) fs j × (fold offered l.window (all_literals_in l.initial.self fs) ≡ fold offered l.initial.window (all_literals_in l.initial.self es)))

-- the scene is as it was, and the window has the literals of the members so far
abbrev pub invariant-walk_each-loop-o : goal.invariant-walk_each-loop-o
invariant-walk_each-loop-o l =
    let s = l.initial.self in
    (l.self ≡ s)
    × ((e : Effect) (j : ℕ) → EffectAt (held s.sheet.task.now) (s.sheet.depth + 1) l.at e j →
    l.window ≡ fold offered l.initial.window (gather (λ o. effect_literals (tree_of s.sheet.task.now) (shown s.image.now) (bind (bound s.sheet) o) e) (keep (in_set l.members) (below l.o))))
