use Rattle.std.proofs.Common.{◌≡◌, ℕ, ◌+◌, ◌-◌, ◌*◌, ◌≤◌, List, ◌++◌, length}
use Rattle.model.specs.Lists.{below, keep, gather}
use Rattle.model.specs.Meaning.{Part, bind, parts}
use Rattle.model.specs.Trees.{Effect, in_set}
use Rattle.adl.specs.Held.{held}
use Rattle.adl.specs.Reads.{effects_of}
use Rattle.book_of_task.specs.Places.{all_part_places}
use Rattle.runs.specs.Clauses.{PartsWritten, EffectsOf, task_in, round_in, all_parts_of}
use Rattle.runs.specs.Effects.{EffectAt}
use Rattle.runs.specs.Shown.{bound}
use Rattle.runs.proofs.settling.Settling.+writing_effects.Given as goal

abbrev pub decreases-write_effect : goal.decreases-write_effect
decreases-write_effect l = 2 * (l.self.now.sheet.task.now.table.sizes.entries - l.at)

abbrev pub decreases-write_all : goal.decreases-write_all
decreases-write_all l = 2 * (l.self.now.sheet.task.now.table.sizes.entries - l.at) + 1

abbrev pub decreases-write_each : goal.decreases-write_each
decreases-write_each l = 2 * (l.self.now.sheet.task.now.table.sizes.entries - l.at) + 1

-- the first parts were written; those of the effects that are left come after them, as their places do, and these end where all of them end
abbrev pub invariant-write_all-loop-k : goal.invariant-write_all-loop-k
invariant-write_all-loop-k l =
    (l.at ≤ l.next)
    × ((es : List Effect) (j : ℕ) → EffectsOf l.self l.at l.count es j →
    (ps : List Part) × (fs : List Effect) × EffectsOf l.self l.next (l.count - l._k) fs j
    × (all_parts_of l.self es ≡ ps ++ all_parts_of l.self fs) × PartsWritten (task_in l.self) (round_in l.self) ps l.initial.draft l.draft l.written
    × (iss : List (List ℕ)) × (length ps ≡ length iss) × (all_part_places (task_in l.self) l.at (effects_of es) ≡ iss ++ all_part_places (task_in l.self) l.next (effects_of fs)))

-- the parts of the members so far were written
abbrev pub invariant-write_each-loop-o : goal.invariant-write_each-loop-o
invariant-write_each-loop-o l =
    (e : Effect) (j : ℕ) → EffectAt (held l.self.sheet.task.now) (l.self.sheet.depth + 1) l.at e j →
    PartsWritten (task_in l.self) (round_in l.self) (gather (λ o. parts (task_in l.self) (bind (bound l.self.sheet) o) e) (keep (in_set l.members) (below l.o))) l.initial.draft l.draft l.written
