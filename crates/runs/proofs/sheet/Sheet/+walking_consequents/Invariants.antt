use Rattle.std.proofs.Common.{◌≡◌, ℕ, ◌+◌, ◌-◌, ◌*◌, ◌≤◌, List, fold}
use Rattle.model.specs.Trees.{Consequent}
use Rattle.adl.specs.Held.{tree_of}
use Rattle.runs.specs.Effects.{ConsequentsIn, consequents_literals}
use Rattle.runs.specs.Shown.{bound}
use Rattle.runs.specs.Windows.{offered}
use Rattle.runs.proofs.sheet.Sheet.+walking_consequents.Given as goal

abbrev pub decreases-walk_consequent : goal.decreases-walk_consequent
decreases-walk_consequent l = 2 * (l.self.now.task.now.table.sizes.entries - l.at)

abbrev pub decreases-walk_consequents : goal.decreases-walk_consequents
decreases-walk_consequents l = 2 * (l.self.now.task.now.table.sizes.entries - l.at) + 1

-- after the consequents that are left the window has all of them, and they end where all of them end
abbrev pub invariant-walk_consequents-loop-k : goal.invariant-walk_consequents-loop-k
invariant-walk_consequents-loop-k l =
    let T = tree_of l.self.task.now in
    let sh = bound l.self in
    (l.at ≤ l.next)
    × ((cs : List Consequent) (j : ℕ) → ConsequentsIn l.self l.at l.count cs j →
    (ds : List Consequent) × ConsequentsIn l.self l.next (l.count - l._k) ds j × (fold offered l.window (consequents_literals T sh ds) ≡ fold offered l.initial.window (consequents_literals T sh cs)))
