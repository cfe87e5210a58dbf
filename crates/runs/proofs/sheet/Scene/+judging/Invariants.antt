use Rattle.protocol.specs.Junctions.{joining}
use Rattle.std.proofs.Common.{◌≡◌, ℕ, ◌+◌, ◌-◌, ◌*◌, ◌<◌, ◌≤◌, List, true}
use Rattle.model.specs.Trees.{Formula, in_set}
use Rattle.model.specs.Meaning.{bind, value}
use Rattle.adl.specs.Held.{held, tree_of}
use Rattle.protocol.specs.Shown.{shown}
use Rattle.runs.specs.Shown.{bound, FormulasIn, values_in}
use Rattle.runs.specs.Standing.{FormulaAt}
use Rattle.runs.proofs.sheet.Scene.+judging.Given as goal

abbrev pub decreases-judge : goal.decreases-judge
decreases-judge l = 2 * (l.self.now.sheet.task.now.table.sizes.entries - l.at)

abbrev pub decreases-judge_all : goal.decreases-judge_all
decreases-judge_all l = 2 * (l.self.now.sheet.task.now.table.sizes.entries - l.at) + 1

abbrev pub decreases-judge_each : goal.decreases-judge_each
decreases-judge_each l = 2 * (l.self.now.sheet.task.now.table.sizes.entries - l.at) + 1

-- the scene is as it was, and the formulas that are left give the value of all of them, and end where all of them end
abbrev pub invariant-judge_all-loop-k : goal.invariant-judge_all-loop-k
invariant-judge_all-loop-k l =
    (l.self ≡ l.initial.self)
    × (l.at ≤ l.next)
    × ((fs : List Formula) (j : ℕ) → FormulasIn l.initial.self l.at l.count fs j →
    (gs : List Formula) × FormulasIn l.initial.self l.next (l.count - l.k) gs j × (values_in l.initial.self (joining l.fn.junction) gs ≡ values_in l.initial.self (joining l.fn.junction) fs))

-- the scene is as it was, and each member so far left it undecided
abbrev pub invariant-judge_each-loop-o : goal.invariant-judge_each-loop-o
invariant-judge_each-loop-o l =
    (l.self ≡ l.initial.self)
    × ((f : Formula) (j : ℕ) → FormulaAt (held l.initial.self.sheet.task.now) (l.initial.self.sheet.depth + 1) l.at f j →
    (k : ℕ) → k < l.o → in_set l.members k ≡ true →
    value (tree_of l.initial.self.sheet.task.now) (shown l.initial.self.image.now) (bind (bound l.initial.self.sheet) k) f ≡ l.undecided)
