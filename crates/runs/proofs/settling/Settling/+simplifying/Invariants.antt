use Rattle.std.proofs.Common.{ℕ, ◌+◌, ◌-◌, ◌*◌, ◌≤◌, List}
use Rattle.protocol.specs.Junctions.{joining}
use Rattle.model.specs.Trees.{Formula}
use Rattle.adl.specs.Held.{held}
use Rattle.runs.specs.Standing.{FormulaAt}
use Rattle.runs.specs.Left.{FormulasOf, all_simplified_in}
use Rattle.runs.proofs.Parts.{Kept}
use Rattle.runs.proofs.Instances.{instances_in, members_from}
use Rattle.runs.proofs.settling.Settling.+simplifying.Given as goal

abbrev pub decreases-simplify : goal.decreases-simplify
decreases-simplify l = 3 * (l.self.now.sheet.task.now.table.sizes.entries - l.at)

abbrev pub decreases-simplify_negation : goal.decreases-simplify_negation
decreases-simplify_negation l = 3 * (l.self.now.sheet.task.now.table.sizes.entries - l.at) + 1

abbrev pub decreases-simplify_all : goal.decreases-simplify_all
decreases-simplify_all l = 3 * (l.self.now.sheet.task.now.table.sizes.entries - l.at) + 1

abbrev pub decreases-simplify_implication : goal.decreases-simplify_implication
decreases-simplify_implication l = 3 * (l.self.now.sheet.task.now.table.sizes.entries - l.at) + 2

abbrev pub decreases-simplify_each : goal.decreases-simplify_each
decreases-simplify_each l = 3 * (l.self.now.sheet.task.now.table.sizes.entries - l.at) + 1

-- so many parts are left so far, and the formulas to come end where all of them end
abbrev pub invariant-simplify_all-loop-k : goal.invariant-simplify_all-loop-k
invariant-simplify_all-loop-k l = record {
  onward : l.at ≤ l.next;
  few : l.kept ≤ l.k;
  kept : (fs : List Formula) (j : ℕ) → FormulasOf l.fn.self l.at l.count fs j →
      (gs : List Formula) × FormulasOf l.fn.self l.next (l.count - l.k) gs j × Kept (joining l.junction) (all_simplified_in l.fn.self fs) (all_simplified_in l.fn.self gs) l.fn.out.items l.out.items l.kept;
}

-- so many instances are left so far, and those at the members from o on are to come
abbrev pub invariant-simplify_each-loop-o : goal.invariant-simplify_each-loop-o
invariant-simplify_each-loop-o l = record {
  few : l.kept ≤ l.o;
  kept : (f : Formula) (j : ℕ) → FormulaAt (held l.fn.self.sheet.task.now) (l.fn.self.sheet.depth + 1) l.at f j →
      Kept (joining l.junction) (instances_in l.fn.self f (members_from l.fn.self l.members 0)) (instances_in l.fn.self f (members_from l.fn.self l.members l.o)) l.fn.out.items l.out.items l.kept;
}
