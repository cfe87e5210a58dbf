use Rattle.std.proofs.Common.{ℕ, ◌+◌, ◌-◌, ◌*◌, ◌≤◌, List}
use Rattle.model.specs.Trees.{Consequent, all_outcomes}
use Rattle.adl.specs.Held.{held}
use Rattle.adl.specs.Reads.{consequents_of}
use Rattle.runs.specs.declared.touched.Touched.{Touched}
use Rattle.runs.specs.Effects.{ConsequentsAt}
use Rattle.runs.specs.Touching.{Touches}
use Rattle.runs.proofs.touched.Touched.+noting_consequents.Given as goal

abbrev pub decreases-note_consequent : goal.decreases-note_consequent
decreases-note_consequent l = 2 * (l.task.now.table.sizes.entries - l.at)

abbrev pub decreases-note_consequents : goal.decreases-note_consequents
decreases-note_consequents l = 2 * (l.task.now.table.sizes.entries - l.at) + 1

-- the consequents that are left end where all of them end, and once they are noted, all are
abbrev pub invariant-note_consequents-loop-k : goal.invariant-note_consequents-loop-k
invariant-note_consequents-loop-k l =
    (l.at ≤ l.next)
    × ((v : ℕ) (xs : List Consequent) (j : ℕ) → ConsequentsAt (held l.task) v l.at l.count xs j →
    (ys : List Consequent) × ConsequentsAt (held l.task) v l.next (l.count - l._k) ys j
    × ((z : Touched) → Touches l.self (all_outcomes (consequents_of ys)) z → Touches l.initial.self (all_outcomes (consequents_of xs)) z))
