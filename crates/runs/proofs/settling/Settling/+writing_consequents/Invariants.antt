use Rattle.std.proofs.Common.{◌≡◌, ℕ, ◌+◌, ◌-◌, ◌*◌, ◌≤◌, List, ◌++◌, length}
use Rattle.model.specs.Meaning.{Literal}
use Rattle.model.specs.Trees.{Consequent}
use Rattle.runs.specs.Clauses.{LiteralsWritten, round_in, all_literals_of}
use Rattle.adl.specs.Reads.{consequents_of}
use Rattle.book_of_task.specs.Places.{all_outcome_places}
use Rattle.runs.specs.Effects.{ConsequentsIn}
use Rattle.runs.proofs.settling.Settling.+writing_consequents.Given as goal

abbrev pub decreases-write_consequent : goal.decreases-write_consequent
decreases-write_consequent l = 2 * (l.self.now.sheet.task.now.table.sizes.entries - l.at)

abbrev pub decreases-write_consequents : goal.decreases-write_consequents
decreases-write_consequents l = 2 * (l.self.now.sheet.task.now.table.sizes.entries - l.at) + 1

-- the first literals were written; those of the consequents that are left come after them, as their places do, and these end where all of them end
abbrev pub invariant-write_consequents-loop-k : goal.invariant-write_consequents-loop-k
invariant-write_consequents-loop-k l =
    (l.at ≤ l.next)
    × ((cs : List Consequent) (j : ℕ) → ConsequentsIn l.self.sheet l.at l.count cs j →
    (ls : List Literal) × (ds : List Consequent) × ConsequentsIn l.self.sheet l.next (l.count - l._k) ds j
    × (all_literals_of l.self cs ≡ ls ++ all_literals_of l.self ds) × LiteralsWritten (round_in l.self) ls l.initial.draft l.draft l.written
    × (is : List ℕ) × (length ls ≡ length is) × (all_outcome_places l.at (consequents_of cs) ≡ is ++ all_outcome_places l.next (consequents_of ds)))
