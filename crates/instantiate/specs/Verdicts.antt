-- Verdicts of single atoms, and a store that holds the facts.
use Rattle.std.specs.Prelude.{◌≡◌, ℕ, Bool, cond, List, map}
use Rattle.model.specs.Lists.{below, keep}
use Rattle.model.specs.Meaning.{State, is_fact}
use Rattle.model.specs.Trees.{Task}
use Rattle.model.specs.Settling.{can_change_one, is_unsettled}
use Rattle.model.specs.Books.{Start, is_always_true}
use Rattle.runs.specs.Settled.{meaning, at}
use Rattle.runs.specs.declared.verdict.Verdict.{Verdict}
use Rattle.runs.specs.declared.verdict.Verdict.TheVariants.{Always, Fact}

-- an atom that can change becomes a fact, another keeps its first truth
abbrev pub judged : Bool → Bool → ℕ → Verdict
judged is_true can_change j = cond can_change (Fact j) (Always is_true)

-- the store holds the facts of the task
abbrev pub FactsIn : Task → State → Type 0
FactsIn t s = s ≡ is_fact t

-- those of the first n atoms that can change, as verdicts tell them, each with the truth that a state has of it
abbrev pub starts_of : State → List Verdict → ℕ → List Start
starts_of s vs n = map (λ k. record { atom = k; starts = s k }) (keep (λ k. is_unsettled (meaning (at vs k))) (below n))

-- those of the first n atoms that are always true
abbrev pub always_of : List Verdict → ℕ → List ℕ
always_of vs n = keep (λ k. is_always_true (meaning (at vs k))) (below n)

-- the verdict of an atom in round one, where a fact is the atom itself
abbrev pub told_one : Task → ℕ → Verdict
told_one t k = judged (is_fact t k) (can_change_one t k) k
