-- What is settled of atoms, as the code keeps it, and what is left of a formula that is simplified by it.
use Rattle.std.specs.Prelude.{ℕ, Bool, false, List, [], Option, Some, None, slice_index_or}
use Rattle.table.specs.Reading.{Entry}
use Rattle.model.specs.Settling as model
use Rattle.model.specs.Settling.{Ground, known, fact, negated, group, Round}
use Rattle.book_theorems.specs.Writes.{write_ground}
use Rattle.runs.specs.declared.verdict.Verdict.{Verdict}
use Rattle.runs.specs.declared.verdict.Verdict.TheVariants.{Always, Fact}

-- the verdict that the code's verdict means
abbrev pub meaning : Verdict → model.Verdict
meaning (Always b) = model.always b
meaning (Fact j) = model.unsettled

-- the fact that an atom becomes, where it can change
abbrev pub fact_in : Verdict → ℕ
fact_in (Always b) = 0
fact_in (Fact j) = j

-- the verdict of an atom; numbers past the end are those of no atoms, and always false
abbrev pub at : List Verdict → ℕ → Verdict
at vs k = slice_index_or vs k (Always false)

-- the round that a list of verdicts, one for each atom, tells
abbrev pub round_of : List Verdict → Round
round_of vs = record { verdict = λ k. meaning (at vs k); fact_of = λ k. fact_in (at vs k) }

-- the truth of a formula that is TRUE or FALSE
abbrev pub truth_of : Ground → Option Bool
truth_of (known b) = Some b
truth_of (fact j) = None
truth_of (negated g) = None
truth_of (group j gs) = None

-- what is written of a formula that stands inside another: nothing of TRUE and FALSE
abbrev pub body : Ground → List Entry
body (known b) = []
body (fact j) = write_ground (fact j)
body (negated g) = write_ground (negated g)
body (group j gs) = write_ground (group j gs)
