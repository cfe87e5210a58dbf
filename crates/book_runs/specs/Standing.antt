-- What a reading at a place of a book's table comes to.
use Rattle.std.specs.Prelude.{ℕ, ◌+◌, Bool, true, false, cond, List, [], ◌==◌, slice_index}
use Rattle.table.specs.Reading.{Out, bad, good}
use Rattle.model.specs.Trees.{Junction}
use Rattle.model.specs.Meaning.{State, Literal}
use Rattle.model.specs.Settling.{Ground, ground_value, ground_values}
use Rattle.model.specs.Books.{Clause, clause_literals}
use Rattle.book.specs.Tables.{Table}
use Rattle.book.specs.Reads.{grounds_of}

-- the value of the formula that was read
abbrev pub value_in : State → Out Ground → Bool
value_in s (bad n p) = false
value_in s (good g j) = ground_value s g

-- the items that were read
abbrev pub items_in : {A : Type 0} → Out (List A) → List A
items_in (bad n p) = []
items_in (good xs j) = xs

-- whether all formulas that were read are true, or any
abbrev pub values_in : State → Junction → Out (List Ground) → Bool
values_in s j o = ground_values s j (grounds_of (items_in o))

-- the literals that the clause that was read brings about
abbrev pub literals_in : State → Out Clause → List Literal
literals_in s (bad n p) = []
literals_in s (good c j) = clause_literals s c

-- the literal that begins at place i, and the place after it
abbrev pub literal_at : Table → ℕ → Literal
literal_at t i =
    cond (slice_index t.kinds i == 4) (record { adds = false; atom = slice_index t.operands (i + 1) })
    (record { adds = true; atom = slice_index t.operands i })

abbrev pub literal_end : Table → ℕ → ℕ
literal_end t i = cond (slice_index t.kinds i == 4) (i + 2) (i + 1)
