-- Names, actions and what they consist of, by their places in a table.
use Rattle.std.specs.Prelude.{◌≡◌, ℕ, ◌+◌, List, slice_index}
use Rattle.std.specs.List.{between}
use Rattle.table.specs.Reading.{good, next_place}
use Rattle.model.specs.Trees.{Name}
use Rattle.model.specs.Settling.{Ground}
use Rattle.model.specs.Books.{Clause, Action}
use Rattle.book.specs.Tables.{Table, most_levels, most_objects}
use Rattle.book.specs.Reads.{ground, effect, objects, action}

-- the name from place i to place j of the operands
abbrev pub name_in : List ℕ → ℕ → ℕ → Name
name_in os i j = record { operator = slice_index os i; objects = between (i + 1) j os }

-- an action stands at place i
abbrev pub SomeAction : Table → ℕ → Type 0
SomeAction t i = (before : List ℕ) × (a : Action) × (j : ℕ) × (action t before i ≡ good a j)

-- the place after the name of the action at place i, where its precondition begins
abbrev pub name_end : Table → ℕ → ℕ
name_end t i = next_place (objects t most_objects (i + 1))

-- a precondition and an effect stand from place i on
abbrev pub SomeBody : Table → ℕ → Type 0
SomeBody t i = (g : Ground) × (k : ℕ) × (cs : List Clause) × (j : ℕ) × (ground t most_levels i ≡ good g k) × (effect t k ≡ good cs j)

-- the place after them
abbrev pub body_end : Table → ℕ → ℕ
body_end t i = next_place (effect t (next_place (ground t most_levels i)))
