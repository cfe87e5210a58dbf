-- A book table: five sizes and two arrays, and what may stand at a place of it.
use Rattle.std.specs.Prelude.{ℕ, ◌+◌, Bool, true, cond, ◌||◌, List, ◌==◌, nat_lt, slice_index}
use Rattle.table.specs.declared.places.Place.{Place}
use Rattle.table.specs.Permits.{permitted}
use Rattle.table.specs.Reading.{Entry, entry, Out, good, unless}

-- the sizes and the arrays
pub record Table : Type 0 where
  pub atoms : ℕ
  pub relevant : ℕ
  pub always : ℕ
  pub actions : ℕ
  pub entries : ℕ
  pub kinds : List ℕ
  pub operands : List ℕ

-- what stands at place i
abbrev pub entry_at : Table → ℕ → Entry
entry_at t i = entry (slice_index t.kinds i) (slice_index t.operands i)

-- an entry may be inside 512 others, so 513 levels are left for one that is inside none
abbrev pub most_levels : ℕ
most_levels = 513

-- operators and objects are numbers below
abbrev pub most_names : ℕ
most_names = 32

-- the most objects of a name
abbrev pub most_objects : ℕ
most_objects = 4

-- the operand is in the range of its kind
abbrev pub in_range : Table → Entry → Bool
in_range t e =
    -- AND and OR have any number of parts
    cond (e.kind == 5 || e.kind == 6) true
    -- FACT names a relevant atom
    (cond (e.kind == 13) (nat_lt e.operand t.relevant)
    -- ACTION names an operator
    (cond (e.kind == 18) (nat_lt e.operand most_names)
    -- STARTS-TRUE, STARTS-FALSE and ALWAYS name an atom
    (cond (e.kind == 19 || (e.kind == 20 || e.kind == 21)) (nat_lt e.operand t.atoms)
    (e.operand == 0))))

-- the entry at place i, where so many levels are left, with the first of the faults 4, 3, 6 and 5
abbrev pub head : Table → Place → ℕ → ℕ → Out Entry
head t p levels i =
    unless (nat_lt i t.entries) 4 i
    (unless (permitted p (slice_index t.kinds i)) 3 i
    (unless (nat_lt 0 levels) 6 i
    (unless (in_range t (entry_at t i)) 5 i
    (good (entry_at t i) (i + 1)))))
