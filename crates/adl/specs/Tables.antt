-- A task table: six sizes and two arrays, and what may stand at a place of it.
use Rattle.std.specs.Prelude.{ℕ, ◌+◌, ◌-◌, ◌^◌, Bool, true, cond, not, ◌&&◌, ◌||◌, List, ◌==◌, nat_lt, slice_index}
use Rattle.table.specs.declared.places.Place.{Place}
use Rattle.table.specs.Permits.{permitted}
use Rattle.table.specs.Reading.{Entry, entry, Out, good, unless}

-- the sizes and the arrays
pub record Table : Type 0 where
  pub objects : ℕ
  pub types : ℕ
  pub predicates : ℕ
  pub facts : ℕ
  pub operators : ℕ
  pub entries : ℕ
  pub kinds : List ℕ
  pub operands : List ℕ

-- what stands at place i
abbrev pub entry_at : Table → ℕ → Entry
entry_at t i = entry (slice_index t.kinds i) (slice_index t.operands i)

-- the arity of a predicate: the predicates are declared after the types
abbrev pub arity : Table → ℕ → ℕ
arity t p = slice_index t.operands (t.types + p)

-- what is known around an entry: how many variables it may name, how many quantifiers stand around it, and where its formula or
-- effect begins
pub record Around : Type 0 where
  pub variables : ℕ
  pub quantifiers : ℕ
  pub start : ℕ

-- the most entries of a formula or an effect
abbrev pub most_entries : ℕ
most_entries = 256

-- the most quantifiers inside one another
abbrev pub most_quantifiers : ℕ
most_quantifiers = 3

-- at the beginning of a formula or an effect, with so many parameters
abbrev pub outermost : ℕ → ℕ → Around
outermost params i = record { variables = params; quantifiers = 0; start = i }

-- inside one more quantifier, which brings one more variable
abbrev pub deeper : Around → Around
deeper a = record { variables = a.variables + 1; quantifiers = a.quantifiers + 1; start = a.start }

abbrev pub is_quantifier : ℕ → Bool
is_quantifier k = k == 8 || k == 9

-- no more entries of the formula or effect come before it than may, and its quantifiers are not nested too deep
abbrev pub within_bounds : Around → ℕ → Entry → Bool
within_bounds a i e = nat_lt (i - a.start) most_entries && (not (is_quantifier e.kind) || nat_lt a.quantifiers most_quantifiers)

-- the operand is in the range of its kind
abbrev pub in_range : Table → Around → Entry → Bool
in_range t a e =
    -- ATOM names a predicate
    cond (e.kind == 2) (nat_lt e.operand t.predicates)
    -- AND and OR have any number of parts
    (cond (e.kind == 5 || e.kind == 6) true
    -- FORALL, EXISTS and PARAMETER name a type
    (cond (e.kind == 8 || (e.kind == 9 || e.kind == 17)) (nat_lt e.operand t.types)
    -- OBJECT and VARIABLE
    (cond (e.kind == 10) (nat_lt e.operand t.objects)
    (cond (e.kind == 11) (nat_lt e.operand a.variables)
    -- TYPE has bits for objects only
    (cond (e.kind == 14) (nat_lt e.operand (2 ^ t.objects))
    -- PREDICATE has an arity, OPERATOR a number of parameters
    (cond (e.kind == 15) (nat_lt e.operand 4)
    (cond (e.kind == 16) (nat_lt e.operand 5)
    (e.operand == 0))))))))

-- the entry at place i, with the first of the faults 4, 3, 6 and 5
abbrev pub head : Table → Place → Around → ℕ → Out Entry
head t p a i =
    unless (nat_lt i t.entries) 4 i
    (unless (permitted p (slice_index t.kinds i)) 3 i
    (unless (within_bounds a i (entry_at t i)) 6 i
    (unless (in_range t a (entry_at t i)) 5 i
    (good (entry_at t i) (i + 1)))))
