-- Reading a book from its table.
use Rattle.std.specs.Prelude.{ℕ, zero, suc, ◌+◌, ◌-◌, Bool, true, false, cond, not, ◌&&◌, ◌||◌, List, [], ◌∷◌, take, ◌==◌, nat_le, nat_lt, slice_index}
use Rattle.table.specs.declared.places.Place.TheVariants as place
use Rattle.table.specs.Reading.{Entry, Out, bad, good, then, unless, series, many, next_place}
use Rattle.model.specs.Lists.{has}
use Rattle.model.specs.Trees.{Junction, all, any, Name}
use Rattle.model.specs.Meaning.{Literal}
use Rattle.model.specs.Settling.{Ground, known, fact, negated, group, Grounds, nil, cons}
use Rattle.model.specs.Books.{Clause, plain, when, Action, Start, Book}
use Rattle.book.specs.Tables.{Table, most_levels, most_names, most_objects, head}

-- the atom is at least `low`, so that atoms rise: `low` is one more than the atom before
abbrev pub start : Table → ℕ → ℕ → Out Start
start t low i =
    then (head t place.Relevant most_levels i) λ e j.
    unless (nat_le low e.operand) 8 i (good (record { atom = e.operand; starts = (e.kind == 19) }) j)

-- the atoms that start true or false, from the first entry on
abbrev pub after_start : ℕ → Start → ℕ
after_start low s = s.atom + 1

abbrev pub starts_in : Table → Out (List Start)
starts_in t = series (start t) after_start t.relevant 0 0

-- the atom is among those that start true or false: they are the operands of the first entries
abbrev pub is_listed : Table → ℕ → Bool
is_listed t k = has k (take t.relevant t.operands)

-- an atom that is always true
abbrev pub always_true : Table → ℕ → ℕ → Out ℕ
always_true t low i =
    then (head t place.Always most_levels i) λ e j.
    unless (nat_le low e.operand && not (is_listed t e.operand)) 8 i (good e.operand j)

abbrev pub after_atom : ℕ → ℕ → ℕ
after_atom low k = k + 1

abbrev pub always_in : Table → ℕ → Out (List ℕ)
always_in t i = series (always_true t) after_atom t.always 0 i

-- AND asks for all, OR for any
abbrev pub junction_of : ℕ → Junction
junction_of k = cond (k == 5) all any

abbrev pub grounds_of : List Ground → Grounds
grounds_of [] = nil
grounds_of (g ∷ gs) = cons g (grounds_of gs)

-- FACT, TRUE or FALSE
abbrev pub leaf : Entry → Ground
leaf e = cond (e.kind == 13) (fact e.operand) (known (e.kind == 0))

-- what follows the first entry of a formula, whose parts are read by `read`
abbrev pub ground_by : (ℕ → Out Ground) → Entry → ℕ → Out Ground
ground_by read e j =
    cond (e.kind == 4) (then (read j) λ g k. good (negated g) k)
    (cond (e.kind == 5 || e.kind == 6) (then (many read e.operand j) λ gs k. good (group (junction_of e.kind) (grounds_of gs)) k)
    (good (leaf e) j))

-- a formula, where so many levels are left: with none, its entry is refused
unfoldable pub ground : Table → ℕ → ℕ → Out Ground
ground t zero i = then (head t place.Ground zero i) λ e j. bad 6 i
ground t (suc levels) i = then (head t place.Ground (suc levels) i) λ e j. ground_by (ground t levels) e j

-- FACT adds, NOT and FACT deletes
abbrev pub literal_by : Table → ℕ → Entry → ℕ → Out Literal
literal_by t levels e j =
    cond (e.kind == 4) (then (head t place.NegatedFact levels j) λ f k. good (record { adds = false; atom = f.operand }) k)
    (good (record { adds = true; atom = e.operand }) j)

-- a literal of a WHEN
abbrev pub literal : Table → ℕ → Out Literal
literal t i = then (head t place.Literal 510 i) λ e j. literal_by t 509 e j

-- the literals of a WHEN: AND of at least one
abbrev pub literals : Table → ℕ → Out (List Literal)
literals t i = then (head t place.Literals 511 i) λ e j. unless (nat_lt 0 e.operand) 5 i (many (literal t) e.operand j)

-- a part of an effect: a literal, or a WHEN with its formula and its literals
abbrev pub clause_by : Table → Entry → ℕ → Out Clause
clause_by t e j =
    cond (e.kind == 12) (then (ground t 511 j) λ g k. then (literals t k) λ ls l. good (when g ls) l)
    (then (literal_by t 511 e j) λ l k. good (plain l) k)

abbrev pub clause : Table → ℕ → Out Clause
clause t i = then (head t place.Clause 512 i) λ e j. clause_by t e j

-- an action's effect: AND of its parts
abbrev pub effect : Table → ℕ → Out (List Clause)
effect t i = then (head t place.Clauses most_levels i) λ e j. many (clause t) e.operand j

-- OBJECT stands at place i
abbrev pub is_object : Table → ℕ → Bool
is_object t i = nat_lt i t.entries && slice_index t.kinds i == 10

-- the objects of a name go on as long as OBJECT stands there; `room` more may come
unfoldable pub objects : Table → ℕ → ℕ → Out (List ℕ)
objects t zero i = cond (is_object t i) (bad 5 i) (good [] i)
objects t (suc room) i =
    cond (is_object t i)
    (unless (nat_lt (slice_index t.operands i) most_names) 5 i (then (objects t room (i + 1)) λ os j. good (slice_index t.operands i ∷ os) j))
    (good [] i)

-- lists of numbers from the left, a list before any longer one that it begins
abbrev pub precedes : List ℕ → List ℕ → Bool
precedes [] [] = false
precedes [] (y ∷ ys) = true
precedes (x ∷ xs) [] = false
precedes (x ∷ xs) (y ∷ ys) = cond (x == y) (precedes xs ys) (nat_lt x y)

-- a name as a list: its operator, then its objects
abbrev pub listed : Name → List ℕ
listed m = m.operator ∷ m.objects

-- a name, which comes after the one before; that it does not is told at its last entry
abbrev pub name : Table → List ℕ → ℕ → Out Name
name t before i =
    then (head t place.Action most_levels i) λ e j.
    then (objects t most_objects j) λ os k.
    unless (precedes before (e.operand ∷ os)) 8 (k - 1) (good (record { operator = e.operand; objects = os }) k)

-- an action: its name, its precondition, its effect
abbrev pub action : Table → List ℕ → ℕ → Out Action
action t before i =
    then (name t before i) λ m j.
    then (ground t most_levels j) λ g k.
    then (effect t k) λ cs l.
    good (record { name = m; precondition = g; effect = cs }) l

abbrev pub after_action : List ℕ → Action → List ℕ
after_action before a = listed a.name

abbrev pub actions_in : Table → ℕ → Out (List Action)
actions_in t i = series (action t) after_action t.actions [] i

-- a whole book: the two groups of atoms, the goal, the actions, and nothing left over
unfoldable pub book : Table → Out Book
book t =
    then (starts_in t) λ ss i.
    then (always_in t i) λ ks j.
    then (ground t most_levels j) λ g k.
    then (actions_in t k) λ acts l.
    unless (nat_le t.entries l) 4 l (good (record { atoms = t.atoms; relevant = ss; always = ks; goal = g; actions = acts }) l)

-- where the goal begins, and where the actions do
abbrev pub goal_place : Table → ℕ
goal_place t = t.relevant + t.always

abbrev pub actions_place : Table → ℕ
actions_place t = next_place (ground t most_levels (goal_place t))
