-- Reading a task from its table.
use Rattle.std.specs.Prelude.{ℕ, zero, suc, ◌+◌, ◌^◌, Bool, true, false, cond, ◌||◌, List, [], ◌∷◌, map, ◌==◌, nat_le, slice_index}
use Rattle.table.specs.declared.places.Place.{Place}
use Rattle.table.specs.declared.places.Place.TheVariants as place
use Rattle.table.specs.Reading.{Entry, Out, bad, good, then, unless, series, many, next_place, starts}
use Rattle.model.specs.Meaning.{object_of}
use Rattle.model.specs.Trees as tree
use Rattle.model.specs.Trees.{Term, object, variable, Junction, all, any, Formula, constant, atom, equal, negation, junction, implication, quantifier, Formulas, none, more, Change, Consequent, outcome, outcomes, Consequents, no_outcome, also, Effect, change, conjunction, for_each, when, Effects, no_effect, and}
use Rattle.adl.specs.Tables.{Table, arity, Around, most_entries, outermost, deeper, head}

-- a term
abbrev pub term_of : Entry → Term
term_of e = cond (e.kind == 10) (object e.operand) (variable e.operand)

abbrev pub term : Table → Around → ℕ → Out Term
term t a i = then (head t place.Term a i) λ e j. good (term_of e) j

-- as many terms as the predicate's arity
abbrev pub terms : Table → Around → ℕ → ℕ → Out (List Term)
terms t a p i = many (term t a) (arity t p) i

-- AND and FORALL ask for all, OR and EXISTS for any
abbrev pub junction_of : ℕ → Junction
junction_of k = cond (k == 5 || k == 8) all any

-- lists of trees
abbrev pub formulas_of : List Formula → Formulas
formulas_of [] = none
formulas_of (f ∷ fs) = more f (formulas_of fs)

abbrev pub consequents_of : List Consequent → Consequents
consequents_of [] = no_outcome
consequents_of (c ∷ cs) = also c (consequents_of cs)

abbrev pub effects_of : List Effect → Effects
effects_of [] = no_effect
effects_of (e ∷ es) = and e (effects_of es)

-- what follows the first entry of a formula, whose parts are read by `read`
abbrev pub formula_by : Table → (Around → ℕ → Out Formula) → Around → Entry → ℕ → Out Formula
formula_by t read a e j =
    cond (e.kind == 2) (then (terms t a e.operand j) λ ts k. good (atom e.operand ts) k)
    (cond (e.kind == 3) (then (term t a j) λ x k. then (term t a k) λ y l. good (equal x y) l)
    (cond (e.kind == 4) (then (read a j) λ f k. good (negation f) k)
    (cond (e.kind == 5 || e.kind == 6) (then (many (read a) e.operand j) λ fs k. good (junction (junction_of e.kind) (formulas_of fs)) k)
    (cond (e.kind == 7) (then (read a j) λ f k. then (read a k) λ g l. good (implication f g) l)
    (cond (e.kind == 8 || e.kind == 9) (then (read (deeper a) j) λ f k. good (quantifier (junction_of e.kind) e.operand f) k)
    (good (constant (e.kind == 0)) j))))))

-- a formula; `room` bounds how deep its parts nest, which the bound on its entries does before
unfoldable pub formula : Table → ℕ → Around → ℕ → Out Formula
formula t zero a i = then (head t place.Formula a i) λ e j. bad 6 i
formula t (suc room) a i = then (head t place.Formula a i) λ e j. formula_by t (formula t room) a e j

-- an atom that is added or deleted, after its ATOM
abbrev pub changed_atom : Table → Around → Bool → Entry → ℕ → Out Change
changed_atom t a adds e j = then (terms t a e.operand j) λ ts k. good (record { adds = adds; predicate = e.operand; terms = ts }) k

-- ATOM adds, NOT and ATOM deletes
abbrev pub change_by : Table → Around → Entry → ℕ → Out Change
change_by t a e j = cond (e.kind == 4) (then (head t place.Negated a j) λ f k. changed_atom t a false f k) (changed_atom t a true e j)

-- what a WHEN brings about
abbrev pub consequent_by : Table → (ℕ → Out Consequent) → Around → Entry → ℕ → Out Consequent
consequent_by t read a e j =
    cond (e.kind == 5) (then (many read e.operand j) λ cs k. good (outcomes (consequents_of cs)) k)
    (then (change_by t a e j) λ c k. good (outcome c) k)

unfoldable pub consequent : Table → ℕ → Around → ℕ → Out Consequent
consequent t zero a i = then (head t place.Consequent a i) λ e j. bad 6 i
consequent t (suc room) a i = then (head t place.Consequent a i) λ e j. consequent_by t (consequent t room a) a e j

-- an effect
abbrev pub effect_by : Table → (Around → ℕ → Out Effect) → Around → Entry → ℕ → Out Effect
effect_by t read a e j =
    cond (e.kind == 5) (then (many (read a) e.operand j) λ es k. good (conjunction (effects_of es)) k)
    (cond (e.kind == 8) (then (read (deeper a) j) λ f k. good (for_each e.operand f) k)
    (cond (e.kind == 12) (then (formula t most_entries a j) λ f k. then (consequent t most_entries a k) λ c l. good (when f c) l)
    (then (change_by t a e j) λ c k. good (change c) k)))

unfoldable pub effect : Table → ℕ → Around → ℕ → Out Effect
effect t zero a i = then (head t place.Effect a i) λ e j. bad 6 i
effect t (suc room) a i = then (head t place.Effect a i) λ e j. effect_by t (effect t room) a e j

-- the operand of one entry
abbrev pub operand_at : Table → Place → ℕ → Out ℕ
operand_at t p i = then (head t p (outermost 0 i) i) λ e j. good e.operand j

-- a type is a set of objects
abbrev pub type_set : Table → ℕ → Out ℕ
type_set t = operand_at t place.TypeSet

-- a predicate's arity; the predicates before it have `before` atoms, and all of them together at most 65,536
abbrev pub most_atoms : ℕ
most_atoms = 65536

abbrev pub with_atoms : Table → ℕ → ℕ → ℕ
with_atoms t before a = before + t.objects ^ a

abbrev pub predicate : Table → ℕ → ℕ → Out ℕ
predicate t before i =
    then (head t place.Predicate (outermost 0 i) i) λ e j.
    unless (nat_le (with_atoms t before e.operand) most_atoms) 7 i (good e.operand j)

-- a fact: an atom in which no variable is known
abbrev pub fact : Table → ℕ → Out tree.Fact
fact t i =
    then (head t place.Fact (outermost 0 i) i) λ e j.
    then (terms t (outermost 0 i) e.operand j) λ ts k.
    good (record { predicate = e.operand; arguments = map (object_of []) ts }) k

-- the type of a parameter
abbrev pub parameter : Table → ℕ → Out ℕ
parameter t = operand_at t place.Parameter

-- an operator: its parameters, its precondition, its effect
abbrev pub operator : Table → ℕ → Out tree.Operator
operator t i =
    then (head t place.Operator (outermost 0 i) i) λ e j.
    then (many (parameter t) e.operand j) λ tys k.
    then (formula t most_entries (outermost e.operand k) k) λ f l.
    then (effect t most_entries (outermost e.operand l) l) λ g m.
    good (record { parameters = tys; precondition = f; effect = g }) m

-- a whole task: types, predicates, facts, the goal, the operators, and nothing left over
unfoldable pub task : Table → Out tree.Task
task t =
    then (many (type_set t) t.types 0) λ ts i.
    then (series (predicate t) (with_atoms t) t.predicates 0 i) λ ps j.
    then (many (fact t) t.facts j) λ fs k.
    then (formula t most_entries (outermost 0 k) k) λ g l.
    then (many (operator t) t.operators l) λ os m.
    unless (nat_le t.entries m) 4 m (good (record { objects = t.objects; types = ts; arities = ps; facts = fs; goal = g; operators = os }) m)

-- where the facts, the goal and the operators begin
abbrev pub facts_place : Table → ℕ
facts_place t = t.types + t.predicates

abbrev pub goal_place : Table → ℕ
goal_place t = next_place (many (fact t) t.facts (facts_place t))

abbrev pub operators_place : Table → ℕ
operators_place t = next_place (formula t most_entries (outermost 0 (goal_place t)) (goal_place t))

unfoldable pub operator_places : Table → List ℕ
operator_places t = starts (operator t) t.operators (operators_place t)

-- where the precondition of the operator at place i begins, and where its effect
abbrev pub precondition_place : Table → ℕ → ℕ
precondition_place t i = i + 1 + slice_index t.operands i

abbrev pub effect_place : Table → ℕ → ℕ
effect_place t i =
    next_place (formula t most_entries (outermost (slice_index t.operands i) (precondition_place t i)) (precondition_place t i))
