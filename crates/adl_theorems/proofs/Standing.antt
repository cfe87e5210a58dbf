-- What follows from a task that stands in its table.
use Rattle.std.proofs.Common.{◌≡◌, ℕ, zero, suc, ◌+◌, ◌-◌, ◌^◌, ◌<◌, ◌≤◌, true, leb, List, [], length, get_or, sym, refl, ap, ◌∙◌, subst, arith, ltb-true, eqb-true, leb-true}
use Rattle.table.specs.declared.places.Place.TheVariants as place
use Rattle.table.specs.Reading.{Entry, Out, bad, good, then, series, many, next_place}
use Rattle.model.specs.Meaning.{nothing}
use Rattle.model.specs.Trees as tree
use Rattle.model.specs.Trees.{atoms_of, atoms}
use Rattle.adl.specs.Tables.{Table, arity, most_entries, outermost, head}
use Rattle.adl.specs.Reads.{type_set, with_atoms, predicate, fact, formula, effect, parameter, operator, task, facts_place, goal_place, operators_place, operator_places, precondition_place, effect_place}
use Rattle.table.specs.Answers.{is_good}
use Rattle.adl.specs.Loads.{accepted, task_in, task_of}
use Rattle.table.proofs.Reading.{first_step, passed, series_first, series_length, singles_end, singles_item, starts_length, many_item}
use Rattle.adl.proofs.Heads.{found, operand_read}
use Rattle.adl.proofs.Declared.{range_of, PredicateRead, predicate_read, type_single, predicate_single, parameter_single}
use Rattle.adl.proofs.Whole.{at_end, after_goal, after_facts, after_predicates, after_types, task_parts}
use Rattle.adl_theorems.proofs.Inside.{inside_at, inside_series, inside_many, inside_type, inside_predicate, inside_operator, inside_formula}

-- a reading that is good has an item and a place
is_good_read : {A : Type 0} (o : Out A) → is_good o ≡ true → (x : A) × (j : ℕ) × (o ≡ good x j)
is_good_read (bad n p) e = absurd (let z : ◌≡◌ {A = ℕ} 0 1 = cc in omega arith)
is_good_read (good x j) e = (x, j, refl)

-- the task, and how each of its parts was read, from place to place
pub record Stands (t : Table) : Type 0 where
  pub whole : task t ≡ good (task_of t) t.entries
  pub objects : (task_of t).objects ≡ t.objects
  pub types : many (type_set t) t.types 0 ≡ good (task_of t).types t.types
  pub predicates : series (predicate t) (with_atoms t) t.predicates 0 t.types ≡ good (task_of t).arities (facts_place t)
  pub facts : many (fact t) t.facts (facts_place t) ≡ good (task_of t).facts (goal_place t)
  pub goal : formula t most_entries (outermost 0 (goal_place t)) (goal_place t) ≡ good (task_of t).goal (operators_place t)
  pub operators : many (operator t) t.operators (operators_place t) ≡ good (task_of t).operators t.entries

module _ (t : Table) (T : tree.Task) (m : ℕ) (read : task t ≡ good T m) where
  abbrev is_task : task_of t ≡ T
  is_task = ap (λ o. task_in o) read

  read_types : (ts : List ℕ) × (many (type_set t) t.types 0 ≡ good ts t.types) × (after_types t ts t.types ≡ good T m)
  read_types =
      let w = first_step (many (type_set t) t.types 0) (after_types t) T m (sym (task_parts t) ∙ read) in
      let z : w.1 ≡ t.types = omega (arith, singles_end (λ (_ : Unit {0}). type_set t) (λ _ _. tt) (λ _ x a l h. type_single t x a l h) t.types tt 0 w.0 w.1 w.2) in
      (w.0, w.2 ∙ ap (good w.0) z, ap (after_types t w.0) (sym z) ∙ w.3)

  read_predicates : (ps : List ℕ) × (series (predicate t) (with_atoms t) t.predicates 0 t.types ≡ good ps (facts_place t)) × (after_predicates t read_types.0 ps (facts_place t) ≡ good T m)
  read_predicates =
      let w = first_step (series (predicate t) (with_atoms t) t.predicates 0 t.types) (after_predicates t read_types.0) T m read_types.2 in
      let z : w.1 ≡ facts_place t = singles_end (predicate t) (with_atoms t) (predicate_single t) t.predicates 0 t.types w.0 w.1 w.2 in
      (w.0, w.2 ∙ ap (good w.0) z, ap (after_predicates t read_types.0 w.0) (sym z) ∙ w.3)

  read_facts : (fs : List tree.Fact) × (many (fact t) t.facts (facts_place t) ≡ good fs (goal_place t)) × (after_facts t read_types.0 read_predicates.0 fs (goal_place t) ≡ good T m)
  read_facts =
      let w = first_step (many (fact t) t.facts (facts_place t)) (after_facts t read_types.0 read_predicates.0) T m read_predicates.2 in
      let z : goal_place t ≡ w.1 = ap (λ o. next_place o) w.2 in
      (w.0, w.2 ∙ ap (good w.0) (sym z), ap (after_facts t read_types.0 read_predicates.0 w.0) z ∙ w.3)

  read_goal : (g : tree.Formula) × (formula t most_entries (outermost 0 (goal_place t)) (goal_place t) ≡ good g (operators_place t)) × (after_goal t read_types.0 read_predicates.0 read_facts.0 g (operators_place t) ≡ good T m)
  read_goal =
      let w = first_step (formula t most_entries (outermost 0 (goal_place t)) (goal_place t)) (after_goal t read_types.0 read_predicates.0 read_facts.0) T m read_facts.2 in
      let z : operators_place t ≡ w.1 = ap (λ o. next_place o) w.2 in
      (w.0, w.2 ∙ ap (good w.0) (sym z), ap (after_goal t read_types.0 read_predicates.0 read_facts.0 w.0) z ∙ w.3)

  goal_ends : operators_place t ≤ t.entries
  goal_ends = inside_at t (formula t most_entries (outermost 0 (goal_place t)) (goal_place t)) read_goal.0 (operators_place t) (inside_formula t most_entries (outermost 0 (goal_place t)) (goal_place t)) read_goal.1

  abbrev with_operators : List tree.Operator → tree.Task
  with_operators os = record { objects = t.objects; types = read_types.0; arities = read_predicates.0; facts = read_facts.0; goal = read_goal.0; operators = os }

  read_operators : (os : List tree.Operator) × (many (operator t) t.operators (operators_place t) ≡ good os t.entries) × (m ≡ t.entries) × (T ≡ with_operators os)
  read_operators =
      let w = first_step (many (operator t) t.operators (operators_place t)) (at_end t read_types.0 read_predicates.0 read_facts.0 read_goal.0) T m read_goal.2 in
      let v = passed (leb t.entries w.1) 4 w.1 (good (with_operators w.0) w.1) T m w.3 in
      let i : w.1 ≤ t.entries = inside_at t (many (operator t) t.operators (operators_place t)) w.0 w.1 (inside_many t (operator t) (λ x _. inside_operator t x) t.operators (operators_place t) goal_ends) w.2 in
      let z : w.1 ≡ t.entries = omega (arith, leb-true t.entries w.1 v.0) in
      let q : good (with_operators w.0) w.1 ≡ good T m = v.1 in
      let n : w.1 ≡ m = cc in
      let s : with_operators w.0 ≡ T = cc in
      (w.0, w.2 ∙ ap (good w.0) z, sym n ∙ z, sym s)

  stands_read : Stands t
  stands_read =
      let q : task_of t ≡ with_operators read_operators.0 = is_task ∙ read_operators.3 in
      record {
        whole = read ∙ ap (good T) read_operators.2 ∙ ap (λ x. good x t.entries) (sym is_task);
        objects = ap (λ (x : tree.Task). x.objects) q;
        types = read_types.1 ∙ ap (λ (x : tree.Task). good x.types t.types) (sym q);
        predicates = read_predicates.1 ∙ ap (λ (x : tree.Task). good x.arities (facts_place t)) (sym q);
        facts = read_facts.1 ∙ ap (λ (x : tree.Task). good x.facts (goal_place t)) (sym q);
        goal = read_goal.1 ∙ ap (λ (x : tree.Task). good x.goal (operators_place t)) (sym q);
        operators = read_operators.1 ∙ ap (λ (x : tree.Task). good x.operators t.entries) (sym q);
      }

pub stands : (t : Table) → accepted t ≡ true → Stands t
stands t h = let w = is_good_read (task t) h in stands_read t w.0 w.1 w.2

-- all predicates together have few atoms
atoms_few : (t : Table) (m s i : ℕ) (ps : List ℕ) (k : ℕ) → s ≤ 65536 → series (predicate t) (with_atoms t) m s i ≡ good ps k → s + atoms_of t.objects ps ≤ 65536
atoms_few t zero s i ps k h e = let q : [] ≡ ps = cc in subst (λ xs. s + atoms_of t.objects xs ≤ 65536) q (omega arith)
atoms_few t (suc m) s i ps k h e =
    let w = series_first (predicate t) (with_atoms t) (suc m) s i ps k (omega arith) e in
    let n : suc m - 1 ≡ m = omega arith in
    let r : series (predicate t) (with_atoms t) m (with_atoms t s w.0) w.1 ≡ good w.2 k = ap (λ x. series (predicate t) (with_atoms t) x (with_atoms t s w.0) w.1) (sym n) ∙ w.4 in
    let f = (predicate_read t s i w.0 w.1 w.3).few in
    let ih : s + t.objects ^ w.0 + atoms_of t.objects w.2 ≤ 65536 = atoms_few t m (with_atoms t s w.0) w.1 w.2 k f r in
    subst (λ xs. s + atoms_of t.objects xs ≤ 65536) (sym w.5) (omega arith)

-- an operator that was read, part after part
pub record OperatorRead (t : Table) (i : ℕ) (op : tree.Operator) (j : ℕ) : Type 0 where
  pub inside : i < t.entries
  pub ends : j ≤ t.entries
  pub count : get_or t.operands i 0 ≡ length op.parameters
  pub few : get_or t.operands i 0 ≤ 4
  pub parameters : many (parameter t) (get_or t.operands i 0) (i + 1) ≡ good op.parameters (precondition_place t i)
  pub precondition : formula t most_entries (outermost (get_or t.operands i 0) (precondition_place t i)) (precondition_place t i) ≡ good op.precondition (effect_place t i)
  pub effect_is : effect t most_entries (outermost (get_or t.operands i 0) (effect_place t i)) (effect_place t i) ≡ good op.effect j
  pub each : (x : ℕ) → x < get_or t.operands i 0 → (get_or t.operands (i + 1 + x) 0 ≡ get_or op.parameters x 0) × (get_or t.operands (i + 1 + x) 0 < t.types)

pub parameter_read : (t : Table) (i x j : ℕ) → parameter t i ≡ good x j → (get_or t.operands i 0 ≡ x) × (get_or t.operands i 0 < t.types)
parameter_read t i x j e =
    let w = operand_read t place.Parameter (outermost 0 i) i x j e in
    let k = get_or t.kinds i 0 in
    let r = range_of t (outermost 0 i) k 17 (get_or t.operands i 0) (eqb-true k 17 w.0.allowed) w.0.ranged in
    (sym w.1, ltb-true (get_or t.operands i 0) t.types r)

pub operator_read : (t : Table) (i : ℕ) (op : tree.Operator) (j : ℕ) → operator t i ≡ good op j → OperatorRead t i op j
operator_read t i op j e =
    let after_effect : List ℕ → tree.Formula → tree.Effect → ℕ → Out tree.Operator = λ tys f g m. good (record { parameters = tys; precondition = f; effect = g }) m in
    let after_formula : Entry → List ℕ → tree.Formula → ℕ → Out tree.Operator = λ x tys f l. then (effect t most_entries (outermost x.operand l) l) (after_effect tys f) in
    let after_parameters : Entry → List ℕ → ℕ → Out tree.Operator = λ x tys l. then (formula t most_entries (outermost x.operand l) l) (after_formula x tys) in
    let w = first_step (head t place.Operator (outermost 0 i) i) (λ x l. then (many (parameter t) x.operand l) (after_parameters x)) op j e in
    let f = found t place.Operator (outermost 0 i) i w.0 w.1 w.2 in
    let n : w.0.operand ≡ get_or t.operands i 0 = ap (λ (x : Entry). x.operand) f.is in
    let k = get_or t.operands i 0 in
    let v = first_step (many (parameter t) w.0.operand w.1) (after_parameters w.0) op j w.3 in
    let u = first_step (formula t most_entries (outermost w.0.operand v.1) v.1) (after_formula w.0 v.0) op j v.3 in
    let s = first_step (effect t most_entries (outermost w.0.operand u.1) u.1) (after_effect v.0 u.0) op j u.3 in
    let q : good (record { parameters = v.0; precondition = u.0; effect = s.0 }) s.1 ≡ good op j = s.3 in
    let o : record { parameters = v.0; precondition = u.0; effect = s.0 } ≡ op = cc in
    let l : s.1 ≡ j = cc in
    let tys : v.0 ≡ op.parameters = ap (λ (x : tree.Operator). x.parameters) o in
    let pre : u.0 ≡ op.precondition = ap (λ (x : tree.Operator). x.precondition) o in
    let eff : s.0 ≡ op.effect = ap (λ (x : tree.Operator). x.effect) o in
    let read_first : many (parameter t) k (i + 1) ≡ good v.0 v.1 = ap (λ x. many (parameter t) x (i + 1)) (sym n) ∙ ap (λ x. many (parameter t) w.0.operand x) (sym f.ends) ∙ v.2 in
    let z : v.1 ≡ precondition_place t i = singles_end (λ (_ : Unit {0}). parameter t) (λ _ _. tt) (λ _ x a y h. parameter_single t x a y h) k tt (i + 1) v.0 v.1 read_first in
    let read_parameters : many (parameter t) k (i + 1) ≡ good op.parameters (precondition_place t i) = read_first ∙ ap (good v.0) z ∙ ap (λ x. good x (precondition_place t i)) tys in
    let f0 : formula t most_entries (outermost k (precondition_place t i)) (precondition_place t i) ≡ good u.0 u.1 = ap (λ x. formula t most_entries (outermost k x) x) (sym z) ∙ ap (λ x. formula t most_entries (outermost x v.1) v.1) (sym n) ∙ u.2 in
    let y : effect_place t i ≡ u.1 = ap (λ x. next_place x) f0 in
    let g0 : effect t most_entries (outermost k (effect_place t i)) (effect_place t i) ≡ good s.0 s.1 = ap (λ x. effect t most_entries (outermost k x) x) y ∙ ap (λ x. effect t most_entries (outermost x u.1) u.1) (sym n) ∙ s.2 in
    let r = range_of t (outermost 0 i) (get_or t.kinds i 0) 16 k (eqb-true (get_or t.kinds i 0) 16 f.allowed) f.ranged in
    record {
      inside = f.inside;
      ends = inside_at t (operator t i) op j (inside_operator t i) e;
      count = sym (series_length (λ (_ : Unit {0}). parameter t) (λ _ _. tt) k tt (i + 1) op.parameters (precondition_place t i) read_parameters);
      few = omega (arith, ltb-true k 5 r);
      parameters = read_parameters;
      precondition = f0 ∙ ap (good u.0) (sym y) ∙ ap (λ x. good x (effect_place t i)) pre;
      effect_is = g0 ∙ ap (good s.0) l ∙ ap (λ x. good x j) eff;
      each = λ x h. let b = singles_item (λ (_ : Unit {0}). parameter t) (λ _ _. tt) (λ _ c a d g. parameter_single t c a d g) 0 k tt (i + 1) op.parameters (precondition_place t i) read_parameters x h in parameter_read t (i + 1 + x) (get_or op.parameters x 0) (i + 1 + x + 1) b.1;
    }

module _ (t : Table) (formed : accepted t ≡ true) where
  abbrev T : tree.Task
  T = task_of t

  -- Objects.
  pub same_objects : (task_of t).objects ≡ t.objects
  same_objects = (stands t formed).objects

  -- Types.
  pub types_length : length (task_of t).types ≡ t.types
  types_length = series_length (λ (_ : Unit {0}). type_set t) (λ _ _. tt) t.types tt 0 T.types t.types (stands t formed).types

  pub type_at : (ty : ℕ) → ty < t.types → get_or (task_of t).types ty 0 ≡ get_or t.operands ty 0
  type_at ty h =
      let w = singles_item (λ (_ : Unit {0}). type_set t) (λ _ _. tt) (λ _ c a d g. type_single t c a d g) 0 t.types tt 0 T.types t.types (stands t formed).types ty h in
      let z : 0 + ty ≡ ty = omega arith in
      (operand_read t place.TypeSet (outermost 0 (0 + ty)) (0 + ty) (get_or T.types ty 0) (0 + ty + 1) w.1).1 ∙ ap (λ x. get_or t.operands x 0) z

  -- Predicates.
  pub arities_length : length (task_of t).arities ≡ t.predicates
  arities_length = series_length (predicate t) (with_atoms t) t.predicates 0 t.types T.arities (facts_place t) (stands t formed).predicates

  predicate_at : (p : ℕ) → p < t.predicates → (s : ℕ) × PredicateRead t s (t.types + p) (get_or (task_of t).arities p 0) (t.types + p + 1)
  predicate_at p h =
      let w = singles_item (predicate t) (with_atoms t) (predicate_single t) 0 t.predicates 0 t.types T.arities (facts_place t) (stands t formed).predicates p h in
      (w.0, predicate_read t w.0 (t.types + p) (get_or T.arities p 0) (t.types + p + 1) w.1)

  pub arity_at : (p : ℕ) → p < t.predicates → get_or (task_of t).arities p 0 ≡ arity t p
  arity_at p h = (predicate_at p h).1.is

  pub arity_small : (p : ℕ) → p < t.predicates → arity t p < 4
  arity_small p h = omega (arith, (predicate_at p h).1.is, (predicate_at p h).1.small)

  pub declarations_inside : t.types + t.predicates ≤ t.entries
  declarations_inside =
      let a : t.types ≤ t.entries = inside_at t (many (type_set t) t.types 0) T.types t.types (inside_many t (type_set t) (λ i _. inside_type t i) t.types 0 (omega arith)) (stands t formed).types in
      inside_at t (series (predicate t) (with_atoms t) t.predicates 0 t.types) T.arities (facts_place t) (inside_series t (predicate t) (with_atoms t) (λ s i _. inside_predicate t s i) t.predicates 0 t.types a) (stands t formed).predicates

  pub atoms_bounded : atoms (task_of t) ≤ 65536
  atoms_bounded =
      let b = atoms_few t t.predicates 0 t.types T.arities (facts_place t) (omega arith) (stands t formed).predicates in
      subst (λ n. atoms_of n T.arities ≤ 65536) (sym (stands t formed).objects) (omega (arith, b))

  -- Facts.
  pub facts_length : length (task_of t).facts ≡ t.facts
  facts_length = series_length (λ (_ : Unit {0}). fact t) (λ _ _. tt) t.facts tt (facts_place t) T.facts (goal_place t) (stands t formed).facts

  -- Operators.
  pub operators_length : length (task_of t).operators ≡ t.operators
  operators_length = series_length (λ (_ : Unit {0}). operator t) (λ _ _. tt) t.operators tt (operators_place t) T.operators t.entries (stands t formed).operators

  -- the operator with number o, at the place where it begins
  pub operator_at : (o : ℕ) → o < t.operators → (j : ℕ) × (operator t (get_or (operator_places t) o 0) ≡ good (get_or (task_of t).operators o nothing) j)
  unfolding operator_places
  operator_at o h = many_item (operator t) nothing t.operators (operators_place t) T.operators t.entries (stands t formed).operators o h

  pub operator_stands : (o : ℕ) → o < t.operators → (j : ℕ) × OperatorRead t (get_or (operator_places t) o 0) (get_or (task_of t).operators o nothing) j
  operator_stands o h = let w = operator_at o h in (w.0, operator_read t (get_or (operator_places t) o 0) (get_or T.operators o nothing) w.0 w.1)

-- there are as many places as operators
pub operator_places_length : (t : Table) → length (operator_places t) ≡ t.operators
unfolding operator_places
operator_places_length t = starts_length (operator t) t.operators (operators_place t)
