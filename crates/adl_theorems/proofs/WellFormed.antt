-- The task that stands in a table is well formed.
use Rattle.std.proofs.Common.{◌≡◌, ℕ, zero, suc, ◌+◌, ◌^◌, ◌<◌, Bool, true, false, ◌||◌, eqb, leb, ◌⊎◌, List, [], ◌∷◌, ◌++◌, map, length, get_or, sym, refl, ap, ◌∙◌, subst, inl, inr, ⊎_elim, arith}
use lib.ListN.{length-map}
use Rattle.std.proofs.lemmas.Bool.{ltb-true, eqb-true, or_cases}
use Rattle.table.specs.declared.places.Place.TheVariants as place
use Rattle.table.specs.Permits.{permitted}
use Rattle.table.specs.Reading.{entry, Out, bad, good, then, unless, series, many}
use Rattle.model.specs.Forming.{Each, Within, KnownTerm, KnownAtom, KnownFormula, KnownFormulas, KnownChange, KnownEffect, KnownEffects, KnownOperator, KnownFact, WellFormed}
use Rattle.model.specs.Meaning.{object_of}
use Rattle.model.specs.Trees as tree
use Rattle.model.specs.Trees.{Term, object, variable, Formula, constant, atom, equal, negation, junction, implication, quantifier, Change, Consequent, outcome, outcomes, outcomes_of, all_outcomes, Effect, change, conjunction, for_each, when, Operator, Fact}
use Rattle.model.proofs.Values.{clash}
use Rattle.adl.specs.Tables.{Table, arity, Around, most_entries, outermost, deeper, in_range}
use Rattle.adl.specs.Reads.{term_of, term, terms, junction_of, formulas_of, consequents_of, effects_of, formula_by, formula, changed_atom, change_by, consequent_by, consequent, effect_by, effect, type_set, most_atoms, with_atoms, predicate, fact, parameter, operator, task}
use Rattle.table.specs.Answers.{is_good}
use Rattle.adl.specs.Loads.{accepted, task_in, task_of}
use Rattle.table.proofs.Reading.{bad_is_not_good, passed, same_reading, read_on, made_of, by_test, series_opens}
use Rattle.adl_theorems.proofs.Inverting.{series_each, many_each}
use Rattle.adl_theorems.proofs.Entries.{on_from}

-- the task has the objects, the types and the predicates that the table declares
record Declares (t : Table) (T : tree.Task) : Type 0 where
  objects : T.objects ≡ t.objects
  types : length T.types ≡ t.types
  predicates : length T.arities ≡ t.predicates
  arities : (p : ℕ) → p < t.predicates → get_or T.arities p 0 ≡ arity t p

-- what holds of each element of two lists holds of each of both together
each_append : {A : Type 0} (P : A → Type 0) (xs ys : List A) → Each P xs → Each P ys → Each P (xs ++ ys)
each_append P [] ys h k = k
each_append P (x ∷ xs) ys h k = (h.0, each_append P xs ys h.1 k)

-- the operand is in the range of a kind that is known
ranged_at : (t : Table) (a : Around) (k o n : ℕ) → in_range t a (entry k o) ≡ true → k ≡ n → in_range t a (entry n o) ≡ true
ranged_at t a k o n h e = subst (λ x. in_range t a (entry x o) ≡ true) e h

module _ (t : Table) (T : tree.Task) (d : Declares t T) where
  -- Terms.

  -- what a permitted entry names is an object of the task or a known variable
  named_known : (a : Around) (k o : ℕ) → in_range t a (entry k o) ≡ true → permitted place.Term k ≡ true → KnownTerm T.objects a.variables (term_of (entry k o))
  named_known a k o h p = ⊎_elim
      (λ e. let n = eqb-true k 10 e in subst (λ x. KnownTerm T.objects a.variables (term_of (entry x o))) (sym n) (omega (arith, ltb-true o t.objects (ranged_at t a k o 10 h n), d.objects)))
      (λ e. let n = eqb-true k 11 e in subst (λ x. KnownTerm T.objects a.variables (term_of (entry x o))) (sym n) (ltb-true o a.variables (ranged_at t a k o 11 h n)))
      (or_cases (eqb k 10) (eqb k 11) p)

  -- what is read as a term is known where it stands
  term_known : (a : Around) (i : ℕ) (x : Term) (j : ℕ) → term t a i ≡ good x j → KnownTerm T.objects a.variables x
  term_known a i x j e =
      let w = on_from t place.Term a i (λ e k. good (term_of e) k) x j e in
      same_reading (KnownTerm T.objects a.variables) _ x (i + 1) j w.1
      (named_known a (get_or t.kinds i 0) (get_or t.operands i 0) w.0.ranged w.0.permits)

  -- the terms after an ATOM make a known atom
  atom_known : (a : Around) (p i : ℕ) (ts : List Term) (j : ℕ) → p < t.predicates → terms t a p i ≡ good ts j → KnownAtom T a.variables p ts
  atom_known a p i ts j h e =
      let w = many_each (KnownTerm T.objects a.variables) (term t a) (term_known a) (arity t p) i ts j e in
      record { predicate = omega (arith, d.predicates); arity = w.1 ∙ sym (d.arities p h); terms = w.0 }

  -- the predicate that an ATOM names is one of the task's
  names_predicate : (a : Around) (k o : ℕ) → in_range t a (entry k o) ≡ true → k ≡ 2 → o < t.predicates
  names_predicate a k o h e = ltb-true o t.predicates (ranged_at t a k o 2 h e)

  -- Formulas.

  -- known formulas make a known list of formulas
  formulas_known : (v : ℕ) (fs : List Formula) → Each (KnownFormula T v) fs → KnownFormulas T v (formulas_of fs)
  formulas_known v [] h = tt
  formulas_known v (f ∷ fs) h = (h.0, formulas_known v fs h.1)

  module _ (read : Around → ℕ → Out Formula) (reads : (a : Around) (i : ℕ) (f : Formula) (j : ℕ) → read a i ≡ good f j → KnownFormula T a.variables f)
      (a : Around) (k o j : ℕ) (ranged : in_range t a (entry k o) ≡ true) (f : Formula) (l : ℕ) where
    abbrev Known : Formula → Type 0
    Known = KnownFormula T a.variables

    -- what follows the first entry makes a known formula
    formula_by_known : formula_by t read a (entry k o) j ≡ good f l → Known f
    formula_by_known h =
        by_test (eqb k 2) _ _ _ h
        (λ is q. made_of Known (terms t a o j) (atom o) f l q λ ts n r. atom_known a o j ts n (names_predicate a k o ranged (eqb-true k 2 is)) r)
        λ _ h. by_test (eqb k 3) _ _ _ h
        (λ is q. read_on (term t a j) (λ x k. then (term t a k) λ y l. good (equal x y) l) f l q λ x m r u.
        made_of Known (term t a m) (equal x) f l u λ y n s. (term_known a j x m r, term_known a m y n s))
        λ _ h. by_test (eqb k 4) _ _ _ h
        (λ is q. made_of Known (read a j) negation f l q λ g n r. reads a j g n r)
        λ _ h. by_test (eqb k 5 || eqb k 6) _ _ _ h
        (λ is q. made_of Known (many (read a) o j) (λ fs. junction (junction_of k) (formulas_of fs)) f l q λ fs n r.
        formulas_known a.variables fs (many_each Known (read a) (reads a) o j fs n r).0)
        λ _ h. by_test (eqb k 7) _ _ _ h
        (λ is q. read_on (read a j) (λ f k. then (read a k) λ g l. good (implication f g) l) f l q λ x m r u.
        made_of Known (read a m) (implication x) f l u λ y n s. (reads a j x m r, reads a m y n s))
        λ _ h. by_test (eqb k 8 || eqb k 9) _ _ _ h
        (λ is q. made_of Known (read (deeper a) j) (quantifier (junction_of k) o) f l q λ g n r. (names_type (or_cases (eqb k 8) (eqb k 9) is), reads (deeper a) j g n r))
        λ _ h. same_reading Known (constant (eqb k 0)) f j l h tt
      where
        names_type : (eqb k 8 ≡ true) ⊎ (eqb k 9 ≡ true) → o < length T.types
        names_type (inl e) = omega (arith, ltb-true o t.types (ranged_at t a k o 8 ranged (eqb-true k 8 e)), d.types)
        names_type (inr e) = omega (arith, ltb-true o t.types (ranged_at t a k o 9 ranged (eqb-true k 9 e)), d.types)

  -- what is read as a formula is known where it stands
  formula_known : (room : ℕ) (a : Around) (i : ℕ) (f : Formula) (j : ℕ) → formula t room a i ≡ good f j → KnownFormula T a.variables f
  unfolding formula
  formula_known zero a i f j e = let w = on_from t place.Formula a i (λ e j. bad 6 i) f j e in bad_is_not_good 6 i f j w.1
  formula_known (suc room) a i f j e =
      let w = on_from t place.Formula a i (λ e j. formula_by t (formula t room) a e j) f j e in
      formula_by_known (formula t room) (formula_known room) a (get_or t.kinds i 0) (get_or t.operands i 0) (i + 1) w.0.ranged f j w.1

  -- Changes.

  -- the terms after an ATOM that is added or deleted make a known change
  changed_known : (a : Around) (adds : Bool) (k o j : ℕ) (c : Change) (l : ℕ) → in_range t a (entry k o) ≡ true → k ≡ 2 → changed_atom t a adds (entry k o) j ≡ good c l → KnownChange T a.variables c
  changed_known a adds k o j c l h e q =
      made_of (KnownChange T a.variables) (terms t a o j) (λ ts. record { adds = adds; predicate = o; terms = ts }) c l q λ ts n r.
      atom_known a o j ts n (names_predicate a k o h e) r

  -- an ATOM, or NOT and an ATOM, makes a known change
  change_known : (a : Around) (k o j : ℕ) (c : Change) (l : ℕ) → in_range t a (entry k o) ≡ true → (eqb k 4 ≡ false → k ≡ 2) → change_by t a (entry k o) j ≡ good c l → KnownChange T a.variables c
  change_known a k o j c l h two e =
      by_test (eqb k 4) _ _ _ e
      (λ is q. let u = on_from t place.Negated a j (λ f k. changed_atom t a false f k) c l q in
      changed_known a false (get_or t.kinds j 0) (get_or t.operands j 0) (j + 1) c l u.0.ranged (eqb-true _ 2 u.0.permits) u.1)
      λ no q. changed_known a true k o j c l h (two no) q

  -- Consequents.

  -- each change of a consequent is known
  abbrev KnownOutcomes : ℕ → Consequent → Type 0
  KnownOutcomes v c = Each (KnownChange T v) (outcomes_of c)

  -- and so is each change of a list of consequents
  consequents_known : (v : ℕ) (cs : List Consequent) → Each (KnownOutcomes v) cs → Each (KnownChange T v) (all_outcomes (consequents_of cs))
  consequents_known v [] h = tt
  consequents_known v (c ∷ cs) h = each_append (KnownChange T v) (outcomes_of c) (all_outcomes (consequents_of cs)) h.0 (consequents_known v cs h.1)

  -- what is read as a consequent has known changes
  consequent_known : (room : ℕ) (a : Around) (i : ℕ) (c : Consequent) (j : ℕ) → consequent t room a i ≡ good c j → KnownOutcomes a.variables c
  unfolding consequent
  consequent_known zero a i c j e = let w = on_from t place.Consequent a i (λ e j. bad 6 i) c j e in bad_is_not_good 6 i c j w.1
  consequent_known (suc room) a i c j e =
      let w = on_from t place.Consequent a i (λ e j. consequent_by t (consequent t room a) a e j) c j e in
      let k = get_or t.kinds i 0 in
      let o = get_or t.operands i 0 in
      by_test (eqb k 5) _ _ _ w.1
      (λ is q. made_of (KnownOutcomes a.variables) (many (consequent t room a) o (i + 1)) (λ cs. outcomes (consequents_of cs)) c j q λ cs n r.
      consequents_known a.variables cs (many_each (KnownOutcomes a.variables) (consequent t room a) (consequent_known room a) o (i + 1) cs n r).0)
      λ no q. made_of (KnownOutcomes a.variables) (change_by t a (entry k o) (i + 1)) outcome c j q λ x n r.
      (change_known a k o (i + 1) x n w.0.ranged (λ four. eqb-true k 2 (an_atom (eqb k 2) (eqb k 4) (eqb k 5) w.0.permits four no)) r, tt)
    where
      an_atom : (p q r : Bool) → (p || q || r) ≡ true → q ≡ false → r ≡ false → p ≡ true
      an_atom true q r h x y = refl
      an_atom false q r h x y = clash (rw (x, y) at h)

  -- Effects.

  -- known effects make a known list of effects
  effects_known : (v : ℕ) (es : List Effect) → Each (KnownEffect T v) es → KnownEffects T v (effects_of es)
  effects_known v [] h = tt
  effects_known v (e ∷ es) h = (h.0, effects_known v es h.1)

  -- what is read as an effect is known where it stands
  effect_known : (room : ℕ) (a : Around) (i : ℕ) (e : Effect) (j : ℕ) → effect t room a i ≡ good e j → KnownEffect T a.variables e
  unfolding effect
  effect_known zero a i e j h = let w = on_from t place.Effect a i (λ e j. bad 6 i) e j h in bad_is_not_good 6 i e j w.1
  effect_known (suc room) a i e j h =
      let w = on_from t place.Effect a i (λ e j. effect_by t (effect t room) a e j) e j h in
      let k = get_or t.kinds i 0 in
      let o = get_or t.operands i 0 in
      let Known : Effect → Type 0 = KnownEffect T a.variables in
      by_test (eqb k 5) _ _ _ w.1
      (λ is q. made_of Known (many (effect t room a) o (i + 1)) (λ es. conjunction (effects_of es)) e j q λ es n r.
      effects_known a.variables es (many_each Known (effect t room a) (effect_known room a) o (i + 1) es n r).0)
      λ five h. by_test (eqb k 8) _ _ _ h
      (λ is q. made_of Known (effect t room (deeper a) (i + 1)) (for_each o) e j q λ x n r.
      (omega (arith, ltb-true o t.types (ranged_at t a k o 8 w.0.ranged (eqb-true k 8 is)), d.types), effect_known room (deeper a) (i + 1) x n r))
      λ eight h. by_test (eqb k 12) _ _ _ h
      (λ is q. read_on (formula t most_entries a (i + 1)) (λ f k. then (consequent t most_entries a k) λ c l. good (when f c) l) e j q λ f m r u.
      made_of Known (consequent t most_entries a m) (when f) e j u λ c n s. (formula_known most_entries a (i + 1) f m r, consequent_known most_entries a m c n s))
      λ twelve h. made_of Known (change_by t a (entry k o) (i + 1)) change e j h λ c n r.
      change_known a k o (i + 1) c n w.0.ranged (λ four. eqb-true k 2 (an_atom (eqb k 2) (eqb k 4) (eqb k 5) (eqb k 8) (eqb k 12) w.0.permits four five eight twelve)) r
    where
      an_atom : (p q r s u : Bool) → (p || q || r || s || u) ≡ true → q ≡ false → r ≡ false → s ≡ false → u ≡ false → p ≡ true
      an_atom true q r s u h a b c d = refl
      an_atom false q r s u h a b c d = clash (rw (a, b, c, d) at h)

  -- Facts.

  -- where no variable is known, terms stand for objects of the task
  objects_within : (ts : List Term) → Each (KnownTerm T.objects 0) ts → Within T.objects (map (object_of []) ts)
  objects_within [] h = tt
  objects_within (object o ∷ ts) h = (h.0, objects_within ts h.1)
  objects_within (variable x ∷ ts) h = let z : ⊥ = (let y = h.0 in omega arith) in absurd z

  -- a fact is a known atom of objects
  fact_known : (i : ℕ) (f : Fact) (j : ℕ) → fact t i ≡ good f j → KnownFact T f
  fact_known i f j e =
      let a = outermost 0 i in
      let w = on_from t place.Fact a i (λ e j. then (terms t a e.operand j) λ ts k. good (record { predicate = e.operand; arguments = map (object_of []) ts }) k) f j e in
      let p = get_or t.operands i 0 in
      made_of (KnownFact T) (terms t a p (i + 1)) (λ ts. record { predicate = p; arguments = map (object_of []) ts }) f j w.1 λ ts n r.
      let u = atom_known a p (i + 1) ts n (names_predicate a (get_or t.kinds i 0) p w.0.ranged (eqb-true _ 2 w.0.permits)) r in
      record { predicate = u.predicate; arity = length-map ts (object_of []) ∙ u.arity; arguments = objects_within ts u.terms }

  -- Operators.

  -- a parameter's type is one of the task's
  parameter_known : (i ty j : ℕ) → parameter t i ≡ good ty j → ty < length T.types
  parameter_known i ty j e =
      let w = on_from t place.Parameter (outermost 0 i) i (λ e j. good e.operand j) ty j e in
      let o = get_or t.operands i 0 in
      same_reading (λ x. x < length T.types) o ty (i + 1) j w.1
      (omega (arith, ltb-true o t.types (ranged_at t (outermost 0 i) (get_or t.kinds i 0) o 17 w.0.ranged (eqb-true _ 17 w.0.permits)), d.types))

  -- in an operator its parameters are the known variables
  operator_known : (i : ℕ) (x : Operator) (j : ℕ) → operator t i ≡ good x j → KnownOperator T x
  operator_known i x j e =
      let n = get_or t.operands i 0 in
      let w = on_from t place.Operator (outermost 0 i) i
      (λ e j. then (many (parameter t) e.operand j) λ tys k.
      then (formula t most_entries (outermost e.operand k) k) λ f l.
      then (effect t most_entries (outermost e.operand l) l) λ g m.
      good (record { parameters = tys; precondition = f; effect = g }) m) x j e in
      read_on (many (parameter t) n (i + 1)) _ x j w.1 λ tys k r q.
      read_on (formula t most_entries (outermost n k) k) _ x j q λ f l s u.
      made_of (KnownOperator T) (effect t most_entries (outermost n l) l) (λ g. record { parameters = tys; precondition = f; effect = g }) x j u λ g m v.
      let y = many_each (λ ty. ty < length T.types) (parameter t) parameter_known n (i + 1) tys k r in
      record {
        parameters = y.0;
        precondition = subst (λ z. KnownFormula T z f) (sym y.1) (formula_known most_entries (outermost n k) k f l s);
        effect = subst (λ z. KnownEffect T z g) (sym y.1) (effect_known most_entries (outermost n l) l g m v);
      }

-- Types and predicates.

-- a type has bits for objects only
type_known : (t : Table) (i x j : ℕ) → type_set t i ≡ good x j → x < 2 ^ t.objects
type_known t i x j e =
    let w = on_from t place.TypeSet (outermost 0 i) i (λ e j. good e.operand j) x j e in
    let o = get_or t.operands i 0 in
    same_reading (λ y. y < 2 ^ t.objects) o x (i + 1) j w.1
    (ltb-true o (2 ^ t.objects) (ranged_at t (outermost 0 i) (get_or t.kinds i 0) o 14 w.0.ranged (eqb-true _ 14 w.0.permits)))

-- types have an entry each
after_types : (t : Table) (m i : ℕ) (xs : List ℕ) (k : ℕ) → many (type_set t) m i ≡ good xs k → k ≡ i + m
after_types t zero i xs k e = let q : i ≡ k = cc in omega arith
after_types t (suc m) i xs k e = series_opens (λ (_ : Unit {0}). type_set t) (λ _ _. tt) m tt i xs k e λ x j rest r u q.
    let w = on_from t place.TypeSet (outermost 0 i) i (λ e j. good e.operand j) x j r in
    let g : good (get_or t.operands i 0) (i + 1) ≡ good x j = w.1 in
    let y : i + 1 ≡ j = cc in
    let z = after_types t m j rest k u in
    omega arith

-- a predicate's arity is the operand of its entry
arities_read : (t : Table) (m s i : ℕ) (xs : List ℕ) (k : ℕ) → series (predicate t) (with_atoms t) m s i ≡ good xs k → (p : ℕ) → p < m → get_or xs p 0 ≡ get_or t.operands (i + p) 0
arities_read t zero s i xs k e p h = let z : ⊥ = omega arith in absurd z
arities_read t (suc m) s i xs k e p h = series_opens (predicate t) (with_atoms t) m s i xs k e λ x j rest r u q.
    let w = on_from t place.Predicate (outermost 0 i) i (λ e j. unless (leb (with_atoms t s e.operand) most_atoms) 7 i (good e.operand j)) x j r in
    let g = (passed _ 7 i (good (get_or t.operands i 0) (i + 1)) x j w.1).1 in
    let a : get_or t.operands i 0 ≡ x = cc in
    let b : i + 1 ≡ j = cc in
    ap (λ ys. get_or ys p 0) q ∙ at x j rest (sym a) b (arities_read t m (with_atoms t s x) j rest k u) p h
  where
    at : (x j : ℕ) (rest : List ℕ) → x ≡ get_or t.operands i 0 → i + 1 ≡ j → ((p : ℕ) → p < m → get_or rest p 0 ≡ get_or t.operands (j + p) 0)
        → (p : ℕ) → p < suc m → get_or (x ∷ rest) p 0 ≡ get_or t.operands (i + p) 0
    at x j rest a b f zero h = let z : i ≡ i + 0 = omega arith in a ∙ ap (λ n. get_or t.operands n 0) z
    at x j rest a b f (suc p) h = let z : j + p ≡ i + suc p = omega arith in f p (omega arith) ∙ ap (λ n. get_or t.operands n 0) z

-- The whole task.

-- what is read as a task is well formed
task_known : (t : Table) (T : tree.Task) (n : ℕ) → task t ≡ good T n → WellFormed T
unfolding task
task_known t T n e =
    read_on (many (type_set t) t.types 0) _ T n e λ ts i ets e.
    read_on (series (predicate t) (with_atoms t) t.predicates 0 i) _ T n e λ ps j eps e.
    read_on (many (fact t) t.facts j) _ T n e λ fs k efs e.
    read_on (formula t most_entries (outermost 0 k) k) _ T n e λ g l eg e.
    read_on (many (operator t) t.operators l) _ T n e λ os m eos e.
    let T' : tree.Task = record { objects = t.objects; types = ts; arities = ps; facts = fs; goal = g; operators = os } in
    let types = many_each (λ x. x < 2 ^ t.objects) (type_set t) (type_known t) t.types 0 ts i ets in
    let places : i ≡ 0 + t.types = after_types t t.types 0 ts i ets in
    let d : Declares t T' = record {
      objects = refl;
      types = types.1;
      predicates = (series_each (λ _. Unit {0}) (predicate t) (with_atoms t) (λ _ _ _ _ _. tt) t.predicates 0 i ps j eps).1;
      arities = λ p h. let z : i + p ≡ t.types + p = omega arith in arities_read t t.predicates 0 i ps j eps p h ∙ ap (λ x. get_or t.operands x 0) z;
    } in
    same_reading WellFormed T' T m n (passed _ 4 m _ T n e).1
    (record {
      types = types.0;
      facts = (many_each (KnownFact T') (fact t) (fact_known t T' d) t.facts j fs k efs).0;
      goal = formula_known t T' d most_entries (outermost 0 k) k g l eg;
      operators = (many_each (KnownOperator T') (operator t) (operator_known t T' d) t.operators l os m eos).0;
    })

-- a reading that is good
was_good : {A : Type 0} (o : Out A) → is_good o ≡ true → (x : A) × (j : ℕ) × (o ≡ good x j)
was_good (bad n p) e = clash e
was_good (good x j) e = (x, j, refl)

-- the task that stands in a table is well formed
pub loaded_tasks_are_well_formed : (t : Table) → accepted t ≡ true → WellFormed (task_of t)
loaded_tasks_are_well_formed t e =
    let w = was_good (task t) e in
    subst WellFormed (sym (ap task_in w.2)) (task_known t w.0 w.1 w.2)
