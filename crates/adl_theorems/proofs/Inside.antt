-- Whatever is read well ends inside the table.
use Rattle.std.proofs.Common.{◌≡◌, ℕ, zero, suc, ◌+◌, ◌≤◌, Bool, true, false, cond, ◌||◌, eqb, ltb, leb, [], ◌∷◌, map, get_or, refl, arith, ltb-true}
use Rattle.table.specs.declared.places.Place.{Place}
use Rattle.table.specs.declared.places.Place.TheVariants as place
use Rattle.table.specs.Permits.{permitted}
use Rattle.table.specs.Reading.{Entry, Out, bad, good, then, unless, series, many}
use Rattle.model.specs.Meaning.{object_of}
use Rattle.model.specs.Trees.{Formula, Consequent, Effect, constant, atom, equal, negation, junction, implication, quantifier, outcome, outcomes, change, conjunction, for_each, when}
use Rattle.adl.specs.Tables.{Table, Around, entry_at, within_bounds, in_range, most_entries, outermost, deeper, head}
use Rattle.adl.specs.Reads.{term_of, term, terms, junction_of, formulas_of, consequents_of, effects_of, formula_by, formula, changed_atom, change_by, consequent_by, consequent, effect_by, effect, type_set, with_atoms, predicate, fact, parameter, operator}

-- it is refused, or ends inside the table
abbrev pub Inside : {A : Type 0} → Table → Out A → Type 0
Inside t (bad n p) = Unit {0}
Inside t (good x j) = j ≤ t.entries

pub inside_at : {A : Type 0} (t : Table) (o : Out A) (x : A) (j : ℕ) → Inside t o → o ≡ good x j → j ≤ t.entries
inside_at t (bad n p) x j h e = absurd (let z : ◌≡◌ {A = ℕ} 0 1 = cc in omega arith)
inside_at t (good y k) x j h e = let q : k ≡ j = cc in omega (arith, h)

module _ (t : Table) where
  inside_then : {A B : Type 0} (o : Out A) (g : A → ℕ → Out B) → Inside t o → ((x : A) (j : ℕ) → j ≤ t.entries → Inside t (g x j)) → Inside t (then o g)
  inside_then (bad n p) g h k = tt
  inside_then (good x j) g h k = k x j h

  -- what is made of what was read
  inside_made : {A B : Type 0} (o : Out A) (f : A → B) → Inside t o → Inside t (then o (λ x j. good (f x) j))
  inside_made o f h = inside_then o (λ x j. good (f x) j) h (λ x j k. k)

  inside_cond : {A : Type 0} (b : Bool) (o p : Out A) → Inside t o → Inside t p → Inside t (cond b o p)
  inside_cond true o p h k = h
  inside_cond false o p h k = k

  inside_unless : {A : Type 0} (b : Bool) (n i : ℕ) (o : Out A) → (b ≡ true → Inside t o) → Inside t (unless b n i o)
  inside_unless true n i o h = h refl
  inside_unless false n i o h = tt

  pub inside_series : {A S : Type 0} (read : S → ℕ → Out A) (next : S → A → S) → ((s : S) (i : ℕ) → i ≤ t.entries → Inside t (read s i)) → (m : ℕ) (s : S) (i : ℕ) → i ≤ t.entries → Inside t (series read next m s i)
  inside_series read next r zero s i h = h
  inside_series read next r (suc m) s i h =
      inside_then (read s i) (λ a j. then (series read next m (next s a) j) λ rest k. good (a ∷ rest) k) (r s i h)
      (λ a j k. inside_made (series read next m (next s a) j) (λ rest. a ∷ rest) (inside_series read next r m (next s a) j k))

  pub inside_many : {A : Type 0} (read : ℕ → Out A) → ((i : ℕ) → i ≤ t.entries → Inside t (read i)) → (m i : ℕ) → i ≤ t.entries → Inside t (many read m i)
  inside_many read r m i h = inside_series (λ (_ : Unit {0}). read) (λ _ _. tt) (λ _ j k. r j k) m tt i h

  pub inside_head : (p : Place) (a : Around) (i : ℕ) → Inside t (head t p a i)
  inside_head p a i =
      let last = good (entry_at t i) (i + 1) in
      let third = unless (in_range t a (entry_at t i)) 5 i last in
      let second = unless (within_bounds a i (entry_at t i)) 6 i third in
      let first = unless (permitted p (get_or t.kinds i 0)) 3 i second in
      inside_unless (ltb i t.entries) 4 i first λ lt.
      inside_unless (permitted p (get_or t.kinds i 0)) 3 i second λ _.
      inside_unless (within_bounds a i (entry_at t i)) 6 i third λ _.
      inside_unless (in_range t a (entry_at t i)) 5 i last λ _.
      omega (arith, ltb-true i t.entries lt)

  -- what follows an entry
  after_head : {B : Type 0} (p : Place) (a : Around) (i : ℕ) (g : Entry → ℕ → Out B) → ((e : Entry) (j : ℕ) → j ≤ t.entries → Inside t (g e j)) → Inside t (then (head t p a i) g)
  after_head p a i g h = inside_then (head t p a i) g (inside_head p a i) h

  inside_term : (a : Around) (i : ℕ) → Inside t (term t a i)
  inside_term a i = inside_made (head t place.Term a i) term_of (inside_head place.Term a i)

  inside_terms : (a : Around) (p i : ℕ) → i ≤ t.entries → Inside t (terms t a p i)
  inside_terms a p i h = inside_many (term t a) (λ j k. inside_term a j) _ i h

  inside_formula_by : (read : Around → ℕ → Out Formula) → ((a : Around) (i : ℕ) → Inside t (read a i)) → (a : Around) (e : Entry) (j : ℕ) → j ≤ t.entries → Inside t (formula_by t read a e j)
  inside_formula_by read r a e j h =
      let k = e.kind in
      let o = e.operand in
      inside_cond (eqb k 2) _ _ (inside_made (terms t a o j) (atom o) (inside_terms a o j h))
      (inside_cond (eqb k 3) _ _ (inside_then (term t a j) (λ x m. then (term t a m) λ y n. good (equal x y) n) (inside_term a j) (λ x m _. inside_made (term t a m) (equal x) (inside_term a m)))
      (inside_cond (eqb k 4) _ _ (inside_made (read a j) negation (r a j))
      (inside_cond (eqb k 5 || eqb k 6) _ _ (inside_made (many (read a) o j) (λ fs. junction (junction_of k) (formulas_of fs)) (inside_many (read a) (λ m _. r a m) o j h))
      (inside_cond (eqb k 7) _ _ (inside_then (read a j) (λ f m. then (read a m) λ g n. good (implication f g) n) (r a j) (λ f m _. inside_made (read a m) (implication f) (r a m)))
      (inside_cond (eqb k 8 || eqb k 9) _ (good (constant (eqb k 0)) j) (inside_made (read (deeper a) j) (quantifier (junction_of k) o) (r (deeper a) j))
      h)))))

  pub inside_formula : (room : ℕ) (a : Around) (i : ℕ) → Inside t (formula t room a i)
  unfolding formula
  inside_formula zero a i = after_head {B = Formula} place.Formula a i (λ e j. bad 6 i) (λ e j h. tt)
  inside_formula (suc room) a i = after_head place.Formula a i (formula_by t (formula t room) a) (λ e j h. inside_formula_by (formula t room) (inside_formula room) a e j h)

  inside_changed : (a : Around) (adds : Bool) (e : Entry) (j : ℕ) → j ≤ t.entries → Inside t (changed_atom t a adds e j)
  inside_changed a adds e j h = inside_made (terms t a e.operand j) (λ ts. record { adds = adds; predicate = e.operand; terms = ts }) (inside_terms a e.operand j h)

  inside_change : (a : Around) (e : Entry) (j : ℕ) → j ≤ t.entries → Inside t (change_by t a e j)
  inside_change a e j h =
      inside_cond (eqb e.kind 4) _ (changed_atom t a true e j)
      (after_head place.Negated a j (λ f k. changed_atom t a false f k) (λ f k l. inside_changed a false f k l))
      (inside_changed a true e j h)

  pub inside_consequent : (room : ℕ) (a : Around) (i : ℕ) → Inside t (consequent t room a i)
  unfolding consequent
  inside_consequent zero a i = after_head {B = Consequent} place.Consequent a i (λ e j. bad 6 i) (λ e j h. tt)
  inside_consequent (suc room) a i =
      after_head place.Consequent a i (λ e j. consequent_by t (consequent t room a) a e j)
      (λ e j h.
      inside_cond (eqb e.kind 5) _ _
      (inside_made (many (consequent t room a) e.operand j) (λ cs. outcomes (consequents_of cs)) (inside_many (consequent t room a) (λ m _. inside_consequent room a m) e.operand j h))
      (inside_made (change_by t a e j) outcome (inside_change a e j h)))

  pub inside_effect : (room : ℕ) (a : Around) (i : ℕ) → Inside t (effect t room a i)
  unfolding effect
  inside_effect zero a i = after_head {B = Effect} place.Effect a i (λ e j. bad 6 i) (λ e j h. tt)
  inside_effect (suc room) a i =
      after_head place.Effect a i (effect_by t (effect t room) a)
      (λ e j h.
      inside_cond (eqb e.kind 5) _ _
      (inside_made (many (effect t room a) e.operand j) (λ es. conjunction (effects_of es)) (inside_many (effect t room a) (λ m _. inside_effect room a m) e.operand j h))
      (inside_cond (eqb e.kind 8) _ _
      (inside_made (effect t room (deeper a) j) (for_each e.operand) (inside_effect room (deeper a) j))
      (inside_cond (eqb e.kind 12) _ _
      (inside_then (formula t most_entries a j) (λ f k. then (consequent t most_entries a k) λ c l. good (when f c) l) (inside_formula most_entries a j)
      (λ f k _. inside_made (consequent t most_entries a k) (when f) (inside_consequent most_entries a k)))
      (inside_made (change_by t a e j) change (inside_change a e j h)))))

  pub inside_type : (i : ℕ) → Inside t (type_set t i)
  inside_type i = inside_made (head t place.TypeSet (outermost 0 i) i) (λ e. e.operand) (inside_head place.TypeSet (outermost 0 i) i)

  pub inside_predicate : (s i : ℕ) → Inside t (predicate t s i)
  inside_predicate s i =
      after_head place.Predicate (outermost 0 i) i (λ e j. unless (leb (with_atoms t s e.operand) 65536) 7 i (good e.operand j))
      (λ e j h. inside_unless (leb (with_atoms t s e.operand) 65536) 7 i (good e.operand j) (λ _. h))

  pub inside_parameter : (i : ℕ) → Inside t (parameter t i)
  inside_parameter i = inside_made (head t place.Parameter (outermost 0 i) i) (λ e. e.operand) (inside_head place.Parameter (outermost 0 i) i)

  pub inside_fact : (i : ℕ) → Inside t (fact t i)
  inside_fact i =
      after_head place.Fact (outermost 0 i) i (λ e j. then (terms t (outermost 0 i) e.operand j) λ ts k. good (record { predicate = e.operand; arguments = map (object_of []) ts }) k)
      (λ e j h. inside_made (terms t (outermost 0 i) e.operand j) (λ ts. record { predicate = e.operand; arguments = map (object_of []) ts }) (inside_terms (outermost 0 i) e.operand j h))

  pub inside_operator : (i : ℕ) → Inside t (operator t i)
  inside_operator i =
      after_head place.Operator (outermost 0 i) i
      (λ e j. then (many (parameter t) e.operand j) λ tys k. then (formula t most_entries (outermost e.operand k) k) λ f l. then (effect t most_entries (outermost e.operand l) l) λ g m. good (record { parameters = tys; precondition = f; effect = g }) m)
      (λ e j h.
      inside_then (many (parameter t) e.operand j) _ (inside_many (parameter t) (λ m _. inside_parameter m) e.operand j h) λ tys k _.
      inside_then (formula t most_entries (outermost e.operand k) k) _ (inside_formula most_entries (outermost e.operand k) k) λ f l _.
      inside_made (effect t most_entries (outermost e.operand l) l) (λ g. record { parameters = tys; precondition = f; effect = g }) (inside_effect most_entries (outermost e.operand l) l))
