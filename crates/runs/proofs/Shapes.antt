-- What stands at a place of a table, by the kind that the table has there.
use Rattle.std.proofs.Common.{◌≡◌, ℕ, zero, suc, ◌+◌, ◌-◌, ◌<◌, ◌≤◌, true, false, ◌&&◌, ltb, ◌⊎◌, List, [], ◌∷◌, length, get_or, sym, refl, ap, ◌∙◌, subst, inl, inr, ⊎_elim, arith}
use Rattle.std.proofs.lemmas.Bool.{ltb-true, leb-true, eqb-true, and_parts, or_cases}
use Rattle.table.specs.declared.places.Place.TheVariants as place
use Rattle.table.specs.Reading.{entry, bad, good, then, many}
use Rattle.model.specs.Trees.{Term, object, variable, all, any, Formula, constant, atom, equal, negation, junction, implication, quantifier}
use Rattle.adl.specs.Tables.{Table, Around, entry_at, arity, deeper, within_bounds, in_range}
use Rattle.adl.specs.Reads.{term_of, term, terms, formulas_of, formula_by, formula}
use Rattle.runs.specs.Standing.{TermAt, TermsAt, FormulaAt, FormulasAt}
use Rattle.adl_theorems.proofs.Entries.{Headed, on_from, term_read, none_read, first_read, goes_on}
use Rattle.table.proofs.Reading.{bad_is_not_good, first_step}

-- m terms take m places, one each
terms_read : (t : Table) (a : Around) (m i : ℕ) (ts : List Term) (j : ℕ) → many (term t a) m i ≡ good ts j
    → (length ts ≡ m) × (j ≡ i + m) × ((k : ℕ) → k < m → (n : ℕ) → n ≡ i + k → term t a n ≡ good (get_or ts k (object 0)) (n + 1))
terms_read t a zero i ts j e =
    let w = none_read (term t a) 0 i ts j refl e in
    (ap (λ xs. length xs) w.0, omega (arith, w.1), λ k h. let z : ⊥ = omega arith in absurd z)
terms_read t a (suc m) i ts j e =
    let w = first_read (term t a) m i ts j e in
    let n = (term_read t a i w.0 w.1 w.3).2 in
    let u = terms_read t a m w.1 w.2 j w.4 in
    (ap (λ xs. length xs) w.5 ∙ ap suc u.0, omega (arith, u.1, n), each w.0 w.1 w.2 n w.3 w.5 u.2)
  where
    each : (x : Term) (k : ℕ) (ys : List Term) → k ≡ i + 1 → term t a i ≡ good x k → ts ≡ x ∷ ys
        → ((o : ℕ) → o < m → (n : ℕ) → n ≡ k + o → term t a n ≡ good (get_or ys o (object 0)) (n + 1))
        → (o : ℕ) → o < suc m → (n : ℕ) → n ≡ i + o → term t a n ≡ good (get_or ts o (object 0)) (n + 1)
    each x k ys p r q u zero h n e =
        let y : n ≡ i = omega arith in
        let z : k ≡ n + 1 = omega arith in
        ap (λ b. term t a b) y ∙ r ∙ ap (λ b. good x b) z ∙ ap (λ xs. good (get_or xs 0 (object 0)) (n + 1)) (sym q)
    each x k ys p r q u (suc o) h n e =
        u o (omega arith) n (omega arith) ∙ ap (λ xs. good (get_or xs (suc o) (object 0)) (n + 1)) (sym q)

-- a term is an object or a variable
module _ {t : Table} {v i : ℕ} {x : Term} (s : TermAt t v i x) where
  term_facts : Headed t place.Term s.around i × (x ≡ term_of (entry_at t i))
  term_facts = let w = term_read t s.around i x (i + 1) s.reads in (w.0, w.1)

  pub term_begins : i < t.entries
  term_begins = term_facts.0.inside

  pub term_kind : (get_or t.kinds i 0 ≡ 10) ⊎ (get_or t.kinds i 0 ≡ 11)
  term_kind = ⊎_elim (λ e. inl (eqb-true _ _ e)) (λ e. inr (eqb-true _ _ e)) (or_cases _ _ term_facts.0.permits)

  pub at_variable : get_or t.kinds i 0 ≡ 11 → (x ≡ variable (get_or t.operands i 0)) × (get_or t.operands i 0 < v)
  at_variable e = (
    term_facts.1 ∙ ap (λ k. term_of (entry k (get_or t.operands i 0))) e,
    omega (arith, ltb-true _ _ (subst (λ k. in_range t s.around (entry k (get_or t.operands i 0)) ≡ true) e term_facts.0.ranged), s.known),
  )

-- the terms of an atom are as many as its predicate's arity, and stand one after the other
module _ {t : Table} {v p i : ℕ} {ts : List Term} {j : ℕ} (s : TermsAt t v p i ts j) where
  pub as_many_terms : length ts ≡ arity t p
  as_many_terms = (terms_read t s.around (arity t p) i ts j s.reads).0

  pub after_terms : j ≡ i + arity t p
  after_terms = (terms_read t s.around (arity t p) i ts j s.reads).1

  pub each_term : (k : ℕ) → k < arity t p → TermAt t v (i + k) (get_or ts k (object 0))
  each_term k h = record { around = s.around; reads = (terms_read t s.around (arity t p) i ts j s.reads).2 k h (i + k) refl; known = s.known }

-- Formulas.

-- a formula goes on from its first entry
opened : (t : Table) (room : ℕ) (a : Around) (i : ℕ) (f : Formula) (j : ℕ) → formula t room a i ≡ good f j
    → Headed t place.Formula a i × ((r : ℕ) × (formula_by t (formula t r) a (entry_at t i) (i + 1) ≡ good f j))
unfolding formula
opened t zero a i f j e = let w = on_from t place.Formula a i (λ e j. bad 6 i) f j e in bad_is_not_good 6 i f j w.1
opened t (suc r) a i f j e = let w = on_from t place.Formula a i (λ e k. formula_by t (formula t r) a e k) f j e in (w.0, (r, w.1))

module _ {t : Table} {v i : ℕ} {f : Formula} {j : ℕ} (s : FormulaAt t v i f j) where
  open_facts : Headed t place.Formula s.around i × ((r : ℕ) × (formula_by t (formula t r) s.around (entry_at t i) (i + 1) ≡ good f j))
  open_facts = opened t s.room s.around i f j s.reads

  -- the formula begins inside the table, with the kind of a formula, and has at least one entry
  pub begins : i < t.entries
  begins = open_facts.0.inside

  pub formula_kind : get_or t.kinds i 0 ≤ 9
  formula_kind = leb-true _ _ open_facts.0.permits

  pub ends_after : i < j
  ends_after = goes_on t s.room s.around i f j s.reads

  -- after the first entry, whose kind is k
  rest : (k : ℕ) → k ≡ get_or t.kinds i 0 → (r : ℕ) × (formula_by t (formula t r) s.around (entry k (get_or t.operands i 0)) (i + 1) ≡ good f j)
  rest k e =
      let w = open_facts.1 in
      (w.0, ap (λ n. formula_by t (formula t w.0) s.around (entry n (get_or t.operands i 0)) (i + 1)) e ∙ w.1)

  -- one more quantifier is within bounds, and its type is known
  bounds : (k : ℕ) → k ≡ get_or t.kinds i 0 → (within_bounds s.around i (entry k (get_or t.operands i 0)) ≡ true) × (in_range t s.around (entry k (get_or t.operands i 0)) ≡ true)
  bounds k e = (
    ap (λ n. within_bounds s.around i (entry n (get_or t.operands i 0))) e ∙ open_facts.0.bounded,
    ap (λ n. in_range t s.around (entry n (get_or t.operands i 0))) e ∙ open_facts.0.ranged,
  )

  -- a part of a formula, with the same variables
  part : (r l : ℕ) (g : Formula) (k m : ℕ) → formula t r s.around l ≡ good g k → k ≡ m → FormulaAt t v l g m
  part r l g k m e q = record { room = r; around = s.around; reads = e ∙ ap (good g) q; known = s.known; few = s.few }

  -- what the formula is, by the kind of its first entry, and where its parts stand
  pub at_true : ◌≡◌ {A = ℕ} 0 (get_or t.kinds i 0) → (f ≡ constant true) × (j ≡ i + 1)
  at_true e =
      let q : good (constant true) (i + 1) ≡ good f j = (rest 0 e).1 in
      let p : constant true ≡ f = cc in
      let r : i + 1 ≡ j = cc in
      (sym p, sym r)

  pub at_false : ◌≡◌ {A = ℕ} 1 (get_or t.kinds i 0) → (f ≡ constant false) × (j ≡ i + 1)
  at_false e =
      let q : good (constant false) (i + 1) ≡ good f j = (rest 1 e).1 in
      let p : constant false ≡ f = cc in
      let r : i + 1 ≡ j = cc in
      (sym p, sym r)

  pub at_atom : ◌≡◌ {A = ℕ} 2 (get_or t.kinds i 0) → (ts : List Term) × (f ≡ atom (get_or t.operands i 0) ts) × TermsAt t v (get_or t.operands i 0) (i + 1) ts j
  at_atom e =
      let o = get_or t.operands i 0 in
      let w = first_step (terms t s.around o (i + 1)) (λ ts k. good (atom o ts) k) f j (rest 2 e).1 in
      let q : good (atom o w.0) w.1 ≡ good f j = w.3 in
      let p : atom o w.0 ≡ f = cc in
      let r : w.1 ≡ j = cc in
      (w.0, sym p, record { around = s.around; reads = w.2 ∙ ap (good w.0) r; known = s.known; predicate = ltb-true _ _ (bounds 2 e).1 })

  pub at_equal : ◌≡◌ {A = ℕ} 3 (get_or t.kinds i 0) → (x : Term) × (y : Term) × (f ≡ equal x y) × TermAt t v (i + 1) x × TermAt t v (i + 2) y × (j ≡ i + 3)
  at_equal e =
      let a = s.around in
      let w = first_step (term t a (i + 1)) (λ x k. then (term t a k) λ y l. good (equal x y) l) f j (rest 3 e).1 in
      let u = first_step (term t a w.1) (λ y l. good (equal w.0 y) l) f j w.3 in
      let q : good (equal w.0 u.0) u.1 ≡ good f j = u.3 in
      let p : equal w.0 u.0 ≡ f = cc in
      let r : u.1 ≡ j = cc in
      let m = (term_read t a (i + 1) w.0 w.1 w.2).2 in
      let n = (term_read t a w.1 u.0 u.1 u.2).2 in
      let m' : w.1 ≡ i + 2 = omega (arith, m) in
      let n' : u.1 ≡ i + 2 + 1 = omega (arith, n, m) in (
        w.0,
        u.0,
        sym p,
        record { around = a; reads = w.2 ∙ ap (good w.0) m; known = s.known },
        record { around = a; reads = ap (term t a) (sym m') ∙ u.2 ∙ ap (good u.0) n'; known = s.known },
        omega (arith, m, n, r),
      )

  pub at_not : ◌≡◌ {A = ℕ} 4 (get_or t.kinds i 0) → (g : Formula) × (f ≡ negation g) × FormulaAt t v (i + 1) g j
  at_not e =
      let h = rest 4 e in
      let w = first_step (formula t h.0 s.around (i + 1)) (λ g k. good (negation g) k) f j h.1 in
      let q : good (negation w.0) w.1 ≡ good f j = w.3 in
      let p : negation w.0 ≡ f = cc in
      let r : w.1 ≡ j = cc in
      (w.0, sym p, part h.0 (i + 1) w.0 w.1 j w.2 r)

  pub at_and : ◌≡◌ {A = ℕ} 5 (get_or t.kinds i 0) → (fs : List Formula) × (f ≡ junction all (formulas_of fs)) × FormulasAt t v (i + 1) (get_or t.operands i 0) fs j
  at_and e =
      let h = rest 5 e in
      let w = first_step (many (formula t h.0 s.around) (get_or t.operands i 0) (i + 1)) (λ fs k. good (junction all (formulas_of fs)) k) f j h.1 in
      let q : good (junction all (formulas_of w.0)) w.1 ≡ good f j = w.3 in
      let p : junction all (formulas_of w.0) ≡ f = cc in
      let r : w.1 ≡ j = cc in
      (w.0, sym p, record { room = h.0; around = s.around; reads = w.2 ∙ ap (good w.0) r; known = s.known; few = s.few })

  pub at_or : ◌≡◌ {A = ℕ} 6 (get_or t.kinds i 0) → (fs : List Formula) × (f ≡ junction any (formulas_of fs)) × FormulasAt t v (i + 1) (get_or t.operands i 0) fs j
  at_or e =
      let h = rest 6 e in
      let w = first_step (many (formula t h.0 s.around) (get_or t.operands i 0) (i + 1)) (λ fs k. good (junction any (formulas_of fs)) k) f j h.1 in
      let q : good (junction any (formulas_of w.0)) w.1 ≡ good f j = w.3 in
      let p : junction any (formulas_of w.0) ≡ f = cc in
      let r : w.1 ≡ j = cc in
      (w.0, sym p, record { room = h.0; around = s.around; reads = w.2 ∙ ap (good w.0) r; known = s.known; few = s.few })

  pub at_imply : ◌≡◌ {A = ℕ} 7 (get_or t.kinds i 0) → (g : Formula) × (h : Formula) × (k : ℕ) × (f ≡ implication g h) × FormulaAt t v (i + 1) g k × FormulaAt t v k h j
  at_imply e =
      let h = rest 7 e in
      let read = formula t h.0 s.around in
      let w = first_step (read (i + 1)) (λ f k. then (read k) λ g l. good (implication f g) l) f j h.1 in
      let u = first_step (read w.1) (λ g l. good (implication w.0 g) l) f j w.3 in
      let q : good (implication w.0 u.0) u.1 ≡ good f j = u.3 in
      let p : implication w.0 u.0 ≡ f = cc in
      let r : u.1 ≡ j = cc in
      (w.0, u.0, w.1, sym p, part h.0 (i + 1) w.0 w.1 w.1 w.2 refl, part h.0 w.1 u.0 u.1 j u.2 r)

  -- a part of a formula, with one more variable
  inner : (r l : ℕ) (g : Formula) (k m : ℕ) → formula t r (deeper s.around) l ≡ good g k → k ≡ m → FormulaAt t (v + 1) l g m
  inner r l g k m e q = record { room = r; around = deeper s.around; reads = e ∙ ap (good g) q; known = ap (λ n. n + 1) s.known; few = omega (arith, s.few) }

  -- a variable more still has its place
  shallow : (ltb (i - s.around.start) 256 && ltb s.around.quantifiers 3) ≡ true → v < 7
  shallow e =
      let w = and_parts (ltb (i - s.around.start) 256) (ltb s.around.quantifiers 3) e in
      omega (arith, ltb-true s.around.quantifiers 3 w.1, s.few)

  pub at_forall : ◌≡◌ {A = ℕ} 8 (get_or t.kinds i 0) → (g : Formula) × (f ≡ quantifier all (get_or t.operands i 0) g) × FormulaAt t (v + 1) (i + 1) g j × (get_or t.operands i 0 < t.types) × (v < 7)
  at_forall e =
      let h = rest 8 e in
      let o = get_or t.operands i 0 in
      let b = bounds 8 e in
      let w = first_step (formula t h.0 (deeper s.around) (i + 1)) (λ g k. good (quantifier all o g) k) f j h.1 in
      let q : good (quantifier all o w.0) w.1 ≡ good f j = w.3 in
      let p : quantifier all o w.0 ≡ f = cc in
      let r : w.1 ≡ j = cc in
      (w.0, sym p, inner h.0 (i + 1) w.0 w.1 j w.2 r, ltb-true _ _ b.1, shallow b.0)

  pub at_exists : ◌≡◌ {A = ℕ} 9 (get_or t.kinds i 0) → (g : Formula) × (f ≡ quantifier any (get_or t.operands i 0) g) × FormulaAt t (v + 1) (i + 1) g j × (get_or t.operands i 0 < t.types) × (v < 7)
  at_exists e =
      let h = rest 9 e in
      let o = get_or t.operands i 0 in
      let b = bounds 9 e in
      let w = first_step (formula t h.0 (deeper s.around) (i + 1)) (λ g k. good (quantifier any o g) k) f j h.1 in
      let q : good (quantifier any o w.0) w.1 ≡ good f j = w.3 in
      let p : quantifier any o w.0 ≡ f = cc in
      let r : w.1 ≡ j = cc in
      (w.0, sym p, inner h.0 (i + 1) w.0 w.1 j w.2 r, ltb-true _ _ b.1, shallow b.0)

-- Formulas one after the other.
module _ {t : Table} {v i m : ℕ} {fs : List Formula} {j : ℕ} (s : FormulasAt t v i m fs j) where
  -- the first of them, and the others after it
  pub first_formula : (n : ℕ) → m ≡ n + 1 → (f : Formula) × (k : ℕ) × (gs : List Formula) × (fs ≡ f ∷ gs) × FormulaAt t v i f k × FormulasAt t v k n gs j
  first_formula n h =
      let e : suc n ≡ m = omega arith in
      let read = formula t s.room s.around in
      let w = first_read read n i fs j (ap (λ x. many read x i) e ∙ s.reads) in (
        w.0,
        w.1,
        w.2,
        w.5,
        record { room = s.room; around = s.around; reads = w.3; known = s.known; few = s.few },
        record { room = s.room; around = s.around; reads = w.4; known = s.known; few = s.few },
      )

  -- none is left
  pub no_formula : m ≡ 0 → (fs ≡ []) × (j ≡ i)
  no_formula h = none_read (formula t s.room s.around) m i fs j h s.reads
