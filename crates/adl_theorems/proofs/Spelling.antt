-- What is read of a table is written there.
use Rattle.std.proofs.Common.{◌≡◌, ℕ, zero, suc, ◌+◌, ◌-◌, ◌<◌, ◌≤◌, Bool, true, false, cond, not, ◌||◌, eqb, ltb, leb, List, [], ◌∷◌, ◌++◌, map, length, get_or, sym, refl, ap, ◌∙◌, subst, ⊎_elim, arith}
use Rattle.std.proofs.lemmas.Bool.{ltb-true, leb-true, eqb-true, eqb-false, and_parts, or_cases, or_parts, or_left}
use Rattle.table.specs.declared.places.Place.{Place}
use Rattle.table.specs.declared.places.Place.TheVariants as place
use Rattle.table.specs.Permits.{permitted}
use Rattle.table.specs.Reading.{Entry, entry, Out, bad, good, then, unless, many}
use Rattle.model.specs.Forming.{Each}
use Rattle.model.specs.Lists.{gather}
use Rattle.model.specs.Meaning.{object_of}
use Rattle.model.specs.Trees as tree
use Rattle.model.specs.Trees.{Term, Formula, constant, atom, equal, negation, junction, implication, quantifier, Change, Consequent, outcome, outcomes, Effect, change, conjunction, for_each, when}
use Rattle.model.proofs.Values.{clash}
use Rattle.adl.specs.Tables.{Table, Around, entry_at, arity, most_entries, outermost, deeper, in_range, is_quantifier, head}
use Rattle.adl.specs.Reads.{term_of, term, terms, junction_of, formulas_of, consequents_of, effects_of, formula_by, formula, changed_atom, change_by, consequent_by, consequent, effect_by, effect, type_set, most_atoms, with_atoms, predicate, fact, parameter, operator, precondition_place, effect_place}
use Rattle.adl_theorems.specs.Writes.{write_term, count_formulas, count_consequents, count_effects, junction_code, quantifier_code, write_formula, write_formulas, write_change, write_consequent, write_consequents, write_effect, write_effects, write_fact, write_operator, nesting, nesting_all, effect_nesting, effects_nesting, SmallOperator}
use Rattle.table.proofs.Reading.{read_on, by_test, bad_is_not_good}
use Rattle.adl_theorems.proofs.Inverting.{many_each}
use Rattle.adl_theorems.proofs.Entries.{Headed, on_from, term_read}
use Rattle.adl_theorems.proofs.Standing.{operator_read}
use Rattle.adl.proofs.Heads.{operand_read}
use Rattle.adl.proofs.Declared.{predicate_read}
use Rattle.adl_theorems.proofs.Inside.{inside_at, inside_fact, inside_formula}
use Rattle.adl_theorems.proofs.Stretches.{Spells, spells_none, spells_first, spells_one, spells_both, spells_many, spells_singles, spells_within}

-- what is made of a single step, which ends where the whole does
made_of : {A B : Type 0} (P : B → Type 0) (o : Out A) (f : A → B) (b : B) (l : ℕ) → then o (λ a k. good (f a) k) ≡ good b l → ((a : A) → o ≡ good a l → P (f a)) → P b
made_of P o f b l e h = read_on o (λ a k. good (f a) k) b l e λ a j r q.
    let x : f a ≡ b = cc in
    let y : j ≡ l = cc in
    subst P x (h a (r ∙ ap (good a) y))

-- the kind and the operand at a place
abbrev kind_at : Table → ℕ → ℕ
kind_at t i = get_or t.kinds i 0

abbrev operand_at : Table → ℕ → ℕ
operand_at t i = get_or t.operands i 0

-- an entry with a kind and an operand that are known
entry_is : (t : Table) (i k o : ℕ) → kind_at t i ≡ k → operand_at t i ≡ o → entry_at t i ≡ entry k o
entry_is t i k o p q = ap (λ x. entry x (operand_at t i)) p ∙ ap (entry k) q

-- where the entries of a formula or an effect have to end
abbrev pub limit : Around → ℕ
limit a = a.start + most_entries

module _ {t : Table} {p : Place} {a : Around} {i : ℕ} (h : Headed t p a i) where
  -- the entry comes before that limit
  low : i < limit a
  low = omega (arith, ltb-true (i - a.start) most_entries (and_parts (ltb (i - a.start) most_entries) _ h.bounded).0)

  -- the operand is in the range of a kind that is known
  ranged_at : (k : ℕ) → kind_at t i ≡ k → in_range t a (entry k (operand_at t i)) ≡ true
  ranged_at k e = subst (λ x. in_range t a (entry x (operand_at t i)) ≡ true) e h.ranged

  -- a quantifier does not stand inside too many others
  shallow : is_quantifier (kind_at t i) ≡ true → a.quantifiers < 3
  shallow e =
      let w = (and_parts (ltb (i - a.start) most_entries) (not (is_quantifier (kind_at t i)) || ltb a.quantifiers 3) h.bounded).1 in
      ltb-true a.quantifiers 3 (subst (λ b. (not b || ltb a.quantifiers 3) ≡ true) e w)

  -- the entry, and others after it
  first : (k o : ℕ) (es : List Entry) (l : ℕ) → kind_at t i ≡ k → operand_at t i ≡ o → Spells t (limit a) es (i + 1) l → Spells t (limit a) (entry k o ∷ es) i l
  first k o es l p q s = spells_first t (limit a) i (entry k o) es l (entry_is t i k o p q) low s

  -- the same where a kind of entry has the operand 0
  first_plain : (k : ℕ) (es : List Entry) (l : ℕ) → kind_at t i ≡ k → (in_range t a (entry k (operand_at t i)) ≡ true → eqb (operand_at t i) 0 ≡ true) → Spells t (limit a) es (i + 1) l → Spells t (limit a) (entry k 0 ∷ es) i l
  first_plain k es l p zero_operand s = first k 0 es l p (eqb-true (operand_at t i) 0 (zero_operand (ranged_at k p))) s

-- Terms.

-- a permitted entry is the term that it is read as, written out
same_term : (k o : ℕ) → permitted place.Term k ≡ true → entry k o ≡ write_term (term_of (entry k o))
same_term k o p = ⊎_elim
    (λ e. subst (λ x. entry x o ≡ write_term (term_of (entry x o))) (sym (eqb-true k 10 e)) refl)
    (λ e. subst (λ x. entry x o ≡ write_term (term_of (entry x o))) (sym (eqb-true k 11 e)) refl)
    (or_cases (eqb k 10) (eqb k 11) p)

module _ (t : Table) where
  -- a term is written where it is read
  term_spelled : (a : Around) (i : ℕ) (x : Term) (j : ℕ) → term t a i ≡ good x j → Spells t (limit a) (write_term x ∷ []) i j
  term_spelled a i x j e =
      let w = term_read t a i x j e in
      spells_one t (limit a) i (write_term x) j
      (same_term (kind_at t i) (operand_at t i) w.0.permits ∙ ap (λ y. write_term y) (sym w.1))
      (low w.0) w.2

  -- and so are the terms of an atom
  terms_spelled : (a : Around) (p i : ℕ) (ts : List Term) (j : ℕ) → terms t a p i ≡ good ts j → Spells t (limit a) (map write_term ts) i j
  terms_spelled a p i ts j e = spells_singles t (limit a) write_term (λ (_ : Unit {0}). term t a) (λ _ _. tt) (λ _. term_spelled a) (arity t p) tt i ts j e

-- Formulas.

-- a list of formulas is written part after part
formulas_written : (fs : List Formula) → (gather write_formula fs ≡ write_formulas (formulas_of fs)) × (length fs ≡ count_formulas (formulas_of fs))
formulas_written [] = (refl, refl)
formulas_written (f ∷ fs) = let w = formulas_written fs in (ap (λ x. write_formula f ++ x) w.0, ap suc w.1)

-- a formula has no more quantifiers inside one another than there is room for inside q others
abbrev pub Shallow : ℕ → ℕ → Type 0
Shallow q n = q ≤ 3 → n + q ≤ 3

-- a list of formulas that each leave room leaves room
formulas_shallow : (q : ℕ) (fs : List Formula) → Each (λ f. Shallow q (nesting f)) fs → Shallow q (nesting_all (formulas_of fs))
formulas_shallow q [] h few = omega arith
formulas_shallow q (f ∷ fs) h few =
    let x = h.0 few in
    let y = formulas_shallow q fs h.1 few in
    omega arith

-- AND or OR by its code, and FORALL or EXISTS
junction_coded : (k : ℕ) → (eqb k 5 || eqb k 6) ≡ true → k ≡ junction_code (junction_of k)
junction_coded k e = ⊎_elim
    (λ h. subst (λ x. x ≡ junction_code (junction_of x)) (sym (eqb-true k 5 h)) refl)
    (λ h. subst (λ x. x ≡ junction_code (junction_of x)) (sym (eqb-true k 6 h)) refl)
    (or_cases (eqb k 5) (eqb k 6) e)

quantifier_coded : (k : ℕ) → (eqb k 8 || eqb k 9) ≡ true → k ≡ quantifier_code (junction_of k)
quantifier_coded k e = ⊎_elim
    (λ h. subst (λ x. x ≡ quantifier_code (junction_of x)) (sym (eqb-true k 8 h)) refl)
    (λ h. subst (λ x. x ≡ quantifier_code (junction_of x)) (sym (eqb-true k 9 h)) refl)
    (or_cases (eqb k 8) (eqb k 9) e)

-- TRUE or FALSE by its code
constant_coded : (k : ℕ) → k ≤ 1 → k ≡ cond (eqb k 0) 0 1
constant_coded zero h = refl
constant_coded (suc k) h = let e : k ≡ 0 = omega arith in subst (λ x. suc x ≡ cond (eqb (suc x) 0) 0 1) (sym e) refl

-- a formula that is written between two places, and is small enough
abbrev pub FormulaSpelled : Table → Around → Formula → ℕ → ℕ → Type 0
FormulaSpelled t a f i j = Spells t (limit a) (write_formula f) i j × Shallow a.quantifiers (nesting f)

module _ (t : Table) (read : Around → ℕ → Out Formula) (reads : (a : Around) (i : ℕ) (f : Formula) (j : ℕ) → read a i ≡ good f j → FormulaSpelled t a f i j)
    (a : Around) (i : ℕ) (h : Headed t place.Formula a i) (f : Formula) (l : ℕ) where
  abbrev Spelled : Formula → Type 0
  Spelled g = FormulaSpelled t a g i l

  -- an equation, a negation, AND and OR, an implication, a quantifier, TRUE and FALSE
  by_equal : kind_at t i ≡ 3 → then (term t a (i + 1)) (λ x k. then (term t a k) λ y n. good (equal x y) n) ≡ good f l → Spelled f
  by_equal is q = read_on (term t a (i + 1)) (λ x k. then (term t a k) λ y n. good (equal x y) n) f l q λ x m r u.
      made_of Spelled (term t a m) (equal x) f l u λ y s. (
        first_plain h 3 (write_term x ∷ (write_term y ∷ [])) l is (λ z. z)
            (spells_both t (limit a) (write_term x ∷ []) (write_term y ∷ []) (i + 1) m l (term_spelled t a (i + 1) x m r) (term_spelled t a m y l s)),
        λ few. omega arith,
      )

  by_negation : kind_at t i ≡ 4 → then (read a (i + 1)) (λ g k. good (negation g) k) ≡ good f l → Spelled f
  by_negation is q = made_of Spelled (read a (i + 1)) negation f l q λ g r.
      let w = reads a (i + 1) g l r in
      (first_plain h 4 (write_formula g) l is (λ z. z) w.0, w.1)

  by_junction : (eqb (kind_at t i) 5 || eqb (kind_at t i) 6) ≡ true → then (many (read a) (operand_at t i) (i + 1)) (λ fs n. good (junction (junction_of (kind_at t i)) (formulas_of fs)) n) ≡ good f l → Spelled f
  by_junction is q =
      let k = kind_at t i in
      let o = operand_at t i in
      made_of Spelled (many (read a) o (i + 1)) (λ fs. junction (junction_of k) (formulas_of fs)) f l q λ fs r.
      let w = formulas_written fs in
      let e = many_each (λ g. Shallow a.quantifiers (nesting g)) (read a) (λ j g m s. (reads a j g m s).1) o (i + 1) fs l r in (
        first h (junction_code (junction_of k)) (count_formulas (formulas_of fs)) (write_formulas (formulas_of fs)) l (junction_coded k is) (sym e.1 ∙ w.1)
            (subst (λ es. Spells t (limit a) es (i + 1) l) w.0 (spells_many t (limit a) write_formula (read a) (λ j g m s. (reads a j g m s).0) o (i + 1) fs l r)),
        formulas_shallow a.quantifiers fs e.0,
      )

  by_implication : kind_at t i ≡ 7 → then (read a (i + 1)) (λ x k. then (read a k) λ y n. good (implication x y) n) ≡ good f l → Spelled f
  by_implication is q = read_on (read a (i + 1)) (λ x k. then (read a k) λ y n. good (implication x y) n) f l q λ x m r u.
      made_of Spelled (read a m) (implication x) f l u λ y s.
      let v = reads a (i + 1) x m r in
      let w = reads a m y l s in (
        first_plain h 7 (write_formula x ++ write_formula y) l is (λ z. z) (spells_both t (limit a) (write_formula x) (write_formula y) (i + 1) m l v.0 w.0),
        λ few. omega (arith, v.1 few, w.1 few),
      )

  by_quantifier : (eqb (kind_at t i) 8 || eqb (kind_at t i) 9) ≡ true → then (read (deeper a) (i + 1)) (λ g n. good (quantifier (junction_of (kind_at t i)) (operand_at t i) g) n) ≡ good f l → Spelled f
  by_quantifier is q =
      let k = kind_at t i in
      let o = operand_at t i in
      made_of Spelled (read (deeper a) (i + 1)) (quantifier (junction_of k) o) f l q λ g r.
      let w = reads (deeper a) (i + 1) g l r in
      let s : a.quantifiers < 3 = shallow h is in
      let v : nesting g + (a.quantifiers + 1) ≤ 3 = w.1 (omega arith) in
      (first h (quantifier_code (junction_of k)) o (write_formula g) l (quantifier_coded k is) refl w.0, λ few. omega arith)

  by_constant : kind_at t i ≤ 1 → good (constant (eqb (kind_at t i) 0)) (i + 1) ≡ good f l → Spelled f
  by_constant is q =
      let k = kind_at t i in
      let x : constant (eqb k 0) ≡ f = cc in
      let y : i + 1 ≡ l = cc in
      subst Spelled x (
        first h (cond (eqb k 0) 0 1) 0 [] l (constant_coded k is) (operand_none k refl is) (subst (Spells t (limit a) [] (i + 1)) y (spells_none t (limit a) (i + 1))),
        λ few. omega arith,
      )
    where
      operand_none : (n : ℕ) → kind_at t i ≡ n → n ≤ 1 → operand_at t i ≡ 0
      operand_none zero e few = eqb-true (operand_at t i) 0 (ranged_at h 0 e)
      operand_none (suc n) e few = let z : kind_at t i ≡ 1 = omega arith in eqb-true (operand_at t i) 0 (ranged_at h 1 z)

  -- what follows the first entry makes a formula that is written there
  formula_by_spelled : formula_by t read a (entry_at t i) (i + 1) ≡ good f l → Spelled f
  formula_by_spelled e =
      let k = kind_at t i in
      let o = operand_at t i in
      by_test (eqb k 2) _ _ _ e
      (λ is q. made_of Spelled (terms t a o (i + 1)) (atom o) f l q λ ts r. (first h 2 o (map write_term ts) l (eqb-true k 2 is) refl (terms_spelled t a o (i + 1) ts l r), λ few. omega arith))
      λ two e. by_test (eqb k 3) _ _ _ e (λ is q. by_equal (eqb-true k 3 is) q)
      λ three e. by_test (eqb k 4) _ _ _ e (λ is q. by_negation (eqb-true k 4 is) q)
      λ four e. by_test (eqb k 5 || eqb k 6) _ _ _ e by_junction
      λ five e. by_test (eqb k 7) _ _ _ e (λ is q. by_implication (eqb-true k 7 is) q)
      λ seven e. by_test (eqb k 8 || eqb k 9) _ _ _ e by_quantifier
      λ eight e.
      let v = or_parts (eqb k 5) (eqb k 6) five in
      let w = or_parts (eqb k 8) (eqb k 9) eight in
      by_constant (small k (leb-true k 9 h.permits) (eqb-false k 2 two) (eqb-false k 3 three) (eqb-false k 4 four) (eqb-false k 5 v.0) (eqb-false k 6 v.1) (eqb-false k 7 seven) (eqb-false k 8 w.0) (eqb-false k 9 w.1)) e
    where
      small : (n : ℕ) → n ≤ 9 → (n ≡ 2 → ⊥) → (n ≡ 3 → ⊥) → (n ≡ 4 → ⊥) → (n ≡ 5 → ⊥) → (n ≡ 6 → ⊥) → (n ≡ 7 → ⊥) → (n ≡ 8 → ⊥) → (n ≡ 9 → ⊥) → n ≤ 1
      small n h a b c d e f g i = omega arith

module _ (t : Table) where
  -- a formula is written where it is read
  pub formula_spelled : (room : ℕ) (a : Around) (i : ℕ) (f : Formula) (j : ℕ) → formula t room a i ≡ good f j → FormulaSpelled t a f i j
  unfolding formula
  formula_spelled zero a i f j e = let w = on_from t place.Formula a i (λ e j. bad 6 i) f j e in bad_is_not_good 6 i f j w.1
  formula_spelled (suc room) a i f j e =
      let w = on_from t place.Formula a i (λ e k. formula_by t (formula t room) a e k) f j e in
      formula_by_spelled t (formula t room) (formula_spelled room) a i w.0 f j w.1

-- Changes.

module _ (t : Table) (p : Place) (a : Around) (i : ℕ) (h : Headed t p a i) (c : Change) (l : ℕ) where
  -- an ATOM, or NOT and an ATOM, is a change that is written there
  change_spelled : (eqb (kind_at t i) 4 ≡ false → kind_at t i ≡ 2) → change_by t a (entry_at t i) (i + 1) ≡ good c l → Spells t (limit a) (write_change c) i l
  change_spelled two e =
      let k = kind_at t i in
      let o = operand_at t i in
      let p = operand_at t (i + 1) in
      let Spelled : Change → Type 0 = λ x. Spells t (limit a) (write_change x) i l in
      by_test (eqb k 4) _ _ _ e
      (λ is q. let u = on_from t place.Negated a (i + 1) (λ f n. changed_atom t a false f n) c l q in
      made_of Spelled (terms t a p (i + 1 + 1)) (λ ts. record { adds = false; predicate = p; terms = ts }) c l u.1 λ ts r.
      first_plain h 4 (entry 2 p ∷ map write_term ts) l (eqb-true k 4 is) (λ z. z)
      (first u.0 2 p (map write_term ts) l (eqb-true _ 2 u.0.permits) refl (terms_spelled t a p (i + 1 + 1) ts l r)))
      λ no q. made_of Spelled (terms t a o (i + 1)) (λ ts. record { adds = true; predicate = o; terms = ts }) c l q λ ts r.
      first h 2 o (map write_term ts) l (two no) refl (terms_spelled t a o (i + 1) ts l r)

-- Consequents.

-- a list of consequents is written part after part
consequents_written : (cs : List Consequent) → (gather write_consequent cs ≡ write_consequents (consequents_of cs)) × (length cs ≡ count_consequents (consequents_of cs))
consequents_written [] = (refl, refl)
consequents_written (c ∷ cs) = let w = consequents_written cs in (ap (λ x. write_consequent c ++ x) w.0, ap suc w.1)

module _ (t : Table) where
  -- a consequent is written where it is read
  pub consequent_spelled : (room : ℕ) (a : Around) (i : ℕ) (c : Consequent) (j : ℕ) → consequent t room a i ≡ good c j → Spells t (limit a) (write_consequent c) i j
  unfolding consequent
  consequent_spelled zero a i c j e = let w = on_from t place.Consequent a i (λ e j. bad 6 i) c j e in bad_is_not_good 6 i c j w.1
  consequent_spelled (suc room) a i c j e =
      let w = on_from t place.Consequent a i (λ e j. consequent_by t (consequent t room a) a e j) c j e in
      let k = kind_at t i in
      let o = operand_at t i in
      let Spelled : Consequent → Type 0 = λ x. Spells t (limit a) (write_consequent x) i j in
      by_test (eqb k 5) _ _ _ w.1
      (λ is q. made_of Spelled (many (consequent t room a) o (i + 1)) (λ cs. outcomes (consequents_of cs)) c j q λ cs r.
      let v = consequents_written cs in
      let n = (many_each (λ _. Unit {0}) (consequent t room a) (λ _ _ _ _. tt) o (i + 1) cs j r).1 in
      first w.0 5 (count_consequents (consequents_of cs)) (write_consequents (consequents_of cs)) j (eqb-true k 5 is) (sym n ∙ v.1)
      (subst (λ es. Spells t (limit a) es (i + 1) j) v.0 (spells_many t (limit a) write_consequent (consequent t room a) (consequent_spelled room a) o (i + 1) cs j r)))
      λ five q. made_of Spelled (change_by t a (entry_at t i) (i + 1)) outcome c j q λ x r.
      change_spelled t place.Consequent a i w.0 x j (λ four. eqb-true k 2 (an_atom (eqb k 2) (eqb k 4) (eqb k 5) w.0.permits four five)) r
    where
      an_atom : (p q r : Bool) → (p || q || r) ≡ true → q ≡ false → r ≡ false → p ≡ true
      an_atom true q r h x y = refl
      an_atom false q r h x y = clash (rw (x, y) at h)

-- Effects.

-- a list of effects is written part after part
effects_written : (es : List Effect) → (gather write_effect es ≡ write_effects (effects_of es)) × (length es ≡ count_effects (effects_of es))
effects_written [] = (refl, refl)
effects_written (e ∷ es) = let w = effects_written es in (ap (λ x. write_effect e ++ x) w.0, ap suc w.1)

-- a list of effects that each leave room leaves room
effects_shallow : (q : ℕ) (es : List Effect) → Each (λ e. Shallow q (effect_nesting e)) es → Shallow q (effects_nesting (effects_of es))
effects_shallow q [] h few = omega arith
effects_shallow q (e ∷ es) h few =
    let x = h.0 few in
    let y = effects_shallow q es h.1 few in
    omega arith

-- an effect that is written between two places, and is small enough
abbrev pub EffectSpelled : Table → Around → Effect → ℕ → ℕ → Type 0
EffectSpelled t a e i j = Spells t (limit a) (write_effect e) i j × Shallow a.quantifiers (effect_nesting e)

module _ (t : Table) (read : Around → ℕ → Out Effect) (reads : (a : Around) (i : ℕ) (e : Effect) (j : ℕ) → read a i ≡ good e j → EffectSpelled t a e i j)
    (a : Around) (i : ℕ) (h : Headed t place.Effect a i) (e : Effect) (l : ℕ) where
  abbrev SpelledEffect : Effect → Type 0
  SpelledEffect g = EffectSpelled t a g i l

  -- AND, FORALL, WHEN
  by_conjunction : kind_at t i ≡ 5 → then (many (read a) (operand_at t i) (i + 1)) (λ es k. good (conjunction (effects_of es)) k) ≡ good e l → SpelledEffect e
  by_conjunction is q =
      let o = operand_at t i in
      made_of SpelledEffect (many (read a) o (i + 1)) (λ es. conjunction (effects_of es)) e l q λ es r.
      let w = effects_written es in
      let n = many_each (λ g. Shallow a.quantifiers (effect_nesting g)) (read a) (λ j g m s. (reads a j g m s).1) o (i + 1) es l r in (
        first h 5 (count_effects (effects_of es)) (write_effects (effects_of es)) l is (sym n.1 ∙ w.1)
            (subst (λ x. Spells t (limit a) x (i + 1) l) w.0 (spells_many t (limit a) write_effect (read a) (λ j g m s. (reads a j g m s).0) o (i + 1) es l r)),
        effects_shallow a.quantifiers es n.0,
      )

  by_for_each : eqb (kind_at t i) 8 ≡ true → then (read (deeper a) (i + 1)) (λ g k. good (for_each (operand_at t i) g) k) ≡ good e l → SpelledEffect e
  by_for_each is q =
      let k = kind_at t i in
      let o = operand_at t i in
      made_of SpelledEffect (read (deeper a) (i + 1)) (for_each o) e l q λ g r.
      let w = reads (deeper a) (i + 1) g l r in
      let s : a.quantifiers < 3 = shallow h (or_left (eqb k 8) (eqb k 9) is) in
      let v : effect_nesting g + (a.quantifiers + 1) ≤ 3 = w.1 (omega arith) in
      (first h 8 o (write_effect g) l (eqb-true k 8 is) refl w.0, λ few. omega arith)

  by_when : kind_at t i ≡ 12 → then (formula t most_entries a (i + 1)) (λ f k. then (consequent t most_entries a k) λ c n. good (when f c) n) ≡ good e l → SpelledEffect e
  by_when is q = read_on (formula t most_entries a (i + 1)) (λ f k. then (consequent t most_entries a k) λ c n. good (when f c) n) e l q λ f m r u.
      made_of SpelledEffect (consequent t most_entries a m) (when f) e l u λ c s.
      let v = formula_spelled t most_entries a (i + 1) f m r in (
        first_plain h 12 (write_formula f ++ write_consequent c) l is (λ z. z)
            (spells_both t (limit a) (write_formula f) (write_consequent c) (i + 1) m l v.0 (consequent_spelled t most_entries a m c l s)),
        v.1,
      )

  -- what follows the first entry makes an effect that is written there
  effect_by_spelled : effect_by t read a (entry_at t i) (i + 1) ≡ good e l → SpelledEffect e
  effect_by_spelled q =
      let k = kind_at t i in
      by_test (eqb k 5) _ _ _ q (λ is q. by_conjunction (eqb-true k 5 is) q)
      λ five q. by_test (eqb k 8) _ _ _ q by_for_each
      λ eight q. by_test (eqb k 12) _ _ _ q (λ is q. by_when (eqb-true k 12 is) q)
      λ twelve q. made_of SpelledEffect (change_by t a (entry_at t i) (i + 1)) change e l q λ c r. (
        change_spelled t place.Effect a i h c l (λ four. eqb-true k 2 (an_atom (eqb k 2) (eqb k 4) (eqb k 5) (eqb k 8) (eqb k 12) h.permits four five eight twelve)) r,
        λ few. omega arith,
      )
    where
      an_atom : (p q r s u : Bool) → (p || q || r || s || u) ≡ true → q ≡ false → r ≡ false → s ≡ false → u ≡ false → p ≡ true
      an_atom true q r s u h a b c d = refl
      an_atom false q r s u h a b c d = clash (rw (a, b, c, d) at h)

module _ (t : Table) where
  -- an effect is written where it is read
  pub effect_spelled : (room : ℕ) (a : Around) (i : ℕ) (e : Effect) (j : ℕ) → effect t room a i ≡ good e j → EffectSpelled t a e i j
  unfolding effect
  effect_spelled zero a i e j h = let w = on_from t place.Effect a i (λ e j. bad 6 i) e j h in bad_is_not_good 6 i e j w.1
  effect_spelled (suc room) a i e j h =
      let w = on_from t place.Effect a i (λ e k. effect_by t (effect t room) a e k) e j h in
      effect_by_spelled t (effect t room) (effect_spelled room) a i w.0 e j w.1

  -- Types, predicates and parameters.

  -- an entry whose operand is read
  operand_spelled : (n : ℕ) (p : Place) (i x j : ℕ) → ((k : ℕ) → permitted p k ≡ true → k ≡ n) → then (head t p (outermost 0 i) i) (λ e k. good e.operand k) ≡ good x j → Spells t t.entries (entry n x ∷ []) i j
  operand_spelled n p i x j only e =
      let w = operand_read t p (outermost 0 i) i x j e in
      spells_one t t.entries i (entry n x) j (entry_is t i n x (only (kind_at t i) w.0.allowed) (sym w.1)) w.0.inside w.0.ends

  -- a type, the type of a parameter and a predicate's arity are written where they are read
  pub type_spelled : (i x j : ℕ) → type_set t i ≡ good x j → Spells t t.entries (entry 14 x ∷ []) i j
  type_spelled i x j e = operand_spelled 14 place.TypeSet i x j (λ k h. eqb-true k 14 h) e

  pub parameter_spelled : (i x j : ℕ) → parameter t i ≡ good x j → Spells t t.entries (entry 17 x ∷ []) i j
  parameter_spelled i x j e = operand_spelled 17 place.Parameter i x j (λ k h. eqb-true k 17 h) e

  pub predicate_spelled : (before i x j : ℕ) → predicate t before i ≡ good x j → Spells t t.entries (entry 15 x ∷ []) i j
  predicate_spelled before i x j e =
      let g : Entry → ℕ → Out ℕ = λ e j. unless (leb (with_atoms t before e.operand) most_atoms) 7 i (good e.operand j) in
      let w = on_from t place.Predicate (outermost 0 i) i g x j e in
      let r = predicate_read t before i x j e in
      spells_one t t.entries i (entry 15 x) j (entry_is t i 15 x (eqb-true (kind_at t i) 15 w.0.permits) (sym r.is)) w.0.inside r.ends

  -- Facts.

  -- where no variable is known, a term is an object
  object_read : (a : Around) → a.variables ≡ 0 → (i : ℕ) (x : Term) (j : ℕ) → term t a i ≡ good x j → write_term x ≡ entry 10 (object_of [] x)
  object_read a none i x j e =
      let w = term_read t a i x j e in
      let k = kind_at t i in
      let o = operand_at t i in
      let P : Term → Type 0 = λ y. write_term y ≡ entry 10 (object_of [] y) in
      subst P (sym w.1) (⊎_elim
      (λ h. subst (λ n. P (term_of (entry n o))) (sym (eqb-true k 10 h)) refl)
      (λ h. let z : ⊥ = omega (arith, ltb-true o a.variables (ranged_at w.0 11 (eqb-true k 11 h))) in absurd z)
      (or_cases (eqb k 10) (eqb k 11) w.0.permits))

  -- and terms are objects one after the other
  objects_written : (ts : List Term) → Each (λ x. write_term x ≡ entry 10 (object_of [] x)) ts → map write_term ts ≡ map (entry 10) (map (object_of []) ts)
  objects_written [] h = refl
  objects_written (x ∷ ts) h = ap (λ e. e ∷ map write_term ts) h.0 ∙ ap (λ es. entry 10 (object_of [] x) ∷ es) (objects_written ts h.1)

  -- a fact is written where it is read
  pub fact_spelled : (i : ℕ) (f : tree.Fact) (j : ℕ) → fact t i ≡ good f j → Spells t t.entries (write_fact f) i j
  fact_spelled i f j e =
      let a = outermost 0 i in
      let p = operand_at t i in
      let w = on_from t place.Fact a i (λ e j. then (terms t a e.operand j) λ ts k. good (record { predicate = e.operand; arguments = map (object_of []) ts }) k) f j e in
      spells_within t t.entries (limit a) (write_fact f) i j
      (made_of (λ x. Spells t (limit a) (write_fact x) i j) (terms t a p (i + 1)) (λ ts. record { predicate = p; arguments = map (object_of []) ts }) f j w.1 λ ts r.
      let z = objects_written ts (many_each (λ x. write_term x ≡ entry 10 (object_of [] x)) (term t a) (object_read a refl) (arity t p) (i + 1) ts j r).0 in
      first w.0 2 p (map (entry 10) (map (object_of []) ts)) j (eqb-true _ 2 w.0.permits) refl
      (subst (λ es. Spells t (limit a) es (i + 1) j) z (terms_spelled t a p (i + 1) ts j r)))
      (inside_at t (fact t i) f j (inside_fact t i) e)

  -- Operators.

  -- what begins its own formula or effect is short, since it ends before its limit
  pub short : (es : List Entry) (i j : ℕ) → Spells t (i + most_entries) es i j → length es ≤ most_entries
  short es i j s = omega (arith, s.place, s.under (omega arith))

  -- an operator is written where it is read, and is small enough
  pub operator_spelled : (i : ℕ) (o : tree.Operator) (j : ℕ) → operator t i ≡ good o j → Spells t t.entries (write_operator o) i j × SmallOperator o
  operator_spelled i o j e =
      let n = operand_at t i in
      let k = precondition_place t i in
      let l = effect_place t i in
      let w = on_from t place.Operator (outermost 0 i) i
      (λ e j. then (many (parameter t) e.operand j) λ tys k.
      then (formula t most_entries (outermost e.operand k) k) λ f l.
      then (effect t most_entries (outermost e.operand l) l) λ g m.
      good (record { parameters = tys; precondition = f; effect = g }) m) o j e in
      let r = operator_read t i o j e in
      let f = formula_spelled t most_entries (outermost n k) k o.precondition l r.precondition in
      let g = effect_spelled most_entries (outermost n l) l o.effect j r.effect_is in
      let before : l ≤ t.entries = inside_at t (formula t most_entries (outermost n k) k) o.precondition l (inside_formula t most_entries (outermost n k) k) r.precondition in (
        spells_first t t.entries i (entry 16 (length o.parameters)) (map (entry 17) o.parameters ++ (write_formula o.precondition ++ write_effect o.effect)) j
            (entry_is t i 16 (length o.parameters) (eqb-true _ 16 w.0.permits) r.count) r.inside
            (spells_both t t.entries (map (entry 17) o.parameters) (write_formula o.precondition ++ write_effect o.effect) (i + 1) k j
            (spells_singles t t.entries (entry 17) (λ (_ : Unit {0}). parameter t) (λ _ _. tt) (λ _. parameter_spelled) n tt (i + 1) o.parameters k r.parameters)
            (spells_both t t.entries (write_formula o.precondition) (write_effect o.effect) k l j
            (spells_within t t.entries (k + most_entries) (write_formula o.precondition) k l f.0 before)
            (spells_within t t.entries (l + most_entries) (write_effect o.effect) l j g.0 r.ends))),
        record {
          parameters = omega (arith, r.count, r.few);
          precondition = (short (write_formula o.precondition) k l f.0, omega (arith, f.1 (omega arith)));
          effect = (short (write_effect o.effect) l j g.0, omega (arith, g.1 (omega arith)));
        },
      )
