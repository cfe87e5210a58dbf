-- Terms, formulas, changes, consequents and effects that stand written in a table are read from it.
use Rattle.std.proofs.Common.{◌≡◌, ℕ, zero, suc, ◌+◌, ◌-◌, ◌<◌, ◌≤◌, max, Bool, true, false, List, [], ◌∷◌, ◌++◌, map, length, get_or, sym, refl, ap, ◌∙◌, arith}
use Rattle.std.proofs.Math.Nat.{le-max_left, le-max_right}
use Rattle.std.proofs.lemmas.Bool.{lt-ltb}
use Rattle.std.proofs.lemmas.List.{length-append}
use Rattle.table.specs.declared.places.Place.TheVariants as place
use Rattle.table.specs.Permits.{permitted}
use Rattle.table.specs.Reading.{Entry, entry, good, then, many}
use Rattle.model.specs.Forming.{Each, KnownTerm, KnownAtom, KnownFormula, KnownFormulas, KnownChange, KnownEffect, KnownEffects}
use Rattle.model.specs.Trees as tree
use Rattle.model.specs.Trees.{Term, object, variable, all, any, Formula, constant, atom, equal, negation, junction, implication, quantifier, Formulas, none, more, Change, Consequent, outcome, outcomes, outcomes_of, all_outcomes, Consequents, no_outcome, also, Effect, change, conjunction, for_each, when, Effects, no_effect, and}
use Rattle.adl.specs.Tables.{Table, arity, Around, most_entries, most_quantifiers, deeper, in_range, head}
use Rattle.adl.specs.Reads.{term_of, term, terms, formulas_of, consequents_of, effects_of, formula_by, formula, changed_atom, change_by, consequent_by, consequent, effect_by, effect}
use Rattle.adl_theorems.specs.Writes.{write_term, count_formulas, count_consequents, count_effects, write_formula, write_formulas, write_change, write_consequent, write_consequents, write_effect, write_effects, nesting, nesting_all, effect_nesting, effects_nesting}
use Rattle.adl_theorems.proofs.Written.{Written, written_none, written_rest, written_split, shallow, head_reads, made, made_two, many_more}

-- the formulas as a list
abbrev listed_formulas : Formulas → List Formula
listed_formulas none = []
listed_formulas (more f fs) = f ∷ listed_formulas fs

-- and back
formulas_of_listed : (fs : Formulas) → formulas_of (listed_formulas fs) ≡ fs
formulas_of_listed none = refl
formulas_of_listed (more f fs) = ap (more f) (formulas_of_listed fs)

-- the consequents as a list
abbrev listed_consequents : Consequents → List Consequent
listed_consequents no_outcome = []
listed_consequents (also c cs) = c ∷ listed_consequents cs

-- and back
consequents_of_listed : (cs : Consequents) → consequents_of (listed_consequents cs) ≡ cs
consequents_of_listed no_outcome = refl
consequents_of_listed (also c cs) = ap (also c) (consequents_of_listed cs)

-- the effects as a list
abbrev listed_effects : Effects → List Effect
listed_effects no_effect = []
listed_effects (and e es) = e ∷ listed_effects es

-- and back
effects_of_listed : (es : Effects) → effects_of (listed_effects es) ≡ es
effects_of_listed no_effect = refl
effects_of_listed (and e es) = ap (and e) (effects_of_listed es)

-- what holds of each element of two lists together
each_split : {A : Type 0} (P : A → Type 0) (xs ys : List A) → Each P (xs ++ ys) → Each P xs × Each P ys
each_split P [] ys h = (tt, h)
each_split P (x ∷ xs) ys h = let w = each_split P xs ys h.1 in ((h.0, w.0), w.1)

-- Where there is room for its entries, a tree is read by the kind of the first.
module _ {e : Entry} {es : List Entry} {i j : ℕ} (t : Table) (a : Around) (s : Written t (e ∷ es) i j) (b : j ≤ a.start + most_entries) where
  formula_enters : (room : ℕ) → suc (length es) ≤ room → permitted place.Formula e.kind ≡ true → shallow a e.kind ≡ true → in_range t a e ≡ true → formula t room a i ≡ formula_by t (formula t (room - 1)) a e (i + 1)
  unfolding formula
  formula_enters zero l k q r = absurd (omega arith)
  formula_enters (suc room) l k q r =
      let n : room ≡ suc room - 1 = omega arith in
      ap (λ o. then o (λ x m. formula_by t (formula t room) a x m)) (head_reads t place.Formula a s b k q r) ∙ ap (λ m. formula_by t (formula t m) a e (i + 1)) n

  consequent_enters : (room : ℕ) → suc (length es) ≤ room → permitted place.Consequent e.kind ≡ true → shallow a e.kind ≡ true → in_range t a e ≡ true → consequent t room a i ≡ consequent_by t (consequent t (room - 1) a) a e (i + 1)
  unfolding consequent
  consequent_enters zero l k q r = absurd (omega arith)
  consequent_enters (suc room) l k q r =
      let n : room ≡ suc room - 1 = omega arith in
      ap (λ o. then o (λ x m. consequent_by t (consequent t room a) a x m)) (head_reads t place.Consequent a s b k q r) ∙ ap (λ m. consequent_by t (consequent t m a) a e (i + 1)) n

  effect_enters : (room : ℕ) → suc (length es) ≤ room → permitted place.Effect e.kind ≡ true → shallow a e.kind ≡ true → in_range t a e ≡ true → effect t room a i ≡ effect_by t (effect t (room - 1)) a e (i + 1)
  unfolding effect
  effect_enters zero l k q r = absurd (omega arith)
  effect_enters (suc room) l k q r =
      let n : room ≡ suc room - 1 = omega arith in
      ap (λ o. then o (λ x m. effect_by t (effect t room) a x m)) (head_reads t place.Effect a s b k q r) ∙ ap (λ m. effect_by t (effect t m) a e (i + 1)) n

-- the table declares the objects, types and predicates of the task
pub record Declares (t : Table) (T : tree.Task) : Type 0 where
  pub objects : t.objects ≡ T.objects
  pub types : t.types ≡ length T.types
  pub predicates : t.predicates ≡ length T.arities
  pub arity_is : (p : ℕ) → p < length T.arities → arity t p ≡ get_or T.arities p 0

module _ (t : Table) (T : tree.Task) (d : Declares t T) where
  -- a term, with other entries after it
  term_reads : (x : Term) (es : List Entry) (a : Around) (i j : ℕ) → KnownTerm T.objects a.variables x → Written t (write_term x ∷ es) i j → j ≤ a.start + most_entries → term t a i ≡ good x (i + 1)
  term_reads (object o) es a i j k s b = made term_of (head t place.Term a i) (entry 10 o) (i + 1) (head_reads t place.Term a s b refl refl (lt-ltb o t.objects (omega (arith, d.objects))))
  term_reads (variable v) es a i j k s b = made term_of (head t place.Term a i) (entry 11 v) (i + 1) (head_reads t place.Term a s b refl refl (lt-ltb v a.variables k))

  -- terms one after the other
  terms_read : (ts : List Term) (a : Around) (i j : ℕ) → Each (KnownTerm T.objects a.variables) ts → Written t (map write_term ts) i j → j ≤ a.start + most_entries → many (term t a) (length ts) i ≡ good ts j
  terms_read [] a i j k s b = ap (good []) (written_none s)
  terms_read (x ∷ ts) a i j k s b = many_more (term t a) (length ts) i (i + 1) j x ts (term_reads x (map write_term ts) a i j k.0 s b) (terms_read ts a (i + 1) j k.1 (written_rest s) b)

  -- the terms of a predicate
  pub arguments_read : (p : ℕ) (ts : List Term) (a : Around) (i j : ℕ) → KnownAtom T a.variables p ts → Written t (map write_term ts) i j → j ≤ a.start + most_entries → terms t a p i ≡ good ts j
  arguments_read p ts a i j k s b = ap (λ m. many (term t a) m i) (d.arity_is p k.predicate ∙ sym k.arity) ∙ terms_read ts a i j k.terms s b

  -- ATOM names a predicate
  pub atom_in_range : (p : ℕ) (ts : List Term) (a : Around) → KnownAtom T a.variables p ts → in_range t a (entry 2 p) ≡ true
  atom_in_range p ts a k = lt-ltb p t.predicates (omega (arith, d.predicates, k.predicate))

  -- FORALL and EXISTS name a type
  forall_in_range : (ty : ℕ) (a : Around) → ty < length T.types → in_range t a (entry 8 ty) ≡ true
  forall_in_range ty a k = lt-ltb ty t.types (omega (arith, d.types))

  exists_in_range : (ty : ℕ) (a : Around) → ty < length T.types → in_range t a (entry 9 ty) ≡ true
  exists_in_range ty a k = lt-ltb ty t.types (omega (arith, d.types))

  -- Formulas.
  mutual
    -- a formula with room for its entries, and not too many quantifiers inside one another
    pub formula_reads : (f : Formula) (room : ℕ) (a : Around) (i j : ℕ) → KnownFormula T a.variables f → Written t (write_formula f) i j → j ≤ a.start + most_entries
        → length (write_formula f) ≤ room → nesting f + a.quantifiers ≤ most_quantifiers → formula t room a i ≡ good f j
    formula_reads (constant true) room a i j k s b r n = formula_enters t a s b room r refl refl refl ∙ ap (good (constant true)) (written_none (written_rest s))
    formula_reads (constant false) room a i j k s b r n = formula_enters t a s b room r refl refl refl ∙ ap (good (constant false)) (written_none (written_rest s))
    formula_reads (atom p ts) room a i j k s b r n =
        formula_enters t a s b room r refl refl (atom_in_range p ts a k)
        ∙ made (atom p) (terms t a p (i + 1)) ts j (arguments_read p ts a (i + 1) j k (written_rest s) b)
    formula_reads (equal x y) room a i j k s b r n =
        formula_enters t a s b room r refl refl refl
        ∙ made_two equal (term t a (i + 1)) (term t a) x y (i + 1 + 1) (i + 1 + 1 + 1)
        (term_reads x (write_term y ∷ []) a (i + 1) j k.0 (written_rest s) b)
        (term_reads y [] a (i + 1 + 1) j k.1 (written_rest (written_rest s)) b)
        ∙ ap (good (equal x y)) (written_none (written_rest (written_rest (written_rest s))))
    formula_reads (negation f) room a i j k s b r n =
        formula_enters t a s b room r refl refl refl
        ∙ made negation (formula t (room - 1) a (i + 1)) f j (formula_reads f (room - 1) a (i + 1) j k (written_rest s) b (omega arith) n)
    formula_reads (junction all fs) room a i j k s b r n =
        formula_enters t a s b room r refl refl refl
        ∙ made (λ gs. junction all (formulas_of gs)) (many (formula t (room - 1) a) (count_formulas fs) (i + 1)) (listed_formulas fs) j (formulas_read fs (room - 1) a (i + 1) j k (written_rest s) b (omega arith) n)
        ∙ ap (λ gs. good (junction all gs) j) (formulas_of_listed fs)
    formula_reads (junction any fs) room a i j k s b r n =
        formula_enters t a s b room r refl refl refl
        ∙ made (λ gs. junction any (formulas_of gs)) (many (formula t (room - 1) a) (count_formulas fs) (i + 1)) (listed_formulas fs) j (formulas_read fs (room - 1) a (i + 1) j k (written_rest s) b (omega arith) n)
        ∙ ap (λ gs. good (junction any gs) j) (formulas_of_listed fs)
    formula_reads (implication f g) room a i j k s b r n =
        let w = written_split t (write_formula f) (write_formula g) (i + 1) j (written_rest s) in
        let l : length (write_formula f ++ write_formula g) ≡ length (write_formula f) + length (write_formula g) = length-append (write_formula f) (write_formula g) in
        let x : nesting f ≤ max (nesting f) (nesting g) = le-max_left (nesting f) (nesting g) in
        let y : nesting g ≤ max (nesting f) (nesting g) = le-max_right (nesting f) (nesting g) in
        let m : ℕ = i + 1 + length (write_formula f) in
        formula_enters t a s b room r refl refl refl
        ∙ made_two implication (formula t (room - 1) a (i + 1)) (formula t (room - 1) a) f g m j
        (formula_reads f (room - 1) a (i + 1) m k.0 w.0 (omega (arith, w.1.ends)) (omega arith) (omega arith))
        (formula_reads g (room - 1) a m j k.1 w.1 b (omega arith) (omega arith))
    formula_reads (quantifier all ty f) room a i j k s b r n =
        formula_enters t a s b room r refl (lt-ltb a.quantifiers most_quantifiers (omega arith)) (forall_in_range ty a k.0)
        ∙ made (quantifier all ty) (formula t (room - 1) (deeper a) (i + 1)) f j (formula_reads f (room - 1) (deeper a) (i + 1) j k.1 (written_rest s) b (omega arith) (omega arith))
    formula_reads (quantifier any ty f) room a i j k s b r n =
        formula_enters t a s b room r refl (lt-ltb a.quantifiers most_quantifiers (omega arith)) (exists_in_range ty a k.0)
        ∙ made (quantifier any ty) (formula t (room - 1) (deeper a) (i + 1)) f j (formula_reads f (room - 1) (deeper a) (i + 1) j k.1 (written_rest s) b (omega arith) (omega arith))

    -- formulas one after the other
    formulas_read : (fs : Formulas) (room : ℕ) (a : Around) (i j : ℕ) → KnownFormulas T a.variables fs → Written t (write_formulas fs) i j → j ≤ a.start + most_entries
        → length (write_formulas fs) ≤ room → nesting_all fs + a.quantifiers ≤ most_quantifiers → many (formula t room a) (count_formulas fs) i ≡ good (listed_formulas fs) j
    formulas_read none room a i j k s b r n = ap (good []) (written_none s)
    formulas_read (more f fs) room a i j k s b r n =
        let w = written_split t (write_formula f) (write_formulas fs) i j s in
        let l : length (write_formula f ++ write_formulas fs) ≡ length (write_formula f) + length (write_formulas fs) = length-append (write_formula f) (write_formulas fs) in
        let x : nesting f ≤ max (nesting f) (nesting_all fs) = le-max_left (nesting f) (nesting_all fs) in
        let y : nesting_all fs ≤ max (nesting f) (nesting_all fs) = le-max_right (nesting f) (nesting_all fs) in
        let m : ℕ = i + length (write_formula f) in
        many_more (formula t room a) (count_formulas fs) i m j f (listed_formulas fs)
        (formula_reads f room a i m k.0 w.0 (omega (arith, w.1.ends)) (omega arith) (omega arith))
        (formulas_read fs room a m j k.1 w.1 b (omega arith) (omega arith))

  -- Changes.

  -- an atom that is added or deleted
  abbrev changing : Bool → ℕ → List Term → Change
  changing adds p ts = record { adds = adds; predicate = p; terms = ts }

  -- the terms of an atom that is added or deleted
  changed_reads : (adds : Bool) (p : ℕ) (ts : List Term) (a : Around) (i j : ℕ) → KnownAtom T a.variables p ts → Written t (map write_term ts) i j → j ≤ a.start + most_entries
      → changed_atom t a adds (entry 2 p) i ≡ good (changing adds p ts) j
  changed_reads adds p ts a i j k s b = made (λ us. changing adds p us) (terms t a p i) ts j (arguments_read p ts a i j k s b)

  -- an atom that is deleted, after its NOT
  deleted_reads : (p : ℕ) (ts : List Term) (a : Around) (i j : ℕ) → KnownAtom T a.variables p ts → Written t (entry 2 p ∷ map write_term ts) i j → j ≤ a.start + most_entries
      → change_by t a (entry 4 0) i ≡ good (changing false p ts) j
  deleted_reads p ts a i j k s b =
      ap (λ o. then o (λ f m. changed_atom t a false f m)) (head_reads t place.Negated a s b refl refl (atom_in_range p ts a k))
      ∙ changed_reads false p ts a (i + 1) j k (written_rest s) b

  -- a change in a consequent
  outcome_reads : (adds : Bool) (p : ℕ) (ts : List Term) (room : ℕ) (a : Around) (i j : ℕ) → KnownAtom T a.variables p ts → Written t (write_change (changing adds p ts)) i j → j ≤ a.start + most_entries
      → length (write_change (changing adds p ts)) ≤ room → consequent t room a i ≡ good (outcome (changing adds p ts)) j
  outcome_reads true p ts room a i j k s b r =
      consequent_enters t a s b room r refl refl (atom_in_range p ts a k)
      ∙ made outcome (change_by t a (entry 2 p) (i + 1)) (changing true p ts) j (changed_reads true p ts a (i + 1) j k (written_rest s) b)
  outcome_reads false p ts room a i j k s b r =
      consequent_enters t a s b room r refl refl refl
      ∙ made outcome (change_by t a (entry 4 0) (i + 1)) (changing false p ts) j (deleted_reads p ts a (i + 1) j k (written_rest s) b)

  -- a change as an effect
  change_reads : (adds : Bool) (p : ℕ) (ts : List Term) (room : ℕ) (a : Around) (i j : ℕ) → KnownAtom T a.variables p ts → Written t (write_change (changing adds p ts)) i j → j ≤ a.start + most_entries
      → length (write_change (changing adds p ts)) ≤ room → effect t room a i ≡ good (change (changing adds p ts)) j
  change_reads true p ts room a i j k s b r =
      effect_enters t a s b room r refl refl (atom_in_range p ts a k)
      ∙ made change (change_by t a (entry 2 p) (i + 1)) (changing true p ts) j (changed_reads true p ts a (i + 1) j k (written_rest s) b)
  change_reads false p ts room a i j k s b r =
      effect_enters t a s b room r refl refl refl
      ∙ made change (change_by t a (entry 4 0) (i + 1)) (changing false p ts) j (deleted_reads p ts a (i + 1) j k (written_rest s) b)

  -- Consequents.
  mutual
    -- a consequent with room for its entries
    consequent_reads : (c : Consequent) (room : ℕ) (a : Around) (i j : ℕ) → Each (KnownChange T a.variables) (outcomes_of c) → Written t (write_consequent c) i j → j ≤ a.start + most_entries
        → length (write_consequent c) ≤ room → consequent t room a i ≡ good c j
    consequent_reads (outcome c) room a i j k s b r = outcome_reads c.adds c.predicate c.terms room a i j k.0 s b r
    consequent_reads (outcomes cs) room a i j k s b r =
        consequent_enters t a s b room r refl refl refl
        ∙ made (λ ds. outcomes (consequents_of ds)) (many (consequent t (room - 1) a) (count_consequents cs) (i + 1)) (listed_consequents cs) j (consequents_read cs (room - 1) a (i + 1) j k (written_rest s) b (omega arith))
        ∙ ap (λ ds. good (outcomes ds) j) (consequents_of_listed cs)

    -- consequents one after the other
    consequents_read : (cs : Consequents) (room : ℕ) (a : Around) (i j : ℕ) → Each (KnownChange T a.variables) (all_outcomes cs) → Written t (write_consequents cs) i j → j ≤ a.start + most_entries
        → length (write_consequents cs) ≤ room → many (consequent t room a) (count_consequents cs) i ≡ good (listed_consequents cs) j
    consequents_read no_outcome room a i j k s b r = ap (good []) (written_none s)
    consequents_read (also c cs) room a i j k s b r =
        let w = written_split t (write_consequent c) (write_consequents cs) i j s in
        let l : length (write_consequent c ++ write_consequents cs) ≡ length (write_consequent c) + length (write_consequents cs) = length-append (write_consequent c) (write_consequents cs) in
        let q = each_split (KnownChange T a.variables) (outcomes_of c) (all_outcomes cs) k in
        let m : ℕ = i + length (write_consequent c) in
        many_more (consequent t room a) (count_consequents cs) i m j c (listed_consequents cs)
        (consequent_reads c room a i m q.0 w.0 (omega (arith, w.1.ends)) (omega arith))
        (consequents_read cs room a m j q.1 w.1 b (omega arith))

  -- Effects.
  mutual
    -- an effect with room for its entries, and not too many quantifiers inside one another
    pub effect_reads : (g : Effect) (room : ℕ) (a : Around) (i j : ℕ) → KnownEffect T a.variables g → Written t (write_effect g) i j → j ≤ a.start + most_entries
        → length (write_effect g) ≤ room → room ≤ most_entries → effect_nesting g + a.quantifiers ≤ most_quantifiers → effect t room a i ≡ good g j
    effect_reads (change c) room a i j k s b r u n = change_reads c.adds c.predicate c.terms room a i j k s b r
    effect_reads (conjunction es) room a i j k s b r u n =
        effect_enters t a s b room r refl refl refl
        ∙ made (λ gs. conjunction (effects_of gs)) (many (effect t (room - 1) a) (count_effects es) (i + 1)) (listed_effects es) j (effects_read es (room - 1) a (i + 1) j k (written_rest s) b (omega arith) (omega arith) n)
        ∙ ap (λ gs. good (conjunction gs) j) (effects_of_listed es)
    effect_reads (for_each ty g) room a i j k s b r u n =
        effect_enters t a s b room r refl (lt-ltb a.quantifiers most_quantifiers (omega arith)) (forall_in_range ty a k.0)
        ∙ made (for_each ty) (effect t (room - 1) (deeper a) (i + 1)) g j (effect_reads g (room - 1) (deeper a) (i + 1) j k.1 (written_rest s) b (omega arith) (omega arith) (omega arith))
    effect_reads (when f c) room a i j k s b r u n =
        let w = written_split t (write_formula f) (write_consequent c) (i + 1) j (written_rest s) in
        let l : length (write_formula f ++ write_consequent c) ≡ length (write_formula f) + length (write_consequent c) = length-append (write_formula f) (write_consequent c) in
        let m : ℕ = i + 1 + length (write_formula f) in
        effect_enters t a s b room r refl refl refl
        ∙ made_two when (formula t most_entries a (i + 1)) (consequent t most_entries a) f c m j
        (formula_reads f most_entries a (i + 1) m k.0 w.0 (omega (arith, w.1.ends)) (omega arith) n)
        (consequent_reads c most_entries a m j k.1 w.1 b (omega arith))

    -- effects one after the other
    effects_read : (es : Effects) (room : ℕ) (a : Around) (i j : ℕ) → KnownEffects T a.variables es → Written t (write_effects es) i j → j ≤ a.start + most_entries
        → length (write_effects es) ≤ room → room ≤ most_entries → effects_nesting es + a.quantifiers ≤ most_quantifiers → many (effect t room a) (count_effects es) i ≡ good (listed_effects es) j
    effects_read no_effect room a i j k s b r u n = ap (good []) (written_none s)
    effects_read (and g es) room a i j k s b r u n =
        let w = written_split t (write_effect g) (write_effects es) i j s in
        let l : length (write_effect g ++ write_effects es) ≡ length (write_effect g) + length (write_effects es) = length-append (write_effect g) (write_effects es) in
        let x : effect_nesting g ≤ max (effect_nesting g) (effects_nesting es) = le-max_left (effect_nesting g) (effects_nesting es) in
        let y : effects_nesting es ≤ max (effect_nesting g) (effects_nesting es) = le-max_right (effect_nesting g) (effects_nesting es) in
        let m : ℕ = i + length (write_effect g) in
        many_more (effect t room a) (count_effects es) i m j g (listed_effects es)
        (effect_reads g room a i m k.0 w.0 (omega (arith, w.1.ends)) (omega arith) u (omega arith))
        (effects_read es room a m j k.1 w.1 b (omega arith) u (omega arith))
