-- What stands at a place of a table where an effect is read, or a part of one, by the kind that the table has there.
use Rattle.std.proofs.Common.{◌≡◌, ℕ, zero, suc, ◌+◌, ◌-◌, ◌<◌, ◌≤◌, Bool, true, false, cond, ◌||◌, eqb, ltb, ◌⊎◌, List, [], ◌∷◌, get_or, sym, refl, ap, ◌∙◌, subst, inl, inr, ⊎_elim, arith}
use Rattle.std.proofs.lemmas.Bool.{true≢false, ltb-true, lt-ltb, eqb-true, ne_eqb, and_parts, or_cases, cond-true, cond-false}
use Rattle.table.specs.declared.places.Place.{Place}
use Rattle.table.specs.declared.places.Place.TheVariants as place
use Rattle.table.specs.Permits.{permitted}
use Rattle.table.specs.Reading.{Entry, entry, Out, bad, good, then, many}
use Rattle.model.specs.Trees.{Term, Formula, Change, Consequent, outcome, outcomes, Effect, change, conjunction, for_each, when}
use Rattle.adl.specs.Tables.{Table, Around, entry_at, arity, most_entries, deeper, within_bounds, in_range, head}
use Rattle.adl.specs.Reads.{term, terms, formula, changed_atom, change_by, consequents_of, consequent_by, consequent, effects_of, effect_by, effect}
use Rattle.runs.specs.Standing.{TermsAt, FormulaAt}
use Rattle.runs.specs.Effects.{ChangeAt, ConsequentAt, ConsequentsAt, EffectAt, EffectsAt}
use Rattle.adl_theorems.proofs.Entries.{last, Headed, on_from, none_read, first_read, items_go_on, term_goes_on, goes_on}
use Rattle.table.proofs.Reading.{bad_is_not_good, first_step}
use Rattle.runs.proofs.Shapes.{after_terms}

-- Kinds.

-- the kinds that an effect may begin with
effect_kinds : (k : ℕ) → permitted place.Effect k ≡ true → (k ≡ 2) ⊎ ((k ≡ 4) ⊎ ((k ≡ 5) ⊎ ((k ≡ 8) ⊎ (k ≡ 12))))
effect_kinds k e =
    ⊎_elim
    (λ e. ⊎_elim
    (λ e. ⊎_elim
    (λ e. ⊎_elim (λ e. inl (eqb-true _ _ e)) (λ e. inr (inl (eqb-true _ _ e))) (or_cases (eqb k 2) (eqb k 4) e))
    (λ e. inr (inr (inl (eqb-true _ _ e))))
    (or_cases (eqb k 2 || eqb k 4) (eqb k 5) e))
    (λ e. inr (inr (inr (inl (eqb-true _ _ e)))))
    (or_cases (eqb k 2 || eqb k 4 || eqb k 5) (eqb k 8) e))
    (λ e. inr (inr (inr (inr (eqb-true _ _ e)))))
    (or_cases (eqb k 2 || eqb k 4 || eqb k 5 || eqb k 8) (eqb k 12) e)

-- the kinds that a consequent may begin with
consequent_kinds : (k : ℕ) → permitted place.Consequent k ≡ true → (k ≡ 2) ⊎ ((k ≡ 4) ⊎ (k ≡ 5))
consequent_kinds k e =
    ⊎_elim
    (λ e. ⊎_elim (λ e. inl (eqb-true _ _ e)) (λ e. inr (inl (eqb-true _ _ e))) (or_cases (eqb k 2) (eqb k 4) e))
    (λ e. inr (inr (eqb-true _ _ e)))
    (or_cases (eqb k 2 || eqb k 4) (eqb k 5) e)

-- what a consequent may begin with, an effect may
consequent_in_effect : (k : ℕ) → permitted place.Consequent k ≡ true → permitted place.Effect k ≡ true
consequent_in_effect k e =
    ⊎_elim (λ q. ap (permitted place.Effect) q) (λ e. ⊎_elim (λ q. ap (permitted place.Effect) q) (λ q. ap (permitted place.Effect) q) e) (consequent_kinds k e)

small_effect_kind : (k : ℕ) → permitted place.Effect k ≡ true → k < 22
small_effect_kind k e = ⊎_elim (λ q. omega arith) (⊎_elim (λ q. omega arith) (⊎_elim (λ q. omega arith) (⊎_elim (λ q. omega arith) (λ q. omega arith)))) (effect_kinds k e)

-- an effect of another kind than AND, FORALL and WHEN is plain
plain_effect_kind : (k : ℕ) → permitted place.Effect k ≡ true → (k ≡ 5 → ⊥) → (k ≡ 8 → ⊥) → (k ≡ 12 → ⊥) → k ≤ 4
plain_effect_kind k e a b c =
    ⊎_elim (λ q. omega arith) (⊎_elim (λ q. omega arith) (⊎_elim (λ q. absurd (a q)) (⊎_elim (λ q. absurd (b q)) (λ q. absurd (c q))))) (effect_kinds k e)

-- a plain one is an atom, or an atom under NOT
plain_kinds : (k : ℕ) → permitted place.Effect k ≡ true → k ≤ 4 → (k ≡ 2) ⊎ (k ≡ 4)
plain_kinds k e h = ⊎_elim (λ q. inl q) (⊎_elim (λ q. inr q) (⊎_elim (λ q. large (omega arith)) (⊎_elim (λ q. large (omega arith)) (λ q. large (omega arith))))) (effect_kinds k e)
  where
    large : 4 < k → (k ≡ 2) ⊎ (k ≡ 4)
    large l = let z : ⊥ = omega arith in absurd z

plain_consequent_kind : (k : ℕ) → permitted place.Consequent k ≡ true → (k ≡ 5 → ⊥) → k ≤ 4
plain_consequent_kind k e a = ⊎_elim (λ q. omega arith) (⊎_elim (λ q. omega arith) (λ q. absurd (a q))) (consequent_kinds k e)

-- an entry that may stand at its place is read there
read_head : (t : Table) (p : Place) (a : Around) (i : ℕ) → Headed t p a i → head t p a i ≡ good (entry_at t i) (i + 1)
read_head t p a i h =
    cond-true (ltb i t.entries) _ _ (lt-ltb _ _ h.inside)
    ∙ cond-true (permitted p (get_or t.kinds i 0)) _ _ h.permits
    ∙ cond-true (within_bounds a i (entry_at t i)) _ _ h.bounded
    ∙ cond-true (in_range t a (entry_at t i)) _ _ h.ranged

-- Changes.

-- what was read is known, and where it ends
pub read_as : {A : Type 0} (x y : A) (k l : ℕ) → good x k ≡ good y l → (y ≡ x) × (k ≡ l)
read_as x y k l e = let p : x ≡ y = cc in let q : k ≡ l = cc in (sym p, q)

atom_goes_on : (t : Table) (a : Around) (b : Bool) (e : Entry) (j : ℕ) (c : Change) (l : ℕ) → changed_atom t a b e j ≡ good c l → j ≤ l
atom_goes_on t a b e j c l q =
    let made : List Term → Change = λ ts. record { adds = b; predicate = e.operand; terms = ts } in
    let w = first_step (terms t a e.operand j) (λ ts k. good (made ts) k) c l q in
    omega (arith, items_go_on (term t a) (term_goes_on t a) (arity t e.operand) j w.0 w.1 w.2, last (made w.0) c w.1 l w.3)

change_goes_on : (t : Table) (a : Around) (e : Entry) (j : ℕ) (c : Change) (l : ℕ) → change_by t a e j ≡ good c l → j ≤ l
change_goes_on t a e j c l q = by_kind (eqb e.kind 4) q
  where
    by_kind : (deletes : Bool) → cond deletes (then (head t place.Negated a j) λ f k. changed_atom t a false f k) (changed_atom t a true e j) ≡ good c l → j ≤ l
    by_kind true x =
        let w = on_from t place.Negated a j (λ f k. changed_atom t a false f k) c l x in
        omega (arith, atom_goes_on t a false (entry_at t j) (j + 1) c l w.1)
    by_kind false x = atom_goes_on t a true e j c l x

-- the terms of an atom that is added or deleted
atom_terms : (t : Table) (a : Around) (b : Bool) (p j : ℕ) (k : ℕ) (c : Change) (l : ℕ) → changed_atom t a b (entry k p) j ≡ good c l → p < t.predicates
    → (ts : List Term) × (c ≡ record { adds = b; predicate = p; terms = ts }) × TermsAt t a.variables p j ts l
atom_terms t a b p j k c l q h =
    let w = first_step (terms t a p j) (λ ts k. good (record { adds = b; predicate = p; terms = ts }) k) c l q in
    let r = read_as {A = Change} (record { adds = b; predicate = p; terms = w.0 }) c w.1 l w.3 in
    (w.0, r.0, record { around = a; reads = w.2 ∙ ap (good w.0) r.1; known = refl; predicate = h })

-- a reading that begins with an entry which may stand at its place
change_stands : (t : Table) (v : ℕ) (a : Around) (i : ℕ) (c : Change) (j : ℕ) → a.variables ≡ v → Headed t place.Effect a i → get_or t.kinds i 0 ≤ 4 → change_by t a (entry_at t i) (i + 1) ≡ good c j → ChangeAt t v i c j
change_stands t v a i c j k h p e =
    record { around = a; reads = ap (λ o. then o λ e j. change_by t a e j) (read_head t place.Effect a i h) ∙ e; known = k; plain = p }

-- the same atom, by equal values
parts_from : {t : Table} {v : ℕ} {c : Change} {j : ℕ} (adds : Bool) (start : ℕ) (b : Bool) (m : ℕ) → adds ≡ b → start ≡ m
    → (ts : List Term) × (c ≡ record { adds = b; predicate = get_or t.operands m 0; terms = ts }) × TermsAt t v (get_or t.operands m 0) (m + 1) ts j
    → (ts : List Term) × (c ≡ record { adds = adds; predicate = get_or t.operands start 0; terms = ts }) × TermsAt t v (get_or t.operands start 0) (start + 1) ts j
parts_from {t} {v} {c} {j} adds start b m p q w =
    let made : Bool → ℕ → Change = λ x n. record { adds = x; predicate = get_or t.operands n 0; terms = w.0 } in
    (w.0, w.1 ∙ ap (λ x. made x m) (sym p) ∙ ap (λ n. made adds n) (sym q), subst (λ n. TermsAt t v (get_or t.operands n 0) (n + 1) w.0 j) (sym q) w.2)

module _ {t : Table} {v i : ℕ} {c : Change} {j : ℕ} (s : ChangeAt t v i c j) where
  change_facts : Headed t place.Effect s.around i × (change_by t s.around (entry_at t i) (i + 1) ≡ good c j)
  change_facts = on_from t place.Effect s.around i (λ e k. change_by t s.around e k) c j s.reads

  -- it begins inside the table, with ATOM or NOT
  pub change_begins : i < t.entries
  change_begins = change_facts.0.inside

  pub change_kind : (get_or t.kinds i 0 ≡ 2) ⊎ (get_or t.kinds i 0 ≡ 4)
  change_kind = plain_kinds (get_or t.kinds i 0) change_facts.0.permits s.plain

  -- after the first entry, whose kind is k
  change_rest : (k : ℕ) → get_or t.kinds i 0 ≡ k → change_by t s.around (entry k (get_or t.operands i 0)) (i + 1) ≡ good c j
  change_rest k e = ap (λ n. change_by t s.around (entry n (get_or t.operands i 0)) (i + 1)) (sym e) ∙ change_facts.1

  change_range : (k : ℕ) → get_or t.kinds i 0 ≡ k → in_range t s.around (entry k (get_or t.operands i 0)) ≡ true
  change_range k e = ap (λ n. in_range t s.around (entry n (get_or t.operands i 0))) (sym e) ∙ change_facts.0.ranged

  -- ATOM adds
  pub at_add : get_or t.kinds i 0 ≡ 2
      → (ts : List Term) × (c ≡ record { adds = true; predicate = get_or t.operands i 0; terms = ts }) × TermsAt t v (get_or t.operands i 0) (i + 1) ts j
  at_add e =
      let w = atom_terms t s.around true (get_or t.operands i 0) (i + 1) 2 c j (change_rest 2 e) (ltb-true _ _ (change_range 2 e)) in
      (w.0, w.1, subst (λ n. TermsAt t n (get_or t.operands i 0) (i + 1) w.0 j) s.known w.2)

  -- NOT deletes the atom after it
  pub at_delete : get_or t.kinds i 0 ≡ 4
      → (ts : List Term) × (c ≡ record { adds = false; predicate = get_or t.operands (i + 1) 0; terms = ts }) × TermsAt t v (get_or t.operands (i + 1) 0) (i + 1 + 1) ts j × (i + 1 < t.entries)
  at_delete e =
      let u = on_from t place.Negated s.around (i + 1) (λ f k. changed_atom t s.around false f k) c j (change_rest 4 e) in
      let k = eqb-true (get_or t.kinds (i + 1) 0) 2 u.0.permits in
      let r = ap (λ n. in_range t s.around (entry n (get_or t.operands (i + 1) 0))) (sym k) ∙ u.0.ranged in
      let w = atom_terms t s.around false (get_or t.operands (i + 1) 0) (i + 1 + 1) (get_or t.kinds (i + 1) 0) c j u.1 (ltb-true _ _ r) in
      (w.0, w.1, subst (λ n. TermsAt t n (get_or t.operands (i + 1) 0) (i + 1 + 1) w.0 j) s.known w.2, u.0.inside)

  -- the place after it: `atom` is where its ATOM stands
  pub change_ends : (atom : ℕ) → ((get_or t.kinds i 0 ≡ 4) × (atom ≡ i + 1)) ⊎ ((get_or t.kinds i 0 ≡ 2) × (atom ≡ i)) → atom + 1 + arity t (get_or t.operands atom 0) ≡ j
  change_ends atom h =
      ⊎_elim
      (λ x. let w = at_delete x.0 in ap (λ n. n + 1 + arity t (get_or t.operands n 0)) x.1 ∙ sym (after_terms w.2))
      (λ x. let w = at_add x.0 in ap (λ n. n + 1 + arity t (get_or t.operands n 0)) x.1 ∙ sym (after_terms w.2))
      h

  -- what does not begin with NOT begins with ATOM
  pub not_deleted : (get_or t.kinds i 0 ≡ 4 → ⊥) → get_or t.kinds i 0 ≡ 2
  not_deleted h = ⊎_elim (λ q. q) (λ q. absurd (h q)) change_kind

  -- its atom, by whether it is added and where its ATOM stands
  pub change_parts : (adds : Bool) (start : ℕ)
      → ((get_or t.kinds i 0 ≡ 4) × (adds ≡ false)) ⊎ ((get_or t.kinds i 0 ≡ 4 → ⊥) × (adds ≡ true))
      → ((adds ≡ true) × (start ≡ i)) ⊎ ((adds ≡ false) × (start ≡ i + 1))
      → (ts : List Term) × (c ≡ record { adds = adds; predicate = get_or t.operands start 0; terms = ts }) × TermsAt t v (get_or t.operands start 0) (start + 1) ts j
  change_parts adds start (inl a) (inl b) = absurd (true≢false (sym b.0 ∙ a.1))
  change_parts adds start (inl a) (inr b) = parts_from adds start false (i + 1) a.1 b.1 (let w = at_delete a.0 in (w.0, w.1, w.2))
  change_parts adds start (inr a) (inl b) = parts_from adds start true i a.1 b.1 (at_add (not_deleted a.0))
  change_parts adds start (inr a) (inr b) = absurd (true≢false (sym a.1 ∙ b.0))

-- Consequents.

consequent_opened : (t : Table) (room : ℕ) (a : Around) (i : ℕ) (c : Consequent) (j : ℕ) → consequent t room a i ≡ good c j
    → Headed t place.Consequent a i × ((r : ℕ) × (consequent_by t (consequent t r a) a (entry_at t i) (i + 1) ≡ good c j))
unfolding consequent
consequent_opened t zero a i c j e = let w = on_from t place.Consequent a i (λ e j. bad 6 i) c j e in bad_is_not_good 6 i c j w.1
consequent_opened t (suc r) a i c j e = let w = on_from t place.Consequent a i (λ e k. consequent_by t (consequent t r a) a e k) c j e in (w.0, (r, w.1))

consequent_parts_go_on : (t : Table) (read : ℕ → Out Consequent) → ((i : ℕ) (c : Consequent) (j : ℕ) → read i ≡ good c j → i < j)
    → (a : Around) (e : Entry) (j : ℕ) (c : Consequent) (l : ℕ) → consequent_by t read a e j ≡ good c l → j ≤ l
consequent_parts_go_on t read h a e j c l q = by_kind (eqb e.kind 5) q
  where
    by_kind : (is_and : Bool) →
        cond is_and (then (many read e.operand j) λ cs k. good (outcomes (consequents_of cs)) k)
        (then (change_by t a e j) λ c k. good (outcome c) k) ≡ good c l → j ≤ l
    by_kind true x =
        let w = first_step (many read e.operand j) (λ cs k. good (outcomes (consequents_of cs)) k) c l x in
        omega (arith, items_go_on read h e.operand j w.0 w.1 w.2, last (outcomes (consequents_of w.0)) c w.1 l w.3)
    by_kind false x =
        let w = first_step (change_by t a e j) (λ c k. good (outcome c) k) c l x in
        omega (arith, change_goes_on t a e j w.0 w.1 w.2, last (outcome w.0) c w.1 l w.3)

-- a consequent has at least one entry
pub consequent_goes_on : (t : Table) (room : ℕ) (a : Around) (i : ℕ) (c : Consequent) (j : ℕ) → consequent t room a i ≡ good c j → i < j
unfolding consequent
consequent_goes_on t zero a i c j e = let w = on_from t place.Consequent a i (λ e j. bad 6 i) c j e in bad_is_not_good 6 i c j w.1
consequent_goes_on t (suc r) a i c j e =
    let w = on_from t place.Consequent a i (λ e k. consequent_by t (consequent t r a) a e k) c j e in
    omega (arith, consequent_parts_go_on t (consequent t r a) (consequent_goes_on t r a) a (entry_at t i) (i + 1) c j w.1)

module _ {t : Table} {v i : ℕ} {c : Consequent} {j : ℕ} (s : ConsequentAt t v i c j) where
  consequent_facts : Headed t place.Consequent s.around i × ((r : ℕ) × (consequent_by t (consequent t r s.around) s.around (entry_at t i) (i + 1) ≡ good c j))
  consequent_facts = consequent_opened t s.room s.around i c j s.reads

  pub consequent_begins : i < t.entries
  consequent_begins = consequent_facts.0.inside

  pub consequent_kind : get_or t.kinds i 0 < 22
  consequent_kind = small_effect_kind _ (consequent_in_effect (get_or t.kinds i 0) consequent_facts.0.permits)

  pub consequent_ends_after : i < j
  consequent_ends_after = consequent_goes_on t s.room s.around i c j s.reads

  -- AND
  pub at_outcomes : get_or t.kinds i 0 ≡ 5 → (cs : List Consequent) × (c ≡ outcomes (consequents_of cs)) × ConsequentsAt t v (i + 1) (get_or t.operands i 0) cs j
  at_outcomes e =
      let f = consequent_facts.1 in
      let read = consequent t f.0 s.around in
      let o = get_or t.operands i 0 in
      let h = ap (λ n. consequent_by t read s.around (entry n o) (i + 1)) (sym e) ∙ f.1 in
      let w = first_step (many read o (i + 1)) (λ cs k. good (outcomes (consequents_of cs)) k) c j h in
      let r = read_as (outcomes (consequents_of w.0)) c w.1 j w.3 in
      (w.0, r.0, record { room = f.0; around = s.around; reads = w.2 ∙ ap (good w.0) r.1; known = s.known })

  -- an atom, plain or under NOT
  pub at_outcome : (get_or t.kinds i 0 ≡ 5 → ⊥) → (d : Change) × (c ≡ outcome d) × ChangeAt t v i d j
  at_outcome e =
      let f = consequent_facts.1 in
      let h = consequent_facts.0 in
      let read = consequent t f.0 s.around in
      let b = cond-false (eqb (get_or t.kinds i 0) 5) (then (many read (get_or t.operands i 0) (i + 1)) λ cs k. good (outcomes (consequents_of cs)) k) (then (change_by t s.around (entry_at t i) (i + 1)) λ c k. good (outcome c) k) (ne_eqb _ _ e) in
      let w = first_step (change_by t s.around (entry_at t i) (i + 1)) (λ c k. good (outcome c) k) c j (sym b ∙ f.1) in
      let r = read_as (outcome w.0) c w.1 j w.3 in (
        w.0,
        r.0,
        change_stands t v s.around i w.0 j s.known
            (record { inside = h.inside; permits = consequent_in_effect (get_or t.kinds i 0) h.permits; bounded = h.bounded; ranged = h.ranged })
            (plain_consequent_kind (get_or t.kinds i 0) h.permits e) (w.2 ∙ ap (good w.0) r.1),
      )

module _ {t : Table} {v i m : ℕ} {cs : List Consequent} {j : ℕ} (s : ConsequentsAt t v i m cs j) where
  pub no_consequent : m ≡ 0 → (cs ≡ []) × (j ≡ i)
  no_consequent h = none_read (consequent t s.room s.around) m i cs j h s.reads

  pub first_consequent : (n : ℕ) → m ≡ n + 1 → (c : Consequent) × (k : ℕ) × (ds : List Consequent) × (cs ≡ c ∷ ds) × ConsequentAt t v i c k × ConsequentsAt t v k n ds j
  first_consequent n h =
      let e : suc n ≡ m = omega arith in
      let read = consequent t s.room s.around in
      let w = first_read read n i cs j (ap (λ x. many read x i) e ∙ s.reads) in (
        w.0,
        w.1,
        w.2,
        w.5,
        record { room = s.room; around = s.around; reads = w.3; known = s.known },
        record { room = s.room; around = s.around; reads = w.4; known = s.known },
      )

-- Effects.

effect_opened : (t : Table) (room : ℕ) (a : Around) (i : ℕ) (e : Effect) (j : ℕ) → effect t room a i ≡ good e j
    → Headed t place.Effect a i × ((r : ℕ) × (effect_by t (effect t r) a (entry_at t i) (i + 1) ≡ good e j))
unfolding effect
effect_opened t zero a i f j e = let w = on_from t place.Effect a i (λ e j. bad 6 i) f j e in bad_is_not_good 6 i f j w.1
effect_opened t (suc r) a i f j e = let w = on_from t place.Effect a i (λ e k. effect_by t (effect t r) a e k) f j e in (w.0, (r, w.1))

effect_parts_go_on : (t : Table) (read : Around → ℕ → Out Effect) → ((a : Around) (i : ℕ) (f : Effect) (j : ℕ) → read a i ≡ good f j → i < j)
    → (a : Around) (e : Entry) (j : ℕ) (f : Effect) (l : ℕ) → effect_by t read a e j ≡ good f l → j ≤ l
effect_parts_go_on t read h a e j f l q = by_kind (eqb e.kind 5) (eqb e.kind 8) (eqb e.kind 12) q
  where
    by_kind : (is_and is_forall is_when : Bool) →
        cond is_and (then (many (read a) e.operand j) λ es k. good (conjunction (effects_of es)) k)
        (cond is_forall (then (read (deeper a) j) λ f k. good (for_each e.operand f) k)
        (cond is_when (then (formula t most_entries a j) λ f k. then (consequent t most_entries a k) λ c l. good (when f c) l)
        (then (change_by t a e j) λ c k. good (change c) k))) ≡ good f l → j ≤ l
    by_kind true is_forall is_when x =
        let w = first_step (many (read a) e.operand j) (λ es k. good (conjunction (effects_of es)) k) f l x in
        omega (arith, items_go_on (read a) (h a) e.operand j w.0 w.1 w.2, last (conjunction (effects_of w.0)) f w.1 l w.3)
    by_kind false true is_when x =
        let w = first_step (read (deeper a) j) (λ f k. good (for_each e.operand f) k) f l x in
        omega (arith, h (deeper a) j w.0 w.1 w.2, last (for_each e.operand w.0) f w.1 l w.3)
    by_kind false false true x =
        let w = first_step (formula t most_entries a j) (λ f k. then (consequent t most_entries a k) λ c l. good (when f c) l) f l x in
        let u = first_step (consequent t most_entries a w.1) (λ c l. good (when w.0 c) l) f l w.3 in
        omega (arith, goes_on t most_entries a j w.0 w.1 w.2, consequent_goes_on t most_entries a w.1 u.0 u.1 u.2, last (when w.0 u.0) f u.1 l u.3)
    by_kind false false false x =
        let w = first_step (change_by t a e j) (λ c k. good (change c) k) f l x in
        omega (arith, change_goes_on t a e j w.0 w.1 w.2, last (change w.0) f w.1 l w.3)

-- an effect has at least one entry
pub effect_goes_on : (t : Table) (room : ℕ) (a : Around) (i : ℕ) (e : Effect) (j : ℕ) → effect t room a i ≡ good e j → i < j
unfolding effect
effect_goes_on t zero a i f j e = let w = on_from t place.Effect a i (λ e j. bad 6 i) f j e in bad_is_not_good 6 i f j w.1
effect_goes_on t (suc r) a i f j e =
    let w = on_from t place.Effect a i (λ e k. effect_by t (effect t r) a e k) f j e in
    omega (arith, effect_parts_go_on t (effect t r) (effect_goes_on t r) a (entry_at t i) (i + 1) f j w.1)

module _ {t : Table} {v i : ℕ} {e : Effect} {j : ℕ} (s : EffectAt t v i e j) where
  effect_facts : Headed t place.Effect s.around i × ((r : ℕ) × (effect_by t (effect t r) s.around (entry_at t i) (i + 1) ≡ good e j))
  effect_facts = effect_opened t s.room s.around i e j s.reads

  pub effect_begins : i < t.entries
  effect_begins = effect_facts.0.inside

  pub effect_kind : get_or t.kinds i 0 < 22
  effect_kind = small_effect_kind (get_or t.kinds i 0) effect_facts.0.permits

  pub effect_ends_after : i < j
  effect_ends_after = effect_goes_on t s.room s.around i e j s.reads

  -- after the first entry, whose kind is k
  effect_rest : (k : ℕ) → get_or t.kinds i 0 ≡ k → (r : ℕ) × (effect_by t (effect t r) s.around (entry k (get_or t.operands i 0)) (i + 1) ≡ good e j)
  effect_rest k q =
      let w = effect_facts.1 in
      (w.0, ap (λ n. effect_by t (effect t w.0) s.around (entry n (get_or t.operands i 0)) (i + 1)) (sym q) ∙ w.1)

  -- AND
  pub at_conjunction : get_or t.kinds i 0 ≡ 5 → (es : List Effect) × (e ≡ conjunction (effects_of es)) × EffectsAt t v (i + 1) (get_or t.operands i 0) es j
  at_conjunction q =
      let h = effect_rest 5 q in
      let o = get_or t.operands i 0 in
      let w = first_step (many (effect t h.0 s.around) o (i + 1)) (λ es k. good (conjunction (effects_of es)) k) e j h.1 in
      let r = read_as (conjunction (effects_of w.0)) e w.1 j w.3 in
      (w.0, r.0, record { room = h.0; around = s.around; reads = w.2 ∙ ap (good w.0) r.1; known = s.known; few = s.few })

  -- FORALL names a type, and its variable still has a place
  pub at_for_each : get_or t.kinds i 0 ≡ 8
      → (f : Effect) × (e ≡ for_each (get_or t.operands i 0) f) × EffectAt t (v + 1) (i + 1) f j × (get_or t.operands i 0 < t.types) × (v < 7)
  at_for_each q =
      let h = effect_rest 8 q in
      let o = get_or t.operands i 0 in
      let w = first_step (effect t h.0 (deeper s.around) (i + 1)) (λ f k. good (for_each o f) k) e j h.1 in
      let r = read_as (for_each o w.0) e w.1 j w.3 in
      let b = ap (λ n. within_bounds s.around i (entry n o)) (sym q) ∙ effect_facts.0.bounded in
      let c = ap (λ n. in_range t s.around (entry n o)) (sym q) ∙ effect_facts.0.ranged in
      let d = and_parts (ltb (i - s.around.start) 256) (ltb s.around.quantifiers 3) b in (
        w.0,
        r.0,
        record { room = h.0; around = deeper s.around; reads = w.2 ∙ ap (good w.0) r.1; known = ap (λ n. n + 1) s.known; few = omega (arith, s.few) },
        ltb-true _ _ c,
        omega (arith, ltb-true s.around.quantifiers 3 d.1, s.few),
      )

  -- WHEN
  pub at_when : get_or t.kinds i 0 ≡ 12
      → (f : Formula) × (c : Consequent) × (k : ℕ) × (e ≡ when f c) × FormulaAt t v (i + 1) f k × ConsequentAt t v k c j
  at_when q =
      let h = effect_rest 12 q in
      let w = first_step (formula t most_entries s.around (i + 1)) (λ f k. then (consequent t most_entries s.around k) λ c l. good (when f c) l) e j h.1 in
      let u = first_step (consequent t most_entries s.around w.1) (λ c l. good (when w.0 c) l) e j w.3 in
      let r = read_as (when w.0 u.0) e u.1 j u.3 in (
        w.0,
        u.0,
        w.1,
        r.0,
        record { room = most_entries; around = s.around; reads = w.2; known = s.known; few = s.few },
        record { room = most_entries; around = s.around; reads = u.2 ∙ ap (good u.0) r.1; known = s.known },
      )

  -- an atom, plain or under NOT
  pub at_change : (get_or t.kinds i 0 ≡ 5 → ⊥) → (get_or t.kinds i 0 ≡ 8 → ⊥) → (get_or t.kinds i 0 ≡ 12 → ⊥) → (c : Change) × (e ≡ change c) × ChangeAt t v i c j
  at_change x y z =
      let k = get_or t.kinds i 0 in
      let f = effect_facts.1 in
      let h = effect_facts.0 in
      let b = cond-false (eqb k 5) _ _ (ne_eqb _ _ x) ∙ cond-false (eqb k 8) _ _ (ne_eqb _ _ y) ∙ cond-false (eqb k 12) _ _ (ne_eqb _ _ z) in
      let w = first_step (change_by t s.around (entry_at t i) (i + 1)) (λ c k. good (change c) k) e j (sym b ∙ f.1) in
      let r = read_as (change w.0) e w.1 j w.3 in
      (w.0, r.0, change_stands t v s.around i w.0 j s.known h (plain_effect_kind k h.permits x y z) (w.2 ∙ ap (good w.0) r.1))

module _ {t : Table} {v i m : ℕ} {es : List Effect} {j : ℕ} (s : EffectsAt t v i m es j) where
  pub no_effect_left : m ≡ 0 → (es ≡ []) × (j ≡ i)
  no_effect_left h = none_read (effect t s.room s.around) m i es j h s.reads

  pub first_effect : (n : ℕ) → m ≡ n + 1 → (e : Effect) × (k : ℕ) × (fs : List Effect) × (es ≡ e ∷ fs) × EffectAt t v i e k × EffectsAt t v k n fs j
  first_effect n h =
      let e : suc n ≡ m = omega arith in
      let read = effect t s.room s.around in
      let w = first_read read n i es j (ap (λ x. many read x i) e ∙ s.reads) in (
        w.0,
        w.1,
        w.2,
        w.5,
        record { room = s.room; around = s.around; reads = w.3; known = s.known; few = s.few },
        record { room = s.room; around = s.around; reads = w.4; known = s.known; few = s.few },
      )
