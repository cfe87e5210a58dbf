-- Verdicts of the first atoms, appended one by one, and the rounds that they tell.
use Rattle.std.proofs.Common.{◌≡◌, ℕ, zero, suc, ◌+◌, ◌-◌, ◌^◌, ◌<◌, ◌≤◌, Bool, true, false, cond, not, eqb, List, [], ◌∷◌, ◌++◌, map, length, get_or, take, sym, refl, ap, ◌∙◌, subst, ap₂, inl, inr, ⊎_elim, add-one, arith}
use Rattle.std.proofs.lemmas.List.{map-append, length-map, length-append, get_or-map, get_or_append_left, get_or_push, get_or_past}
use Rattle.std.proofs.lemmas.Bool.{eqb-true, ne_eqb, eq-eqb, lt-ltb, le-ltb, and_parts, false_from_ne_true, cases_lt, cases_eq}
use mathlib.Core.Bool.{beq}
use mir.Val.{bool_byte}
use Rattle.model.specs.Lists.{In, below, keep, any_of, position}
use Rattle.model.specs.Trees.{changes_in, all_changes, outcomes_of, Change, Effect, change, conjunction, for_each, when, Effects, no_effect, and, Operator, Task, atoms, atoms_of, predicate_of}
use Rattle.model.specs.Meaning.{is_fact}
use Rattle.model.specs.Settling as model
use Rattle.model.specs.Settling.{settle, known, touches, inertia, can_change_one, round_one, can_change_two, verdict_two, is_unsettled, relevant, round_two}
use Rattle.model.specs.Forming.{KnownChange, KnownEffect, KnownEffects, KnownOperator, WellFormed}
use Rattle.model.proofs.Values.{taken, passed}
use Rattle.model.proofs.Members.{any_out, each_in, in_append, in_keep, keep_out, in_below, below_out}
use Rattle.model.proofs.Within.{steps_stay_within}
use Rattle.model.proofs.Reaching.{can_change_known}
use Rattle.runs.specs.declared.verdict.Verdict.{Verdict}
use Rattle.runs.specs.declared.verdict.Verdict.TheVariants.{Always}
use Rattle.runs.specs.Settled.{meaning, fact_in, at, round_of}
use Rattle.book_of_task.specs.Becoming.{SameBecoming}
use Rattle.instantiate.specs.Verdicts.{judged, told_one}

-- Lists of verdicts.

-- one more verdict
pub one_more : (f : ℕ → Verdict) (n m : ℕ) (vs ws : List Verdict) (v : Verdict) → m ≡ n + 1 → ws ≡ vs ++ (v ∷ []) → vs ≡ map f (below n) → v ≡ f n → ws ≡ map f (below m)
unfolding below
one_more f n m vs ws v h g e q =
    g ∙ ap₂ (λ xs x. xs ++ (x ∷ [])) e q ∙ sym (map-append f (below n) (n ∷ [])) ∙ ap (λ x. map f (below x)) (sym (h ∙ add-one n))

-- none yet
pub told_none : (f : ℕ → Verdict) → ◌≡◌ {A = List Verdict} [] (map f (below 0))
unfolding below
told_none f = refl

-- as many, told by another number
pub told_to : (f : ℕ → Verdict) (n m : ℕ) (vs : List Verdict) → n ≡ m → vs ≡ map f (below n) → vs ≡ map f (below m)
told_to f n m vs h e = e ∙ ap (λ x. map f (below x)) h

pub below_length : (n : ℕ) → length (below n) ≡ n
unfolding below
below_length zero = refl
below_length (suc n) = omega (arith, length-append (below n) (n ∷ []), below_length n)

pub below_at : (n k : ℕ) → k < n → get_or (below n) k 0 ≡ k
unfolding below
below_at zero k h = absurd (omega arith)
below_at (suc n) k h =
    ⊎_elim
    (λ e. get_or_push (below n) n 0 k (below_length n ∙ sym e) ∙ sym e)
    (λ ne. let l : k < n = omega arith in get_or_append_left (below n) (n ∷ []) 0 k (omega (arith, l, below_length n)) ∙ below_at n k l)
    (cases_eq k n)

-- the verdict of an atom among them
at_told : (f : ℕ → Verdict) (n k : ℕ) → k < n → at (map f (below n)) k ≡ f k
at_told f n k h = get_or-map f (below n) k 0 (Always false) (omega (arith, below_length n)) ∙ ap f (below_at n k h)

past_told : (f : ℕ → Verdict) (n k : ℕ) → n ≤ k → at (map f (below n)) k ≡ Always false
past_told f n k h = get_or_past (map f (below n)) k (Always false) (omega (arith, below_length n, length-map (below n) f))

-- what an atom becomes by a verdict of the code
abbrev becomes : Verdict → model.Ground
becomes v = settle (meaning v) (fact_in v)

judged_becomes : (b c : Bool) (j i : ℕ) → (c ≡ true → j ≡ i) → becomes (judged b c j) ≡ settle (model.judged b c) i
judged_becomes b true j i h = ap model.fact (h refl)
judged_becomes b false j i h = refl

never_becomes : (b c : Bool) (i : ℕ) → b ≡ false → c ≡ false → known false ≡ settle (model.judged b c) i
never_becomes b c i e h = ap₂ (λ x y. settle (model.judged x y) i) (sym e) (sym h)

-- the verdicts of all atoms tell a round in which nothing else is true or can change
rounds_agree : (t : Task) (can : ℕ → Bool) (j i : ℕ → ℕ) (vs : List Verdict) → vs ≡ map (λ k. judged (is_fact t k) (can k) (j k)) (below (atoms t))
    → ((k : ℕ) → k < atoms t → can k ≡ true → j k ≡ i k)
    → ((k : ℕ) → atoms t ≤ k → (is_fact t k ≡ false) × (can k ≡ false))
    → SameBecoming (round_of vs) (record { verdict = λ k. model.judged (is_fact t k) (can k); fact_of = i })
rounds_agree t can j i vs e inside outside k =
    let f : ℕ → Verdict = λ x. judged (is_fact t x) (can x) (j x) in
    ap (λ xs. becomes (at xs k)) e
    ∙ ⊎_elim
    (λ h. ap becomes (at_told f (atoms t) k h) ∙ judged_becomes (is_fact t k) (can k) (j k) (i k) (inside k h))
    (λ h. let w = outside k h in ap becomes (past_told f (atoms t) k h) ∙ never_becomes (is_fact t k) (can k) (i k) w.0 w.1)
    (cases_lt k (atoms t))

-- Relevant atoms.

keep_append : (p : ℕ → Bool) (xs ys : List ℕ) → keep p (xs ++ ys) ≡ keep p xs ++ keep p ys
keep_append p [] ys = refl
keep_append p (x ∷ xs) ys = go (p x) (keep_append p xs ys)
  where
    go : (b : Bool) → keep p (xs ++ ys) ≡ keep p xs ++ keep p ys → cond b (x ∷ keep p (xs ++ ys)) (keep p (xs ++ ys)) ≡ cond b (x ∷ keep p xs) (keep p xs) ++ keep p ys
    go true e = ap (λ zs. x ∷ zs) e
    go false e = e

kept_suc : (p : ℕ → Bool) (n : ℕ) → keep p (below (suc n)) ≡ keep p (below n) ++ cond (p n) (n ∷ []) []
unfolding below
kept_suc p n = keep_append p (below n) (n ∷ [])

-- one more atom that is relevant, or is not
pub count_more : (p : ℕ → Bool) (n m c : ℕ) (b : Bool) → m ≡ n + 1 → c ≡ length (keep p (below n)) → b ≡ p n → c + cond b 1 0 ≡ length (keep p (below m))
count_more p n m c b h e q =
    ap₂ (λ x y. x + cond y 1 0) e q ∙ one (p n) ∙ sym (length-append (keep p (below n)) (cond (p n) (n ∷ []) []))
    ∙ sym (ap (λ x. length (keep p (below x))) (h ∙ add-one n) ∙ ap length (kept_suc p n))
  where
    one : (d : Bool) → length (keep p (below n)) + cond d 1 0 ≡ length (keep p (below n)) + length (cond d (n ∷ []) [])
    one true = refl
    one false = refl

-- a truth as a number
pub byte_is : (b : Bool) → bool_byte b ≡ cond b 1 0
byte_is true = refl
byte_is false = refl

pub none_relevant : (p : ℕ → Bool) → 0 ≡ length (keep p (below 0))
unfolding below
none_relevant p = refl

keep_few : (p : ℕ → Bool) (xs : List ℕ) → length (keep p xs) ≤ length xs
keep_few p [] = omega arith
keep_few p (x ∷ xs) = go (p x) (keep_few p xs)
  where
    go : (b : Bool) → length (keep p xs) ≤ length xs → length (cond b (x ∷ keep p xs) (keep p xs)) ≤ suc (length xs)
    go true h = omega arith
    go false h = omega arith

-- at most as many as there are atoms
pub few_relevant : (p : ℕ → Bool) (n : ℕ) → length (keep p (below n)) ≤ n
few_relevant p n = omega (arith, keep_few p (below n), below_length n)

position_left : (k : ℕ) (xs ys : List ℕ) → In k xs → position k (xs ++ ys) ≡ position k xs
position_left k [] ys h = absurd h
position_left k (x ∷ xs) ys (inl e) = let q = eq-eqb k x e in taken (eqb k x) _ _ q ∙ sym (taken (eqb k x) _ _ q)
position_left k (x ∷ xs) ys (inr h) = ap (λ m. cond (eqb k x) 0 (suc m)) (position_left k xs ys h)

position_right : (k : ℕ) (xs ys : List ℕ) → (In k xs → ⊥) → position k (xs ++ ys) ≡ length xs + position k ys
position_right k [] ys h = omega arith
position_right k (x ∷ xs) ys h = passed (eqb k x) _ _ (ne_eqb k x (λ e. h (inl e))) ∙ (let z = position_right k xs ys (λ i. h (inr i)) in let q : suc (position k (xs ++ ys)) ≡ suc (length xs) + position k ys = omega arith in q)

-- a relevant atom stands after those below it
position_is : (p : ℕ → Bool) (n k : ℕ) → k < n → p k ≡ true → position k (keep p (below n)) ≡ length (keep p (below k))
position_is p zero k h e = absurd (omega arith)
position_is p (suc n) k h e =
    ap (position k) (kept_suc p n)
    ∙ ⊎_elim
    (λ q. position_right k (keep p (below n)) (cond (p n) (n ∷ []) []) (λ i. let l = below_out k n (keep_out p k (below n) i).0 in omega arith)
    ∙ ap (λ x. length (keep p (below n)) + x) (ap (position k) (taken (p n) (n ∷ []) [] (ap p (sym q) ∙ e)) ∙ taken (eqb k n) 0 1 (eq-eqb k n q))
    ∙ (let z : length (keep p (below n)) + 0 ≡ length (keep p (below n)) = omega arith in z)
    ∙ ap (λ x. length (keep p (below x))) (sym q))
    (λ q. let l : k < n = omega arith in position_left k (keep p (below n)) (cond (p n) (n ∷ []) []) (in_keep p k (below n) (in_below k n l) e) ∙ position_is p n k l e)
    (cases_eq k n)

open_is : (b c : Bool) → is_unsettled (model.judged b c) ≡ c
open_is b true = refl
open_is b false = refl

-- Predicates.

-- the atoms of a predicate tell it
pub predicate_told : (n : ℕ) (ks : List ℕ) (p i : ℕ) → p < length ks → i < n ^ get_or ks p 0 → predicate_of n ks (atoms_of n (take p ks) + i) ≡ p
predicate_told n [] p i h l = absurd (omega arith)
predicate_told n (a ∷ ks) zero i h l = taken _ _ _ (lt-ltb (0 + i) (n ^ a) (omega arith))
predicate_told n (a ∷ ks) (suc p) i h l =
    let x = atoms_of n (take p ks) in
    let e : n ^ a + x + i - n ^ a ≡ x + i = omega arith in
    passed _ _ _ (le-ltb (n ^ a + x + i) (n ^ a) (omega arith)) ∙ ap (λ m. suc (predicate_of n ks m)) e ∙ ap suc (predicate_told n ks p i (omega arith) l)

-- a number past the atoms tells no predicate
no_predicate : (n : ℕ) (ks : List ℕ) (k : ℕ) → atoms_of n ks ≤ k → predicate_of n ks k ≡ length ks
no_predicate n [] k h = refl
no_predicate n (a ∷ ks) k h = passed _ _ _ (le-ltb k (n ^ a) (omega arith)) ∙ ap suc (no_predicate n ks (k - n ^ a) (omega arith))

module _ (t : Task) where
  mutual
    touched_known : (v : ℕ) (e : Effect) → KnownEffect t v e → (c : Change) → In c (changes_in e) → c.predicate < length t.arities
    touched_known v (change d) k c (inl e) = subst (λ x. x.predicate < length t.arities) (sym e) k.predicate
    touched_known v (change d) k c (inr z) = absurd z
    touched_known v (conjunction es) k c i = all_touched_known v es k c i
    touched_known v (for_each ty e) k c i = touched_known (v + 1) e k.1 c i
    touched_known v (when f d) k c i = (each_in (KnownChange t v) c (outcomes_of d) k.1 i).predicate

    all_touched_known : (v : ℕ) (es : Effects) → KnownEffects t v es → (c : Change) → In c (all_changes es) → c.predicate < length t.arities
    all_touched_known v no_effect k c i = absurd i
    all_touched_known v (and e es) k c i =
        ⊎_elim (touched_known v e k.0 c) (all_touched_known v es k.1 c) (in_append c (changes_in e) (all_changes es) i)

  module _ (formed : WellFormed t) where
    -- no effect touches what is no predicate
    untouched : (b : Bool) (p : ℕ) → length t.arities ≤ p → any_of (λ a. any_of (touches b p) (changes_in a.effect)) t.operators ≡ false
    untouched b p h = false_from_ne_true _ (λ e.
        let w = any_out (λ (a : Operator). any_of (touches b p) (changes_in a.effect)) t.operators e in
        let u = any_out (touches b p) (changes_in w.0.effect) w.2 in
        let l = touched_known (length w.0.parameters) w.0.effect (each_in (KnownOperator t) w.0 t.operators formed.operators w.1).effect u.0 u.1 in
        let q = eqb-true p u.0.predicate (and_parts (beq b u.0.adds) (eqb p u.0.predicate) u.2).1 in
        omega arith)

    no_fact : (k : ℕ) → atoms t ≤ k → is_fact t k ≡ false
    no_fact k h = false_from_ne_true _ (λ e. let l = (steps_stay_within t formed).true_within [] tt k e in omega arith)

    -- the verdicts of round one
    pub same_one : (vs : List Verdict) → vs ≡ map (told_one t) (below (atoms t)) → SameBecoming (round_of vs) (round_one t)
    same_one vs e = rounds_agree t (can_change_one t) (λ k. k) (λ k. k) vs e (λ k h q. refl)
        (λ k h. (no_fact k h, ap (λ x. not (not x)) (untouched (not (is_fact t k)) (predicate_of t.objects t.arities k) (omega (arith, no_predicate t.objects t.arities k h)))))

  -- in round one an atom can change if its predicate is touched so
  pub by_predicate : (p k : ℕ) (is_true added deleted can : Bool) → predicate_of t.objects t.arities k ≡ p → is_true ≡ is_fact t k
      → added ≡ not (inertia t true p) → deleted ≡ not (inertia t false p) → can ≡ cond is_true deleted added → judged is_true can k ≡ told_one t k
  by_predicate p k is_true added deleted can e f a d q =
      ap₂ (λ x y. judged x y k) f
      (q ∙ ap₂ (cond is_true) d a ∙ turned is_true ∙ ap₂ (λ b r. not (inertia t (not b) r)) f (sym e))
    where
      turned : (b : Bool) → cond b (not (inertia t false p)) (not (inertia t true p)) ≡ not (inertia t (not b) p)
      turned true = refl
      turned false = refl

  -- the atoms that can change in round two
  abbrev pub opens : ℕ → Bool
  opens k = is_unsettled (verdict_two t k)

  pub opens_is : (k : ℕ) (b : Bool) → b ≡ can_change_two t k → b ≡ opens k
  opens_is k b e = e ∙ sym (open_is (is_fact t k) (can_change_two t k))

  -- the verdict of an atom in round two, where a fact is told by how many are relevant below it
  abbrev pub told_two : ℕ → Verdict
  told_two k = judged (is_fact t k) (can_change_two t k) (length (keep opens (below k)))

  -- the verdicts of round two
  pub same_two : WellFormed t → (vs : List Verdict) → vs ≡ map told_two (below (atoms t)) → SameBecoming (round_of vs) (round_two t)
  same_two formed vs e = rounds_agree t (can_change_two t) (λ k. length (keep opens (below k))) (λ k. position k (relevant t)) vs e
      (λ k h q. sym (position_is opens (atoms t) k h (sym (opens_is k true (sym q)))))
      (λ k h. (no_fact formed k h, false_from_ne_true (can_change_two t k) (λ q. let l = (can_change_known t formed k q).0 in omega arith)))
