-- How many literals an effect has.
use Rattle.std.proofs.Common.{◌≡◌, ℕ, zero, suc, ◌+◌, ◌-◌, ◌*◌, ◌^◌, ◌<◌, ◌≤◌, Bool, true, false, cond, eqb, ltb, List, [], ◌∷◌, ◌++◌, length, get_or, sym, refl, ap, ◌∙◌, mul-le-mul_right, suc-mul, add-mul, mul-le-mul, le-mul_of_pos_right, mul_left_comm, arith}
use Rattle.std.proofs.Math.Nat.{pow-succ', one-le-pow, pow-le-pow_right}
use Rattle.std.proofs.lemmas.List.{append-nil, length-append, length-map}
use Rattle.std.proofs.lemmas.Bool.{ltb-true, eqb-true, and_parts}
use Rattle.table.specs.declared.places.Place.TheVariants as place
use Rattle.table.specs.Reading.{Entry, entry, Out, bad, good, then, many}
use Rattle.model.specs.Lists.{below, keep, gather}
use Rattle.model.specs.Meaning.{State, Part, value, bind, ground, parts, all_parts}
use Rattle.model.specs.Trees.{Task, Formula, Consequent, outcome, outcomes, outcomes_of, all_outcomes, Effect, change, conjunction, for_each, when, in_set, members}
use Rattle.adl.specs.Tables.{Table, Around, entry_at, most_entries, deeper, within_bounds}
use Rattle.adl.specs.Reads.{formula, change_by, consequents_of, consequent_by, consequent, effects_of, effect_by, effect}
use Rattle.runs.specs.Effects.{consequent_literals, effect_literals, effects_literals, EffectAt}
use Rattle.adl_theorems.proofs.Entries.{Headed, on_from, none_read, first_read, goes_on}
use Rattle.table.proofs.Reading.{bad_is_not_good, first_step}
use Rattle.adl_theorems.proofs.Inside.{inside_at, inside_effect}
use Rattle.runs.proofs.EffectShapes.{read_as, consequent_goes_on, effect_goes_on}
use Rattle.runs.proofs.Walks.{gather_append, gather_gather}

-- Lengths.

cond_length : {A : Type 0} (b : Bool) (ls : List A) → length (cond b ls [] ++ []) ≤ length ls
cond_length true ls = omega (arith, ap length (append-nil ls))
cond_length false ls = omega arith

keep_length : (p : ℕ → Bool) (xs : List ℕ) → length (keep p xs) ≤ length xs
keep_length p [] = omega arith
keep_length p (x ∷ xs) = go (p x) (keep_length p xs)
  where
    go : (b : Bool) → length (keep p xs) ≤ length xs → length (cond b (x ∷ keep p xs) (keep p xs)) ≤ suc (length xs)
    go true h = omega arith
    go false h = omega arith

pub below_length : (n : ℕ) → length (below n) ≡ n
unfolding below
below_length zero = refl
below_length (suc n) = omega (arith, length-append (below n) (n ∷ []), below_length n)

gather_length : {A B : Type 0} (F : A → List B) (b : ℕ) (xs : List A) → ((x : A) → length (F x) ≤ b) → length (gather F xs) ≤ length xs * b
gather_length F b [] h = omega arith
gather_length F b (x ∷ xs) h = omega (arith, gather_length F b xs h, h x, length-append (F x) (gather F xs), suc-mul (length xs) b)

-- a type has at most as many members as there are objects
members_length : (T : Task) (ty : ℕ) → length (members T ty) ≤ T.objects
members_length T ty = omega (arith, keep_length (in_set (get_or T.types ty 0)) (below T.objects), below_length T.objects)

-- Quantifiers.

-- how often an effect may come where q quantifiers stand around it: 32 times for each that may still come
unfoldable pub copies : ℕ → ℕ
copies q = 32 ^ (3 - q)

copies_step : (q : ℕ) → q < 3 → copies q ≡ 32 * copies (q + 1)
unfolding copies
copies_step q h = ap (λ (k : ℕ). 32 ^ k) (let e : 3 - q ≡ suc (3 - (q + 1)) = omega arith in e) ∙ pow-succ' 32 (3 - (q + 1))

copies_pos : (q : ℕ) → 0 < copies q
unfolding copies
copies_pos q = one-le-pow (3 - q) 32 (omega arith)

copies_most : (q : ℕ) → copies q ≤ 32768
unfolding copies
copies_most q = let h : 3 - q ≤ 3 = omega arith in let z : 0 < 32 = omega arith in pow-le-pow_right z h

-- m places and then n make so many literals as m + n do
together : (m n k p : ℕ) → m + n ≡ k → m * p + n * p ≡ k * p
together m n k p e = sym (add-mul m n p) ∙ ap (λ x. x * p) e

-- Literals of consequents.

consequents_few : (read : ℕ → Out Consequent) → ((i : ℕ) (c : Consequent) (j : ℕ) → read i ≡ good c j → (i < j) × (length (outcomes_of c) ≤ j - i))
    → (m i : ℕ) (cs : List Consequent) (j : ℕ) → many read m i ≡ good cs j → (i ≤ j) × (length (all_outcomes (consequents_of cs)) ≤ j - i)
consequents_few read h zero i cs j e =
    let w = none_read read 0 i cs j refl e in
    let q = ap (λ xs. length (all_outcomes (consequents_of xs))) w.0 in
    (omega (arith, w.1), omega (arith, q))
consequents_few read h (suc m) i cs j e =
    let w = first_read read m i cs j e in
    let x = h i w.0 w.1 w.3 in
    let y = consequents_few read h m w.1 w.2 j w.4 in
    let q = ap (λ xs. length (all_outcomes (consequents_of xs))) w.5 in
    let r = length-append (outcomes_of w.0) (all_outcomes (consequents_of w.2)) in
    (omega (arith, x.0, y.0), omega (arith, x.0, x.1, y.0, y.1, q, r))

consequent_parts_few : (t : Table) (read : ℕ → Out Consequent) → ((i : ℕ) (c : Consequent) (j : ℕ) → read i ≡ good c j → (i < j) × (length (outcomes_of c) ≤ j - i))
    → (a : Around) (e : Entry) (i : ℕ) (c : Consequent) (j : ℕ) → i < j → consequent_by t read a e (i + 1) ≡ good c j → length (outcomes_of c) ≤ j - i
consequent_parts_few t read h a e i c j l q = by_kind (eqb e.kind 5) q
  where
    by_kind : (is_and : Bool) →
        cond is_and (then (many read e.operand (i + 1)) λ cs k. good (outcomes (consequents_of cs)) k)
        (then (change_by t a e (i + 1)) λ c k. good (outcome c) k) ≡ good c j → length (outcomes_of c) ≤ j - i
    by_kind true x =
        let w = first_step (many read e.operand (i + 1)) (λ cs k. good (outcomes (consequents_of cs)) k) c j x in
        let q = read_as (outcomes (consequents_of w.0)) c w.1 j w.3 in
        let y = consequents_few read h e.operand (i + 1) w.0 w.1 w.2 in
        omega (arith, y.1, q.1, ap (λ d. length (outcomes_of d)) q.0)
    by_kind false x =
        let w = first_step (change_by t a e (i + 1)) (λ c k. good (outcome c) k) c j x in
        let q = read_as (outcome w.0) c w.1 j w.3 in
        omega (arith, l, ap (λ d. length (outcomes_of d)) q.0)

-- a consequent has at most as many changes as entries
consequent_few : (t : Table) (room : ℕ) (a : Around) (i : ℕ) (c : Consequent) (j : ℕ) → consequent t room a i ≡ good c j → length (outcomes_of c) ≤ j - i
unfolding consequent
consequent_few t zero a i c j e = let w = on_from t place.Consequent a i (λ e j. bad 6 i) c j e in bad_is_not_good 6 i c j w.1
consequent_few t (suc r) a i c j e =
    let w = on_from t place.Consequent a i (λ e k. consequent_by t (consequent t r a) a e k) c j e in
    consequent_parts_few t (consequent t r a) (λ i c j h. (consequent_goes_on t r a i c j h, consequent_few t r a i c j h)) a (entry_at t i) i c j (consequent_goes_on t (suc r) a i c j e) w.1

-- Literals of effects.

module _ (T : Task) (s : State) where
  -- the literals of the first effect, and those of the others
  first_literals : (sh : List ℕ) (e : Effect) (es : List Effect) → effects_literals T s sh (e ∷ es) ≡ effect_literals T s sh e ++ effects_literals T s sh es
  first_literals sh e es = gather_append (λ (p : Part). cond (value T s p.sheet p.condition) p.literals []) (parts T sh e) (all_parts T sh (effects_of es))

  effects_few : (sh : List ℕ) (p : ℕ) (read : ℕ → Out Effect) → ((i : ℕ) (e : Effect) (j : ℕ) → read i ≡ good e j → (i < j) × (length (effect_literals T s sh e) ≤ (j - i) * p))
      → (m i : ℕ) (es : List Effect) (j : ℕ) → many read m i ≡ good es j → (i ≤ j) × (length (effects_literals T s sh es) ≤ (j - i) * p)
  effects_few sh p read h zero i es j e =
      let w = none_read read 0 i es j refl e in
      let q = ap (λ xs. length (effects_literals T s sh xs)) w.0 in
      (omega (arith, w.1), omega (arith, q))
  effects_few sh p read h (suc m) i es j e =
      let w = first_read read m i es j e in
      let x = h i w.0 w.1 w.3 in
      let y = effects_few sh p read h m w.1 w.2 j w.4 in
      let q = ap (λ xs. length (effects_literals T s sh xs)) w.5 ∙ ap length (first_literals sh w.0 w.2) ∙ length-append (effect_literals T s sh w.0) (effects_literals T s sh w.2) in
      let z = together (w.1 - i) (j - w.1) (j - i) p (omega (arith, x.0, y.0)) in
      (omega (arith, x.0, y.0), omega (arith, x.1, y.1, q, z))

  -- an effect for each member has at most 32 times as many literals
  each_few : T.objects ≤ 32 → (sh : List ℕ) (ty : ℕ) (e : Effect) (b : ℕ) → ((sheet : List ℕ) → length (effect_literals T s sheet e) ≤ b) → length (effect_literals T s sh (for_each ty e)) ≤ 32 * b
  each_few n sh ty e b h =
      let q = ap length (gather_gather (λ (p : Part). cond (value T s p.sheet p.condition) p.literals []) (λ o. parts T (bind sh o) e) (members T ty)) in
      let x = gather_length (λ o. effect_literals T s (bind sh o) e) b (members T ty) (λ o. h (bind sh o)) in
      let m : length (members T ty) ≤ 32 = omega (arith, members_length T ty) in
      omega (arith, q, x, mul-le-mul_right b m)

  when_few : (sh : List ℕ) (f : Formula) (c : Consequent) → length (effect_literals T s sh (when f c)) ≤ length (outcomes_of c)
  when_few sh f c = omega (arith, cond_length (value T s sh f) (consequent_literals T sh c), length-map (outcomes_of c) (ground T sh))

  effect_parts_few : T.objects ≤ 32 → (t : Table) (read : Around → ℕ → Out Effect)
      → ((a : Around) (i : ℕ) (e : Effect) (j : ℕ) → read a i ≡ good e j → i < j)
      → ((a : Around) (i : ℕ) (e : Effect) (j : ℕ) → read a i ≡ good e j → (sh : List ℕ) → length (effect_literals T s sh e) ≤ (j - i) * copies a.quantifiers)
      → (a : Around) (i : ℕ) (f : Effect) (j : ℕ) → Headed t place.Effect a i → i < j → effect_by t read a (entry_at t i) (i + 1) ≡ good f j
      → (sh : List ℕ) → length (effect_literals T s sh f) ≤ (j - i) * copies a.quantifiers
  effect_parts_few n t read goes few a i f j h l q sh = by_kind (eqb (get_or t.kinds i 0) 5) (eqb (get_or t.kinds i 0) 8) (eqb (get_or t.kinds i 0) 12) refl q
    where
      by_kind : (is_and is_forall is_when : Bool) → eqb (get_or t.kinds i 0) 8 ≡ is_forall →
          cond is_and (then (many (read a) (get_or t.operands i 0) (i + 1)) λ es k. good (conjunction (effects_of es)) k)
          (cond is_forall (then (read (deeper a) (i + 1)) λ f k. good (for_each (get_or t.operands i 0) f) k)
          (cond is_when (then (formula t most_entries a (i + 1)) λ f k. then (consequent t most_entries a k) λ c l. good (when f c) l)
          (then (change_by t a (entry_at t i) (i + 1)) λ c k. good (change c) k))) ≡ good f j → length (effect_literals T s sh f) ≤ (j - i) * copies a.quantifiers
      by_kind true is_forall is_when b x =
          let o = get_or t.operands i 0 in
          let p = copies a.quantifiers in
          let w = first_step (many (read a) o (i + 1)) (λ es k. good (conjunction (effects_of es)) k) f j x in
          let q = read_as (conjunction (effects_of w.0)) f w.1 j w.3 in
          let y = effects_few sh p (read a) (λ i e j h. (goes a i e j h, few a i e j h sh)) o (i + 1) w.0 w.1 w.2 in
          let z : w.1 - (i + 1) ≤ j - i = omega (arith, q.1) in
          omega (arith, y.1, mul-le-mul_right p z, ap (λ g. length (effect_literals T s sh g)) q.0)
      by_kind false true is_when b x =
          let o = get_or t.operands i 0 in
          let w = first_step (read (deeper a) (i + 1)) (λ f k. good (for_each o f) k) f j x in
          let q = read_as (for_each o w.0) f w.1 j w.3 in
          let d = copies (a.quantifiers + 1) in
          let y = each_few n sh o w.0 ((w.1 - (i + 1)) * d) (λ sheet. few (deeper a) (i + 1) w.0 w.1 w.2 sheet) in
          let z : w.1 - (i + 1) ≤ j - i = omega (arith, q.1) in
          let k = eqb-true (get_or t.kinds i 0) 8 b in
          let c = ap (λ m. within_bounds a i (entry m o)) (sym k) ∙ h.bounded in
          let g = copies_step a.quantifiers (ltb-true a.quantifiers 3 (and_parts (ltb (i - a.start) 256) (ltb a.quantifiers 3) c).1) in
          omega (arith, y, mul-le-mul_right d z, mul_left_comm (j - i) 32 d, ap (λ m. (j - i) * m) g, ap (λ g. length (effect_literals T s sh g)) q.0)
      by_kind false false true b x =
          let w = first_step (formula t most_entries a (i + 1)) (λ f k. then (consequent t most_entries a k) λ c l. good (when f c) l) f j x in
          let u = first_step (consequent t most_entries a w.1) (λ c l. good (when w.0 c) l) f j w.3 in
          let q = read_as (when w.0 u.0) f u.1 j u.3 in
          let y = consequent_few t most_entries a w.1 u.0 u.1 u.2 in
          omega (arith, y, when_few sh w.0 u.0, goes_on t most_entries a (i + 1) w.0 w.1 w.2, q.1, le-mul_of_pos_right (j - i) (copies_pos a.quantifiers), ap (λ g. length (effect_literals T s sh g)) q.0)
      by_kind false false false b x =
          let w = first_step (change_by t a (entry_at t i) (i + 1)) (λ c k. good (change c) k) f j x in
          let q = read_as (change w.0) f w.1 j w.3 in
          omega (arith, l, le-mul_of_pos_right (j - i) (copies_pos a.quantifiers), ap (λ g. length (effect_literals T s sh g)) q.0)

  -- an effect has at most as many literals as entries, times the members of the quantifiers that it may have
  pub effect_few : T.objects ≤ 32 → (t : Table) (room : ℕ) (a : Around) (i : ℕ) (e : Effect) (j : ℕ) → effect t room a i ≡ good e j
      → (sh : List ℕ) → length (effect_literals T s sh e) ≤ (j - i) * copies a.quantifiers
  unfolding effect
  effect_few n t zero a i f j e sh = let w = on_from t place.Effect a i (λ e j. bad 6 i) f j e in bad_is_not_good 6 i f j w.1
  effect_few n t (suc r) a i f j e sh =
      let w = on_from t place.Effect a i (λ e k. effect_by t (effect t r) a e k) f j e in
      effect_parts_few n t (effect t r) (effect_goes_on t r) (effect_few n t r) a i f j w.0 (effect_goes_on t (suc r) a i f j e) w.1 sh

-- an effect that stands in a table has few literals
pub few_literals : {t : Table} {v i : ℕ} {e : Effect} {j : ℕ} → EffectAt t v i e j → t.entries ≤ 16384 → (T : Task) → T.objects ≤ 32 → (s : State) (sh : List ℕ)
    → length (effect_literals T s sh e) ≤ 16384 * 32768
few_literals {t} {v} {i} {e} {j} a n T m s sh =
    let x = effect_few T s m t a.room a.around i e j a.reads sh in
    let y = inside_at t (effect t a.room a.around i) e j (inside_effect t a.room a.around i) a.reads in
    let k : j - i ≤ 16384 = omega arith in
    omega (arith, x, mul-le-mul k (copies_most a.around.quantifiers))
