-- What holds of a set that is kept as a rising list.
use Rattle.std.proofs.Common.{◌≡◌, ℕ, zero, suc, ◌+◌, ◌-◌, ◌<◌, ◌≤◌, Bool, true, false, eqb, List, length, get_or, is_ok, IsOk, Ok, Err, Decides, Result, sym, refl, ap, ◌∙◌, subst, ⊎_elim, arith, MatchResult}
use mathlib.Core.Path.{fun_ext}
use Rattle.std.specs.List.{ContainsAt as Has}
use Rattle.std.specs.List.Sorted.{IsStrictlyIncreasing}
use Rattle.std.proofs.lemmas.List.{get_or_default}
use Rattle.std.proofs.lemmas.Bool.{cases_eq, cases_Bool, eq-eqb, ne_eqb, cond-true, cond-false}
use Rattle.std.proofs.lemmas.Bool.Decides.{Decides-by_or, Decides-eqb, same_from_decides, Decides-like}
use Rattle.rising.specs.declared.rising.Full.{Full}
use Rattle.rising.specs.Ascent.{Rises, Spot, Gap, With, Without, AfterInsert, AfterRemove}
use Rattle.store.specs.Members.{listed, Under}
use Rattle.store.specs.Sets.{with_fact}
use Rattle.rising.proofs.Ascents.{gap_missing}

-- m places on, a member is greater by m or more
far : (xs : List ℕ) → IsStrictlyIncreasing xs → (m i : ℕ) → i + m < length xs → get_or xs i 0 + m ≤ get_or xs (i + m) 0
far xs up zero i h = let e : i + 0 ≡ i = omega arith in subst (λ q. get_or xs i 0 + 0 ≤ get_or xs q 0) (sym e) (omega arith)
far xs up (suc m) i h =
    let e : i + suc m ≡ (i + m) + 1 = omega arith in
    subst (λ q. get_or xs i 0 + suc m ≤ get_or xs q 0) (sym e) (omega (arith, far xs up m i (omega arith), up (i + m) (omega arith)))

-- where each member is below the next, it is below all that follow
pub rises_from_climbs : (xs : List ℕ) → IsStrictlyIncreasing xs → Rises ◌<◌ xs
rises_from_climbs xs up i j d ij jl =
    let e : i + (j - i) ≡ j = omega arith in
    let a = get_or_default xs i d 0 (omega arith) in
    let b = get_or_default xs j d 0 jl in
    let f : get_or xs i 0 + (j - i) ≤ get_or xs j 0 = subst (λ q. get_or xs i 0 + (j - i) ≤ get_or xs q 0) e (far xs up (j - i) i (omega arith)) in
    omega arith

-- where each member is below all that follow, it is below the next
climbs_from_rises : (xs : List ℕ) → Rises ◌<◌ xs → IsStrictlyIncreasing xs
climbs_from_rises xs up k h = up k (k + 1) 0 (omega arith) h

-- a list of as many members as there are numbers below n has all of them
full_has : (xs : List ℕ) (n : ℕ) → IsStrictlyIncreasing xs → Under n xs → n ≤ length xs → (k : ℕ) → k < n → Has xs k
full_has xs n up under full k lt =
    let l = length xs - 1 in
    let e : k + (l - k) ≡ l = omega arith in
    let z : 0 + k ≡ k = omega arith in
    let a : get_or xs 0 0 + k ≤ get_or xs k 0 = subst (λ q. get_or xs 0 0 + k ≤ get_or xs q 0) z (far xs up k 0 (omega arith)) in
    let b : get_or xs k 0 + (l - k) ≤ get_or xs l 0 = subst (λ q. get_or xs k 0 + (l - k) ≤ get_or xs q 0) e (far xs up (l - k) k (omega arith)) in
    let c = under l (omega arith) in
    let is : get_or xs k 0 ≡ k = omega arith in
    (k, omega arith, λ d. get_or_default xs k d 0 (omega arith) ∙ is)

-- the set has k where the list has it
listed_decides : (xs : List ℕ) (k : ℕ) → Decides (listed xs k) (Has xs k)
listed_decides xs k = Decides-by_or (λ x. eqb x k) (λ x. x ≡ k) (λ ys. listed ys k) (λ x. Decides-eqb x k) refl (λ _ _. refl) xs

-- a test of what does not hold is false
false_from_not : (b : Bool) {P : Type 0} → Decides b P → (P → ⊥) → b ≡ false
false_from_not b {P} dec none_of = ⊎_elim (λ t. absurd (none_of (dec.0 t))) (λ f. f) (cases_Bool b)

-- a member of the list is in the set
listed_is : (xs : List ℕ) (k : ℕ) → Has xs k → listed xs k ≡ true
listed_is xs k h = (listed_decides xs k).1 h

-- what is no member of the list is not in the set
listed_not : (xs : List ℕ) (k : ℕ) → (Has xs k → ⊥) → listed xs k ≡ false
listed_not xs k none_of = false_from_not (listed xs k) (listed_decides xs k) none_of

-- the set of a list that k joins
listed_with : (xs ys : List ℕ) (k : ℕ) → With xs k ys → listed ys ≡ with_fact (listed xs) k true
listed_with xs ys k w = fun_ext (λ j.
    ⊎_elim
    (λ e. listed_is ys j (subst (λ q. Has ys q) (sym e) w.new) ∙ sym (cond-true (eqb j k) true (listed xs j) (eq-eqb j k e)))
    (λ ne.
    same_from_decides (listed ys j) (listed xs j) (listed_decides ys j)
    (Decides-like (listed xs j) (w.old j) (λ h. ⊎_elim (λ o. o) (λ e. absurd (ne e)) (w.only j h)) (listed_decides xs j))
    ∙ sym (cond-false (eqb j k) true (listed xs j) (ne_eqb j k ne)))
    (cases_eq j k))

-- the set of a list that k leaves
listed_without : (xs ys : List ℕ) (k : ℕ) → Without xs k ys → listed ys ≡ with_fact (listed xs) k false
listed_without xs ys k w = fun_ext (λ j.
    ⊎_elim
    (λ e. listed_not ys j (λ h. w.gone (subst (λ q. Has ys q) e h)) ∙ sym (cond-true (eqb j k) false (listed xs j) (eq-eqb j k e)))
    (λ ne.
    same_from_decides (listed ys j) (listed xs j) (listed_decides ys j)
    (Decides-like (listed xs j) (λ h. ⊎_elim (λ o. o) (λ e. absurd (ne e)) (w.old j h)) (w.only j) (listed_decides xs j))
    ∙ sym (cond-false (eqb j k) false (listed xs j) (ne_eqb j k ne)))
    (cases_eq j k))

-- a put that changes nothing
listed_again : (xs : List ℕ) (k : ℕ) (b : Bool) → listed xs k ≡ b → listed xs ≡ with_fact (listed xs) k b
listed_again xs k b is = fun_ext (λ j.
    ⊎_elim
    (λ e. ap (listed xs) e ∙ is ∙ sym (cond-true (eqb j k) b (listed xs j) (eq-eqb j k e)))
    (λ ne. sym (cond-false (eqb j k) b (listed xs j) (ne_eqb j k ne)))
    (cases_eq j k))

-- a member is below what all are below
under_has : (xs : List ℕ) (n k : ℕ) → Under n xs → Has xs k → k < n
under_has xs n k under (i, lt, is) = subst (λ q. q < n) (is 0) (under i lt)

-- what stands at a place is a member
has_at : (xs : List ℕ) (i : ℕ) → i < length xs → Has xs (get_or xs i 0)
has_at xs i lt = (i, lt, λ d. get_or_default xs i d 0 lt)

-- all stay below n as a number below n joins
under_with : (xs ys : List ℕ) (k n : ℕ) → With xs k ys → Under n xs → k < n → Under n ys
under_with xs ys k n w under lt i h = ⊎_elim (λ o. under_has xs n _ under o) (λ e. subst (λ q. q < n) (sym e) lt) (w.only (get_or ys i 0) (has_at ys i h))

-- all stay below n as one leaves
under_without : (xs ys : List ℕ) (k n : ℕ) → Without xs k ys → Under n xs → Under n ys
under_without xs ys k n w under i h = under_has xs n _ under (w.only (get_or ys i 0) (has_at ys i h))

-- the set has k where the list finds it
pub find_listed : (xs : List ℕ) (k : ℕ) (r : Result ℕ ℕ) → MatchResult r (Spot xs k) (Gap ◌<◌ xs k) → is_ok r ≡ listed xs k
find_listed xs k (Ok i) spot = sym (listed_is xs k (i, spot.within, spot.is))
find_listed xs k (Err i) gap = sym (listed_not xs k (gap_missing ◌<◌ (λ x h. absurd (let bad : ⊥ = omega arith in bad)) xs k i gap))

module _ (xs ys : List ℕ) (k n : ℕ) (climbs : IsStrictlyIncreasing xs) (under : Under n xs) where
  -- an insertion keeps the list rising and below n
  pub insert_sound : (room : ℕ) (r : Result Bool Full) → k < n → AfterInsert ◌<◌ room xs ys k r → IsStrictlyIncreasing ys × Under n ys
  insert_sound room (Ok true) lt after = (climbs_from_rises ys after.1, under_with xs ys k n after.2 under lt)
  insert_sound room (Ok false) lt after = (subst IsStrictlyIncreasing (sym after.1) climbs, subst (Under n) (sym after.1) under)
  insert_sound room (Err e) lt after = (subst IsStrictlyIncreasing (sym after.2) climbs, subst (Under n) (sym after.2) under)

  -- a list with n places or more is never full for a number below n
  pub insert_fits : (room : ℕ) (r : Result Bool Full) → k < n → n ≤ room → AfterInsert ◌<◌ room xs ys k r → IsOk r
  insert_fits room (Ok fresh) lt le after = refl
  insert_fits room (Err e) lt le after = absurd (after.0 (full_has xs n climbs under (omega (arith, after.1)) k lt))

  -- the set after an insertion
  pub insert_set : (room : ℕ) (fresh : Bool) → AfterInsert ◌<◌ room xs ys k (Ok fresh) → listed ys ≡ with_fact (listed xs) k true
  insert_set room true after = listed_with xs ys k after.2
  insert_set room false after = ap listed after.1 ∙ listed_again xs k true (listed_is xs k after.0)

  -- a removal keeps the list rising and below n
  pub remove_sound : (was : Bool) → AfterRemove ◌<◌ xs ys k was → IsStrictlyIncreasing ys × Under n ys
  remove_sound true after = (climbs_from_rises ys after.1, under_without xs ys k n after.2 under)
  remove_sound false after = (subst IsStrictlyIncreasing (sym after.1) climbs, subst (Under n) (sym after.1) under)

  -- the set after a removal
  pub remove_set : (was : Bool) → AfterRemove ◌<◌ xs ys k was → listed ys ≡ with_fact (listed xs) k false
  remove_set true after = listed_without xs ys k after.2
  remove_set false after = ap listed after.1 ∙ listed_again xs k false (listed_not xs k after.0)
