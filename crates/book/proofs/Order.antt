-- The order of names, by its test and by its meaning.
use Rattle.std.proofs.Common.{◌≡◌, ℕ, ◌<◌, Bool, true, false, cond, eqb, ltb, ◌⊎◌, List, [], ◌∷◌, Some, sym, refl, ap, ◌∙◌, inl, inr, ⊎_elim, arith}
use Rattle.std.specs.declared.cmp.Ordering.{Ordering}
use Rattle.std.specs.declared.cmp.Ordering.TheVariants.{Less, Equal, Greater}
use Rattle.std.specs.Cmp.Lexicographic.{slice_cmp, slice_partial_cmp}
use Rattle.std.specs.Ordering.{nat_cmp, is_lt, ordering_reverse, is_some_and}
use Rattle.std.proofs.lemmas.Bool.Decides.{nat_tests}
use Rattle.std.proofs.lemmas.Cmp.{nat_list_cmp_total, tied_itself, same_from_slice_cmp, same_from_slice_cmp_tested}
use Rattle.std.proofs.lemmas.Map.Lookups.{exact_bytes}
use Rattle.std.proofs.lemmas.Bool.{eq-eqb, ne_eqb, eqb-true, lt-ltb, ltb-true, cases_Bool}
use Rattle.model.specs.Trees.{Name}
use Rattle.model.specs.Opening.{ObjectsBefore, NameBefore}
use Rattle.model.proofs.Values.{clash}
use Rattle.book.specs.Reads.{precedes, listed}

-- The first numbers of two lists.
by_first : (x y : ℕ) (r : Bool) → cond (eqb x y) r (ltb x y) ≡ true → ((x ≡ y) × (r ≡ true)) ⊎ (x < y)
by_first x y r h =
    ⊎_elim (λ e. inl (eqb-true x y e, sym (ap (λ b. cond b r (ltb x y)) e) ∙ h)) (λ e. inr (ltb-true x y (sym (ap (λ b. cond b r (ltb x y)) e) ∙ h))) (cases_Bool (eqb x y))

first_same : (x y : ℕ) (r : Bool) → x ≡ y → cond (eqb x y) r (ltb x y) ≡ r
first_same x y r e = ap (λ b. cond b r (ltb x y)) (eq-eqb x y e)

first_less : (x y : ℕ) (r : Bool) → x < y → cond (eqb x y) r (ltb x y) ≡ true
first_less x y r l = ap (λ b. cond b r (ltb x y)) (ne_eqb x y (λ e. omega arith)) ∙ lt-ltb x y l

-- The test is the order of the library.
precedes_is : (a b : List ℕ) → is_lt (slice_cmp nat_cmp a b) ≡ precedes a b
precedes_is a b = same_from_slice_cmp nat_cmp is_lt precedes refl (λ _ _. refl) (λ _ _. refl) (λ x y xs ys o h. grind (arith, nat_tests)) a b (slice_cmp nat_cmp a b) refl

pub less_precedes : (a b : List ℕ) (r : Bool) → r ≡ is_some_and is_lt (slice_partial_cmp (λ x y. Some (nat_cmp x y)) a b) → r ≡ precedes a b
less_precedes = same_from_slice_cmp_tested nat_cmp is_lt precedes refl (λ _ _. refl) (λ _ _. refl) (λ x y xs ys o h. grind (arith, nat_tests))

is_less : (o : Ordering) → is_lt o ≡ true → o ≡ Less
is_less Less h = refl
is_less Equal h = clash h
is_less Greater h = clash h

pub cmp_less : (a b : List ℕ) → Less ≡ slice_cmp nat_cmp a b → precedes a b ≡ true
cmp_less a b h = sym (precedes_is a b) ∙ ap is_lt (sym h)

pub cmp_greater : (a b : List ℕ) → Greater ≡ slice_cmp nat_cmp a b → precedes b a ≡ true
cmp_greater a b h = sym (precedes_is b a) ∙ ap is_lt (nat_list_cmp_total.antisymm b a ∙ ap ordering_reverse (sym h))

pub not_before_itself : (a : List ℕ) → precedes a a ≡ false
not_before_itself a = sym (precedes_is a a) ∙ ap is_lt (tied_itself nat_list_cmp_total a)

pub precedes_trans : (a b c : List ℕ) → precedes a b ≡ true → precedes b c ≡ true → precedes a c ≡ true
precedes_trans a b c p q = sym (precedes_is a c) ∙ ap is_lt (nat_list_cmp_total.trans a b c (is_less _ (precedes_is a b ∙ p)) (is_less _ (precedes_is b c ∙ q)))

-- what passes the test comes before
pub objects_before : (a b : List ℕ) → precedes a b ≡ true → ObjectsBefore a b
objects_before [] [] p = clash p
objects_before [] (y ∷ b) p = tt
objects_before (x ∷ a) [] p = clash p
objects_before (x ∷ a) (y ∷ b) p = ⊎_elim (λ u. inr (u.0, objects_before a b u.1)) (λ u. inl u) (by_first x y (precedes a b) p)

pub name_before : (m k : Name) → precedes (listed m) (listed k) ≡ true → NameBefore m k
name_before m k p = objects_before (listed m) (listed k) p

-- what comes before passes the test
pub objects_precede : (a b : List ℕ) → ObjectsBefore a b → precedes a b ≡ true
objects_precede [] [] h = absurd h
objects_precede [] (y ∷ b) h = refl
objects_precede (x ∷ a) [] h = absurd h
objects_precede (x ∷ a) (y ∷ b) h = ⊎_elim (λ l. first_less x y (precedes a b) l) (λ u. first_same x y (precedes a b) u.0 ∙ objects_precede a b u.1) h

pub name_precedes : (m k : Name) → NameBefore m k → precedes (listed m) (listed k) ≡ true
name_precedes m k h = objects_precede (listed m) (listed k) h

-- names that compare as equal are the same
pub cmp_equal : (m k : Name) → Equal ≡ slice_cmp nat_cmp (listed m) (listed k) → m ≡ k
cmp_equal m k h =
    let e : listed m ≡ listed k = exact_bytes (listed m) (listed k) (sym h) in
    let p : m.operator ≡ k.operator = cc in
    let q : m.objects ≡ k.objects = cc in
    λ i. record { operator = p i; objects = q i }
