-- Lists of literals that grow at the end, and how many different ones they have.
use Rattle.std.proofs.Common.{◌≡◌, ℕ, suc, ◌≤◌, Bool, true, false, cond, ◌||◌, List, [], ◌∷◌, ◌++◌, sym, refl, ap, ap₂, ◌∙◌, subst, arith}
use Rattle.std.specs.Bool.{one_answer}
use Rattle.std.proofs.lemmas.Bool.{eqb-true, eq-eqb, and_parts, and_from}
use Rattle.std.proofs.lemmas.List.{append-nil, append_assoc}
use Rattle.model.specs.Meaning.{Literal}
use Rattle.model.proofs.Numbers.{beq_true, beq_refl}
use Rattle.runs.proofs.Walks.{any_append}
use Rattle.instantiate.specs.Listing.{same_literal, is_in, different}

-- One literal and another.

pub same_true : (l m : Literal) → same_literal l m ≡ true → l ≡ m
same_true l m e =
    let w = and_parts _ _ e in
    let p = beq_true l.adds m.adds w.0 in
    let q = eqb-true l.atom m.atom w.1 in
    λ i. record { adds = p i; atom = q i }

pub same_refl : (l : Literal) → same_literal l l ≡ true
same_refl l = and_from _ _ (beq_refl l.adds) (eq-eqb l.atom l.atom refl)

same_turned : (l m : Literal) → same_literal l m ≡ same_literal m l
same_turned l m = one_answer {P = l ≡ m} (same_literal l m) (same_literal m l)
    (same_true l m, λ e. subst (λ x. same_literal l x ≡ true) e (same_refl l))
    (λ h. sym (same_true m l h), λ e. subst (λ x. same_literal x l ≡ true) e (same_refl l))

-- One literal more.

or_none : (b : Bool) → (b || false) ≡ b
or_none true = refl
or_none false = refl

pub is_in_more : (k : Literal) (ls : List Literal) (l : Literal) → is_in k (ls ++ (l ∷ [])) ≡ (is_in k ls || same_literal k l)
is_in_more k ls l = any_append (same_literal k) ls (l ∷ []) ∙ ap (λ b. is_in k ls || b) (or_none (same_literal k l))

-- a is whether m stands among those after it, b whether l does, and s whether both are the same
counted : (a b s : Bool) (n : ℕ) → (s ≡ true → a ≡ b) → cond (a || s) (cond b n (suc n)) (suc (cond b n (suc n))) ≡ cond (s || b) (cond a n (suc n)) (suc (cond a n (suc n)))
counted true true true n h = refl
counted true false true n h = let e = h refl in cc
counted false true true n h = let e = h refl in cc
counted false false true n h = refl
counted true true false n h = refl
counted true false false n h = refl
counted false true false n h = refl
counted false false false n h = refl

-- a literal that is in the list already is no other, and one that is not is one more
pub different_more : (ls : List Literal) (l : Literal) → different (ls ++ (l ∷ [])) ≡ cond (is_in l ls) (different ls) (suc (different ls))
different_more [] l = refl
different_more (m ∷ ls) l =
    ap₂ (λ (b : Bool) (n : ℕ). cond b n (suc n)) (is_in_more m ls l ∙ ap (λ b. is_in m ls || b) (same_turned m l)) (different_more ls l)
    ∙ counted (is_in m ls) (is_in l ls) (same_literal l m) (different ls) (λ e. ap (λ x. is_in x ls) (sym (same_true l m e)))

pub different_new : (ls : List Literal) (l : Literal) → is_in l ls ≡ false → different (ls ++ (l ∷ [])) ≡ suc (different ls)
different_new ls l e = different_more ls l ∙ ap (λ b. cond b (different ls) (suc (different ls))) e

pub different_old : (ls : List Literal) (l : Literal) → is_in l ls ≡ true → different (ls ++ (l ∷ [])) ≡ different ls
different_old ls l e = different_more ls l ∙ ap (λ b. cond b (different ls) (suc (different ls))) e

at_least : (b : Bool) (n m : ℕ) → m ≡ cond b n (suc n) → n ≤ m
at_least true n m e = omega arith
at_least false n m e = omega arith

-- more literals have no fewer different ones
pub different_grows : (ls ms : List Literal) → different ls ≤ different (ls ++ ms)
different_grows ls [] = subst (λ x. different ls ≤ different x) (sym (append-nil ls)) (omega arith)
different_grows ls (m ∷ ms) =
    let one = at_least (is_in m ls) (different ls) (different (ls ++ (m ∷ []))) (different_more ls m) in
    let rest = different_grows (ls ++ (m ∷ [])) ms in
    subst (λ x. different ls ≤ different x) (append_assoc ls (m ∷ []) ms) (omega arith)
