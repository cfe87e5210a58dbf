-- The numbers of atoms: how many come before a predicate's, and the digits of an atom's arguments.
use Rattle.std.proofs.Common.{◌≡◌, ℕ, zero, suc, ◌+◌, ◌*◌, ◌^◌, ◌<◌, ◌≤◌, cond, ◌&&◌, leb, List, [], ◌∷◌, ◌++◌, length, get_or, take, Option, Some, None, sym, ap, ◌∙◌, mul_assoc, mul_comm, add-mul, mul-le-mul_left, zero-mul, mul-one, add-one, arith}
use Rattle.std.proofs.Math.Nat.{pow-succ', pow-zero, pow-le-pow_right}
use Rattle.std.proofs.lemmas.List.{length_push}
use Rattle.std.proofs.lemmas.Bool.{le-leb, and_from, cond-true}
use Rattle.model.specs.Trees.{digits, atoms_of}

-- the atoms of one more predicate
atoms_suc : (n : ℕ) (ks : List ℕ) (p : ℕ) → p < length ks → atoms_of n (take (suc p) ks) ≡ atoms_of n (take p ks) + n ^ get_or ks p 0
atoms_suc n [] p h = let z : ⊥ = omega arith in absurd z
atoms_suc n (a ∷ ks) zero h = omega arith
atoms_suc n (a ∷ ks) (suc p) h = omega (arith, atoms_suc n ks p (omega arith))

pub atoms_more : (n : ℕ) (ks : List ℕ) (p : ℕ) → p < length ks → atoms_of n (take (p + 1) ks) ≡ atoms_of n (take p ks) + n ^ get_or ks p 0
atoms_more n ks p h = ap (λ m. atoms_of n (take m ks)) (add-one p) ∙ atoms_suc n ks p h

-- the first predicates have no more atoms than all
pub atoms_most : (n : ℕ) (ks : List ℕ) (p : ℕ) → atoms_of n (take p ks) ≤ atoms_of n ks
atoms_most n [] zero = omega arith
atoms_most n [] (suc p) = omega arith
atoms_most n (a ∷ ks) zero = omega arith
atoms_most n (a ∷ ks) (suc p) = omega (arith, atoms_most n ks p)

-- a power of few factors below 33 is there
pub power_is : (n k : ℕ) (r : Option ℕ) → n ≤ 32 → k ≤ 4 → r ≡ cond (leb n 32 && leb k 4) (Some (n ^ k)) None → r ≡ Some (n ^ k)
power_is n k r h l e = e ∙ cond-true (leb n 32 && leb k 4) (Some (n ^ k)) None (and_from _ _ (le-leb n 32 h) (le-leb k 4 l))

-- one more argument
pub digits_push : (n : ℕ) (os : List ℕ) (o : ℕ) → digits n (os ++ (o ∷ [])) ≡ digits n os * n + o
digits_push n [] o = let e : o * n ^ 0 ≡ o = ap (λ m. o * m) (pow-zero n) ∙ mul-one o in omega (arith, e, zero-mul n)
digits_push n (x ∷ os) o =
    let l : n ^ length (os ++ (o ∷ [])) ≡ n ^ length os * n = ap (λ m. n ^ m) (length_push os o ∙ add-one (length os)) ∙ pow-succ' n (length os) ∙ mul_comm n (n ^ length os) in
    let a = ap (λ m. x * m) l ∙ sym (mul_assoc x (n ^ length os) n) in
    let b = add-mul (x * n ^ length os) (digits n os) n in
    omega (arith, digits_push n os o, a, b)

-- digits below 33 stay below a power of 32
pub digit_small : (d n o k : ℕ) → d < 32 ^ k → n ≤ 32 → o < n → d * n + o < 32 ^ (k + 1)
digit_small d n o k h l m =
    let a : d * n ≤ d * 32 = mul-le-mul_left d l in
    let p = ap (λ m. 32 ^ m) (add-one k) ∙ pow-succ' 32 k in
    omega (arith, a, p)

-- few digits stay small
pub few_digits : (d n k : ℕ) → d < 32 ^ k → n ≤ 32 → k < 3 → d * n ≤ 32768
few_digits d n k h l m =
    let a : d * n ≤ d * 32 = mul-le-mul_left d l in
    let q : k ≤ 2 = omega arith in
    let p : 32 ^ k ≤ 32 ^ 2 = pow-le-pow_right (omega arith) q in
    omega (arith, a, p)
