-- What holds of a set that is kept as packed bits.
use Rattle.std.proofs.Common.{◌≡◌, ℕ, zero, suc, ◌-◌, ◌*◌, ◌/◌, ◌%◌, ◌^◌, ◌<◌, min, Bool, true, false, cond, ◌&&◌, eqb, ltb, ◌⊎◌, List, length, get_or, drop, set, replicate, sym, refl, ap, ◌∙◌, inl, inr, ⊎_elim, arith}
use mathlib.Core.Path.{fun_ext}
use lib.Bits.{bit_and, bit_or, or_zero_r}
use Rattle.std.proofs.lemmas.Nat.{or_shr, or_mod, and_shr, and_mod, mod_below, one_shl}
use Rattle.std.proofs.lemmas.List.{get_or-set_same, get_or-set_other, length-replicate, length-append, length-drop}
use Rattle.std.proofs.lemmas.Slice.{drop-append-drop}
use Rattle.std.proofs.lemmas.Bool.{cases_eq, cases_Bool, eqb-true, eq-eqb, ne_eqb, lt-ltb, cond-true, cond-false}
use Rattle.std.proofs.lemmas.Bool.Decides.{Decides-below_and}
use Rattle.store.specs.Packed.{bit_facts, cleared}
use Rattle.store.specs.Sets.{with_fact}

-- ---- a fact of all pairs of numbers below 8, computed

abbrev all_below : (ℕ → Bool) → ℕ → Bool
all_below p zero = true
all_below p (suc n) = p n && all_below p n

all_at : (p : ℕ → Bool) (n : ℕ) → all_below p n ≡ true → (k : ℕ) → k < n → p k ≡ true
all_at p n e = (Decides-below_and p (λ k. p k ≡ true) (all_below p) (λ k. (λ h. h, λ h. h)) refl (λ _. refl) n).0 e

pairs_at : (p : ℕ → ℕ → Bool) → all_below (λ i. all_below (p i) 8) 8 ≡ true → (i j : ℕ) → i < 8 → j < 8 → p i j ≡ true
pairs_at p e i j hi hj = all_at (p i) 8 (all_at (λ i'. all_below (p i') 8) 8 e i hi) j hj

single : (i j : ℕ) → i < 8 → j < 8 → 2 ^ j / 2 ^ i % 2 ≡ cond (eqb i j) 1 0
single i j hi hj = eqb-true _ _ (pairs_at (λ i' j'. eqb (2 ^ j' / 2 ^ i' % 2) (cond (eqb i' j') 1 0)) refl i j hi hj)

others : (i j : ℕ) → i < 8 → j < 8 → (255 - 2 ^ j) / 2 ^ i % 2 ≡ cond (eqb i j) 0 1
others i j hi hj = eqb-true _ _ (pairs_at (λ i' j'. eqb ((255 - 2 ^ j') / 2 ^ i' % 2) (cond (eqb i' j') 0 1)) refl i j hi hj)

-- ---- one bit more or less

digit : (n : ℕ) → (n % 2 ≡ 0) ⊎ (n % 2 ≡ 1)
digit n = let lt = mod_below n 2 (omega arith) in ⊎_elim (λ e. inl e) (λ ne. inr (omega (arith, ne))) (cases_eq (n % 2) 0)

pub bit_or_lem : (b i j : ℕ) → i < 8 → j < 8 → bit_or b (2 ^ j) / 2 ^ i % 2 ≡ cond (eqb i j) 1 (b / 2 ^ i % 2)
bit_or_lem b i j hi hj =
    let split : bit_or b (2 ^ j) / 2 ^ i % 2 ≡ bit_or (b / 2 ^ i % 2) (cond (eqb i j) 1 0) = ap (λ q. q % 2) (or_shr b (2 ^ j) i) ∙ or_mod (b / 2 ^ i) (2 ^ j / 2 ^ i) 1 ∙ ap (λ q. bit_or (b / 2 ^ i % 2) q) (single i j hi hj) in
    split ∙ ⊎_elim
    (λ t. ap (λ q. bit_or (b / 2 ^ i % 2) (cond q 1 0)) t ∙ ⊎_elim (λ z. ap (λ q. bit_or q 1) z) (λ o. ap (λ q. bit_or q 1) o) (digit (b / 2 ^ i)) ∙ sym (cond-true (eqb i j) 1 (b / 2 ^ i % 2) t))
    (λ f. ap (λ q. bit_or (b / 2 ^ i % 2) (cond q 1 0)) f ∙ or_zero_r (b / 2 ^ i % 2) ∙ sym (cond-false (eqb i j) 1 (b / 2 ^ i % 2) f))
    (cases_Bool (eqb i j))

pub bit_and_lem : (b i j : ℕ) → i < 8 → j < 8 → bit_and b (255 - 2 ^ j) / 2 ^ i % 2 ≡ cond (eqb i j) 0 (b / 2 ^ i % 2)
bit_and_lem b i j hi hj =
    let split : bit_and b (255 - 2 ^ j) / 2 ^ i % 2 ≡ bit_and (b / 2 ^ i % 2) (cond (eqb i j) 0 1) = ap (λ q. q % 2) (and_shr b (255 - 2 ^ j) i) ∙ and_mod (b / 2 ^ i) ((255 - 2 ^ j) / 2 ^ i) 1 ∙ ap (λ q. bit_and (b / 2 ^ i % 2) q) (others i j hi hj) in
    let value : (q : Bool) → bit_and (b / 2 ^ i % 2) (cond q 0 1) ≡ cond q 0 (b / 2 ^ i % 2) = λ q. elim q as (λ v. bit_and (b / 2 ^ i % 2) (cond v 0 1) ≡ cond v 0 (b / 2 ^ i % 2)) [ true ↦ ⊎_elim (λ z. ap (λ w. bit_and w 0) z) (λ o. ap (λ w. bit_and w 0) o) (digit (b / 2 ^ i)) | false ↦ ⊎_elim (λ z. ap (λ w. bit_and w 1) z ∙ sym z) (λ o. ap (λ w. bit_and w 1) o ∙ sym o) (digit (b / 2 ^ i)) ] in
    split ∙ value (eqb i j)

-- ---- the set

-- c is b with bit j as told
abbrev pub Changed : ℕ → ℕ → Bool → ℕ → Type 0
Changed b j present c = (i : ℕ) → i < 8 → c / 2 ^ i % 2 ≡ cond (eqb i j) (cond present 1 0) (b / 2 ^ i % 2)

flag : (present : Bool) → eqb (cond present 1 0) 1 ≡ present
flag true = refl
flag false = refl

pub facts_put : (bytes : List ℕ) (k c : ℕ) (present : Bool) → k / 8 < length bytes → k < 65536 → Changed (get_or bytes (k / 8) 0) (k % 8) present c → bit_facts (set bytes (k / 8) c) ≡ with_fact (bit_facts bytes) k present
facts_put bytes k c present inside small change = fun_ext (λ j.
    ⊎_elim
    (λ e.
    let bit : c / 2 ^ (k % 8) % 2 ≡ cond present 1 0 = change (k % 8) (mod_below k 8 (omega arith)) ∙ cond-true (eqb (k % 8) (k % 8)) (cond present 1 0) _ (eq-eqb _ _ refl) in
    ap (bit_facts (set bytes (k / 8) c)) e
    ∙ ap (λ q. q && eqb (get_or (set bytes (k / 8) c) (k / 8) 0 / 2 ^ (k % 8) % 2) 1) (lt-ltb k 65536 small)
    ∙ ap (λ q. eqb (q / 2 ^ (k % 8) % 2) 1) (get_or-set_same bytes (k / 8) c 0 inside)
    ∙ ap (λ q. eqb q 1) bit ∙ flag present ∙ sym (cond-true (eqb j k) present (bit_facts bytes j) (eq-eqb j k e)))
    (λ ne.
    ap (λ q. ltb j 65536 && eqb q 1)
    (⊎_elim
    (λ same.
    let apart : (j % 8 ≡ k % 8) → ⊥ = λ m. ne (omega (arith, same, m)) in
    ap (λ q. q / 2 ^ (j % 8) % 2) (ap (λ q. get_or (set bytes (k / 8) c) q 0) same ∙ get_or-set_same bytes (k / 8) c 0 inside)
    ∙ change (j % 8) (mod_below j 8 (omega arith)) ∙ cond-false (eqb (j % 8) (k % 8)) (cond present 1 0) _ (ne_eqb _ _ apart)
    ∙ ap (λ q. get_or bytes q 0 / 2 ^ (j % 8) % 2) (sym same))
    (λ other. ap (λ q. q / 2 ^ (j % 8) % 2) (get_or-set_other bytes (k / 8) (j / 8) c 0 other))
    (cases_eq (j / 8) (k / 8)))
    ∙ sym (cond-false (eqb j k) present (bit_facts bytes j) (ne_eqb j k ne)))
    (cases_eq j k))

pub length_cleared : (bytes : List ℕ) → length (cleared bytes) ≡ length bytes
length_cleared bytes =
    let n = min (length bytes) 8192 in
    let zeros : List ℕ = replicate n 0 in
    let parts = length-append zeros (drop n bytes) in
    let front : length zeros ≡ n = length-replicate n _ in
    let back = length-drop n bytes in
    omega (arith, parts, front, back)

pub rest_cleared : (bytes : List ℕ) → drop 8192 (cleared bytes) ≡ drop 8192 bytes
rest_cleared bytes =
    let n = min (length bytes) 8192 in
    drop-append-drop n bytes (replicate n 0) 8192 (omega arith) (length-replicate n _)

-- the byte that the code writes
pub changed_or : (b j : ℕ) (present : Bool) (c : ℕ) → present ≡ true → j < 8 → c ≡ bit_or b ((1 * 2 ^ j) % 256) → Changed b j present c
changed_or b j present c t hj e i hi =
    ap (λ q. q / 2 ^ i % 2) (e ∙ ap (bit_or b) (one_shl j 8 hj)) ∙ bit_or_lem b i j hi hj ∙ ap (λ q. cond (eqb i j) (cond q 1 0) (b / 2 ^ i % 2)) (sym t)

pub changed_and : (b j : ℕ) (present : Bool) (c : ℕ) → present ≡ false → j < 8 → c ≡ bit_and b (255 - (1 * 2 ^ j) % 256) → Changed b j present c
changed_and b j present c f hj e i hi =
    ap (λ q. q / 2 ^ i % 2) (e ∙ ap (λ q. bit_and b (255 - q)) (one_shl j 8 hj)) ∙ bit_and_lem b i j hi hj ∙ ap (λ q. cond (eqb i j) (cond q 1 0) (b / 2 ^ i % 2)) (sym f)
