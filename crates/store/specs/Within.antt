-- The set that a store holds lies below its size.
use Rattle.std.specs.Prelude.{◌≡◌, ℕ, zero, suc, ◌/◌, ◌%◌, ◌^◌, ◌<◌, ◌≤◌, Bool, true, false, ◌&&◌, ◌||◌, List, [], ◌∷◌, ◌==◌, nat_eq, nat_lt, slice_index, refl}
use Rattle.std.proofs.Common.{suc-le-suc, ap, ◌∙◌, ⊎_elim, arith}
use Rattle.std.proofs.Math.Nat.{zero-div}
use Rattle.std.proofs.lemmas.List.{get_or_past}
use Rattle.std.proofs.lemmas.Bool.{cases_lt, le-ltb, ne_eqb}
use Rattle.store.specs.Members.{listed, Under}
use Rattle.store.specs.Packed.{bit_size, bit_facts}

-- a byte 0 has no bit
pub no_bit : (j : ℕ) (b : Bool) → (b && 0 / 2 ^ j % 2 == 1) ≡ false
no_bit j true = ap (λ q. nat_eq (q % 2) 1) (zero-div (2 ^ j))
no_bit j false = refl

-- no fact of packed bits lies past their size
pub facts_within : (bytes : List ℕ) (k : ℕ) → bit_size bytes ≤ k → bit_facts bytes k ≡ false
facts_within bytes k le =
    ⊎_elim
    (λ lt. ap (λ q. nat_lt k 65536 && q / 2 ^ (k % 8) % 2 == 1) (get_or_past bytes (k / 8) 0 (omega arith)) ∙ no_bit (k % 8) (nat_lt k 65536))
    (λ ge. ap (λ q. q && slice_index bytes (k / 8) / 2 ^ (k % 8) % 2 == 1) (le-ltb k 65536 ge))
    (cases_lt k 65536)

-- no member lies past a number that all are below
pub listed_within : (xs : List ℕ) (n k : ℕ) → Under n xs → n ≤ k → listed xs k ≡ false
listed_within [] n k under le = refl
listed_within (x ∷ xs) n k under le =
    let low : x < n = under zero (omega arith) in
    ap (λ q. q || listed xs k) (ne_eqb x k (λ e. omega (arith, e))) ∙ listed_within xs n k (λ i h. under (suc i) (suc-le-suc h)) le
