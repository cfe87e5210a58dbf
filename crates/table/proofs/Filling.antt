-- An array that is filled place after place.
use Rattle.std.proofs.Common.{◌≡◌, ℕ, ◌+◌, ◌<◌, ◌≢◌, List, length, get_or, set, arith, get_or-set_other, get_or-set_same, below_more}

-- one more place holds what it should
pub one_more_filled : (xs : List ℕ) (i v : ℕ) (f : ℕ → ℕ) → i < length xs → ((k : ℕ) → k < i → get_or xs k 0 ≡ f k) → v ≡ f i
    → (k : ℕ) → k < i + 1 → get_or (set xs i v) k 0 ≡ f k
one_more_filled xs i v f h below here =
    below_more (λ k. get_or (set xs i v) k 0 ≡ f k) i
    (λ k l. let ne : k ≢ i = omega arith in rw get_or-set_other (below k l))
    (rw get_or-set_same here)
