-- Lists that rise by an order, and what is asked of one and done to it.
use Rattle.std.specs.Prelude.{◌≡◌, ℕ, ◌+◌, ◌<◌, ◌≤◌, Bool, true, false, ◌⊎◌, List, length, Ok, Err, Result, slice_index_or}
use Rattle.std.specs.List.{ContainsAt as Has}
use Rattle.rising.specs.declared.rising.Full.{Full}

-- k stands at i
pub record Spot {K : Type 0} (xs : List K) (k : K) (i : ℕ) : Type 0 where
  pub within : i < length xs
  pub is : (d : K) → slice_index_or xs i d ≡ k

-- ys has the elements of xs, and k
pub record With {K : Type 0} (xs : List K) (k : K) (ys : List K) : Type 0 where
  pub old : (x : K) → Has xs x → Has ys x
  pub new : Has ys k
  pub only : (x : K) → Has ys x → Has xs x ⊎ (x ≡ k)

-- ys has the elements of xs but k
pub record Without {K : Type 0} (xs : List K) (k : K) (ys : List K) : Type 0 where
  pub old : (x : K) → Has xs x → Has ys x ⊎ (x ≡ k)
  pub gone : Has ys k → ⊥
  pub only : (x : K) → Has ys x → Has xs x

module _ {K : Type 0} (L : K → K → Type 0) where
  -- each element is before those that follow it
  abbrev pub Rises : List K → Type 0
  Rises xs = (i j : ℕ) (d : K) → i < j → j < length xs → L (slice_index_or xs i d) (slice_index_or xs j d)

  -- what stands below i is before k
  abbrev pub Below : List K → K → ℕ → Type 0
  Below xs k i = (j : ℕ) (d : K) → j < i → L (slice_index_or xs j d) k

  -- k is before what stands at i and above
  abbrev pub Above : List K → K → ℕ → Type 0
  Above xs k i = (j : ℕ) (d : K) → i ≤ j → j < length xs → L k (slice_index_or xs j d)

  -- k is missing, and its place is i
  pub record Gap (xs : List K) (k : K) (i : ℕ) : Type 0 where
    pub within : i ≤ length xs
    pub below : Below xs k i
    pub above : Above xs k i

  -- a new key joins, a present one changes nothing, and a new one without a free place is refused and changes nothing
  abbrev pub AfterInsert : ℕ → List K → List K → K → Result Bool Full → Type 0
  AfterInsert room xs ys k (Ok true) = (Has xs k → ⊥) × Rises ys × With xs k ys × (length ys ≡ length xs + 1)
  AfterInsert room xs ys k (Ok false) = Has xs k × (ys ≡ xs)
  AfterInsert room xs ys k (Err e) = (Has xs k → ⊥) × (room ≤ length xs) × (ys ≡ xs)

  -- a present key leaves, and a missing one changes nothing
  abbrev pub AfterRemove : List K → List K → K → Bool → Type 0
  AfterRemove xs ys k true = Has xs k × Rises ys × Without xs k ys × (length ys + 1 ≡ length xs)
  AfterRemove xs ys k false = (Has xs k → ⊥) × (ys ≡ xs)
