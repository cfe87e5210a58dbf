-- What holds of rising lists.
use Rattle.std.proofs.Common.{◌≡◌, ℕ, ◌+◌, ◌-◌, ◌<◌, ◌≤◌, min, ◌≢◌, List, length, get_or, take, set, sym, ap, ◌∙◌, subst, inl, inr, ⊎_elim, arith, length-take}
use Rattle.std.specs.List.{ContainsAt as Has}
use Rattle.std.proofs.lemmas.List.{get_or-take, get_or_default, get_or-set_same, get_or-set_other, length-set}
use Rattle.std.proofs.lemmas.Bool.{cases_eq, cases_lt}
use Rattle.rising.specs.Ascent.{Rises, Below, Above, Gap, Spot, With, Without}

-- a key of the list is what its place holds, at whichever default
pub item_at : {K : Type 0} (xs : List K) (n m : ℕ) (e : K) → m < length (take n xs) → (d : K) → get_or (take n xs) m d ≡ get_or xs m e
item_at xs n m e lt d =
    let both : m < min n (length xs) = rw length-take at lt in
    let a : m < n = omega arith in
    let b : m < length xs = omega arith in
    get_or-take n xs m d a ∙ get_or_default xs m d e b

-- what a place of the list holds stands there
pub spot_at : {K : Type 0} (xs : List K) (m : ℕ) (x : K) → m < length xs → x ≡ get_or xs m x → Spot xs x m
spot_at xs m x lt is = record { within = lt; is = λ d. get_or_default xs m d x lt ∙ sym is }

module _ {K : Type 0} (L : K → K → Type 0) (chain : (x y z : K) → L x y → L y z → L x z) where
  -- the search goes on to the right
  pub below_more : (xs : List K) (k x : K) (m : ℕ) → Rises L xs → Spot xs x m → L x k → Below L xs k (m + 1)
  below_more xs k x m up spot less j d h =
      let at : L (get_or xs m d) k = subst (λ y. L y k) (sym (spot.is d)) less in
      ⊎_elim
      (λ e. subst (λ i. L (get_or xs i d) k) (sym e) at)
      (λ ne. chain _ _ _ (up j m d (omega (arith, ne)) spot.within) at)
      (cases_eq j m)

  -- the search goes on to the left
  pub above_more : (xs : List K) (k x : K) (m : ℕ) → Rises L xs → Spot xs x m → L k x → Above L xs k m
  above_more xs k x m up spot more j d le in_it =
      let at : L k (get_or xs m d) = subst (λ y. L k y) (sym (spot.is d)) more in
      ⊎_elim
      (λ e. subst (λ i. L k (get_or xs i d)) (sym e) at)
      (λ ne. chain _ _ _ at (up m j d (omega (arith, ne)) in_it))
      (cases_eq j m)

-- what a copy inside the places leaves: zs has at `dest` and above what xs has from `from` on, below `to`
abbrev pub Moved : {K : Type 0} → List K → List K → ℕ → ℕ → ℕ → Type 0
Moved {K} xs zs from to dest =
    ((k : ℕ) (d : K) → dest ≤ k → k < dest + (to - from) → get_or zs k d ≡ get_or xs (from + (k - dest)) d)
    × ((k : ℕ) (d : K) → k < dest → get_or zs k d ≡ get_or xs k d)
    × ((k : ℕ) (d : K) → dest + (to - from) ≤ k → get_or zs k d ≡ get_or xs k d)

-- ys is xs with k put in at `at`
pub record Insertion {K : Type 0} (xs ys : List K) (k : K) (at : ℕ) : Type 0 where
  pub len : length ys ≡ length xs + 1
  pub before : (j : ℕ) (d : K) → j < at → get_or ys j d ≡ get_or xs j d
  pub here : (d : K) → get_or ys at d ≡ k
  pub after : (j : ℕ) (d : K) → at < j → j < length ys → get_or ys j d ≡ get_or xs (j - 1) d

-- ys is xs without what stood at `at`
pub record Deletion {K : Type 0} (xs ys : List K) (at : ℕ) : Type 0 where
  pub len : length ys + 1 ≡ length xs
  pub before : (j : ℕ) (d : K) → j < at → get_or ys j d ≡ get_or xs j d
  pub after : (j : ℕ) (d : K) → at ≤ j → j < length ys → get_or ys j d ≡ get_or xs (j + 1) d

module _ {K : Type 0} (xs zs : List K) (m n at : ℕ) (count : n ≡ length (take m xs)) (same : length zs ≡ length xs) where
  -- what the code makes of the places as it puts a key in
  pub insertion_from_moved : (k : K) → at ≤ n → n < length xs → Moved xs zs at n (at + 1) → Insertion (take m xs) (take (n + 1) (set zs at k)) k at
  insertion_from_moved k le lt moved =
      let long : length (take (n + 1) (set zs at k)) ≡ n + 1 = rw (length-take, length-set) (omega arith) in
      record {
        len = long ∙ ap (λ q. q + 1) count;
        before = λ j d h.
            let ne : j ≢ at = omega arith in
            let in_it : j < length (take m xs) = omega arith in
            get_or-take (n + 1) (set zs at k) j d (omega arith) ∙ get_or-set_other zs at j k d ne ∙ moved.1 j d (omega arith) ∙ sym (item_at xs m j d in_it d);
        here = λ d. get_or-take (n + 1) (set zs at k) at d (omega arith) ∙ get_or-set_same zs at k d (omega arith);
        after = λ j d h b.
            let ne : j ≢ at = omega arith in
            let in_it : j - 1 < length (take m xs) = omega arith in
            let place : at + (j - (at + 1)) ≡ j - 1 = omega arith in
            get_or-take (n + 1) (set zs at k) j d (omega arith) ∙ get_or-set_other zs at j k d ne ∙ moved.0 j d (omega arith) (omega arith) ∙ ap (λ q. get_or xs q d) place ∙ sym (item_at xs m (j - 1) d in_it d);
      }

  -- what the code makes of the places as it takes a key out
  pub deletion_from_moved : at < n → Moved xs zs (at + 1) n at → Deletion (take m xs) (take (n - 1) zs) at
  deletion_from_moved lt moved =
      let fits : n ≤ length xs = omega (arith, length-take m xs) in
      let long : length (take (n - 1) zs) ≡ n - 1 = rw length-take (omega arith) in
      record {
        len = omega arith;
        before = λ j d h.
            let in_it : j < length (take m xs) = omega arith in
            get_or-take (n - 1) zs j d (omega arith) ∙ moved.1 j d h ∙ sym (item_at xs m j d in_it d);
        after = λ j d h b.
            let in_it : j + 1 < length (take m xs) = omega arith in
            let place : (at + 1) + (j - at) ≡ j + 1 = omega arith in
            get_or-take (n - 1) zs j d (omega arith) ∙ moved.0 j d h (omega arith) ∙ ap (λ q. get_or xs q d) place ∙ sym (item_at xs m (j + 1) d in_it d);
      }

-- a key that is put in joins the others
pub inserted_with : {K : Type 0} (xs ys : List K) (k : K) (at : ℕ) → at ≤ length xs → Insertion xs ys k at → With xs k ys
inserted_with xs ys k at le ins =
    let n = ins.len in
    record {
      old = λ x has.
          ⊎_elim
          (λ b. (has.0, omega (arith, has.1), λ d. ins.before has.0 d b ∙ has.2 d))
          (λ a.
          let inside : has.0 + 1 < length ys = omega (arith, has.1) in
          let place : (has.0 + 1) - 1 ≡ has.0 = omega arith in
          (has.0 + 1, inside, λ d. ins.after (has.0 + 1) d (omega arith) inside ∙ ap (λ q. get_or xs q d) place ∙ has.2 d))
          (cases_lt has.0 at);
      new = (at, omega arith, ins.here);
      only = λ x has.
          ⊎_elim
          (λ e. inr (sym (has.2 x) ∙ ap (λ q. get_or ys q x) e ∙ ins.here x))
          (λ ne. inl (⊎_elim
          (λ b. (has.0, omega arith, λ d. sym (ins.before has.0 d b) ∙ has.2 d))
          (λ a. (has.0 - 1, omega (arith, ne, has.1), λ d. sym (ins.after has.0 d (omega (arith, ne)) has.1) ∙ has.2 d))
          (cases_lt has.0 at)))
          (cases_eq has.0 at);
    }

module _ {K : Type 0} (L : K → K → Type 0) where
  -- a list goes on rising as a key is put into its gap
  pub inserted_rises : (xs ys : List K) (k : K) (at : ℕ) → Rises L xs → Gap L xs k at → Insertion xs ys k at → Rises L ys
  inserted_rises xs ys k at up gap ins i j d ij jl =
      let n = ins.len in
      ⊎_elim
      (λ je. subst (λ q. L (get_or ys i d) (get_or ys q d)) (sym je)
      (subst (λ y. L (get_or ys i d) y) (sym (ins.here d))
      (subst (λ y. L y k) (sym (ins.before i d (omega arith))) (gap.below i d (omega arith)))))
      (λ jn. ⊎_elim
      (λ jb. subst (λ y. L y (get_or ys j d)) (sym (ins.before i d (omega arith)))
      (subst (λ y. L (get_or xs i d) y) (sym (ins.before j d jb)) (up i j d ij (omega (arith, gap.within)))))
      (λ ja. subst (λ y. L (get_or ys i d) y) (sym (ins.after j d (omega (arith, jn)) jl))
      (⊎_elim
      (λ ie. subst (λ q. L (get_or ys q d) (get_or xs (j - 1) d)) (sym ie)
      (subst (λ y. L y (get_or xs (j - 1) d)) (sym (ins.here d)) (gap.above (j - 1) d (omega (arith, jn)) (omega arith))))
      (λ ne. ⊎_elim
      (λ ib. subst (λ y. L y (get_or xs (j - 1) d)) (sym (ins.before i d ib)) (up i (j - 1) d (omega (arith, jn)) (omega arith)))
      (λ ia. subst (λ y. L y (get_or xs (j - 1) d)) (sym (ins.after i d (omega (arith, ne)) (omega arith))) (up (i - 1) (j - 1) d (omega (arith, ne)) (omega arith)))
      (cases_lt i at))
      (cases_eq i at)))
      (cases_lt j at))
      (cases_eq j at)

  -- a list goes on rising as a key is taken out
  pub deleted_rises : (xs ys : List K) (at : ℕ) → Rises L xs → Deletion xs ys at → Rises L ys
  deleted_rises xs ys at up del i j d ij jl =
      let n = del.len in
      ⊎_elim
      (λ jb. subst (λ y. L y (get_or ys j d)) (sym (del.before i d (omega arith)))
      (subst (λ y. L (get_or xs i d) y) (sym (del.before j d jb)) (up i j d ij (omega arith))))
      (λ ja. subst (λ y. L (get_or ys i d) y) (sym (del.after j d ja jl))
      (⊎_elim
      (λ ib. subst (λ y. L y (get_or xs (j + 1) d)) (sym (del.before i d ib)) (up i (j + 1) d (omega arith) (omega arith)))
      (λ ia. subst (λ y. L y (get_or xs (j + 1) d)) (sym (del.after i d ia (omega arith))) (up (i + 1) (j + 1) d (omega arith) (omega arith)))
      (cases_lt i at)))
      (cases_lt j at)

module _ {K : Type 0} (L : K → K → Type 0) (never : (x : K) → L x x → ⊥) where
  -- a key with a gap is in no place
  pub gap_missing : (xs : List K) (k : K) (at : ℕ) → Gap L xs k at → Has xs k → ⊥
  gap_missing xs k at gap (i, lt, is) =
      ⊎_elim
      (λ b. never k (subst (λ y. L y k) (is k) (gap.below i k b)))
      (λ a. never k (subst (λ y. L k y) (is k) (gap.above i k a lt)))
      (cases_lt i at)

  -- a key that is taken out leaves the others
  pub deleted_without : (xs ys : List K) (k : K) (at : ℕ) → Rises L xs → Spot xs k at → Deletion xs ys at → Without xs k ys
  deleted_without xs ys k at up spot del =
      let n = del.len in
      let w = spot.within in
      record {
        old = λ x has.
            ⊎_elim
            (λ e. inr (sym (has.2 x) ∙ ap (λ q. get_or xs q x) e ∙ spot.is x))
            (λ ne. inl (⊎_elim
            (λ b. (has.0, omega arith, λ d. del.before has.0 d b ∙ has.2 d))
            (λ a.
            let inside : has.0 - 1 < length ys = omega (arith, ne, has.1) in
            let place : (has.0 - 1) + 1 ≡ has.0 = omega (arith, ne) in
            (has.0 - 1, inside, λ d. del.after (has.0 - 1) d (omega (arith, ne)) inside ∙ ap (λ q. get_or xs q d) place ∙ has.2 d))
            (cases_lt has.0 at)))
            (cases_eq has.0 at);
        gone = λ has.
            ⊎_elim
            (λ b. never k (subst (λ y. L y k) (sym (del.before has.0 k b) ∙ has.2 k) (subst (λ y. L (get_or xs has.0 k) y) (spot.is k) (up has.0 at k b w))))
            (λ a. never k (subst (λ y. L k y) (sym (del.after has.0 k a has.1) ∙ has.2 k) (subst (λ y. L y (get_or xs (has.0 + 1) k)) (spot.is k) (up at (has.0 + 1) k (omega arith) (omega (arith, has.1))))))
            (cases_lt has.0 at);
        only = λ x has.
            ⊎_elim
            (λ b. (has.0, omega (arith, has.1), λ d. sym (del.before has.0 d b) ∙ has.2 d))
            (λ a. (has.0 + 1, omega (arith, has.1), λ d. sym (del.after has.0 d a has.1) ∙ has.2 d))
            (cases_lt has.0 at);
      }
