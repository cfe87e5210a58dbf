-- Readings that went well, taken apart step by step.
use Rattle.std.proofs.Common.{◌≡◌, ℕ, zero, suc, ◌+◌, ◌-◌, ◌<◌, Bool, true, false, cond, List, [], ◌∷◌, length, get_or, sym, refl, ap, ◌∙◌, subst, arith}
use Rattle.table.specs.Reading.{Out, bad, good, then, unless, series, many, next_place, starts}

-- no reading is both a fault and good
pub bad_is_not_good : {A B : Type 0} (n p : ℕ) (x : A) (j : ℕ) → bad n p ≡ good x j → B
bad_is_not_good n p x j e = absurd (let z : ◌≡◌ {A = ℕ} 0 1 = cc in omega arith)

-- a whole that was read well has a first step that was read well
pub first_step : {A B : Type 0} (o : Out A) (g : A → ℕ → Out B) (b : B) (k : ℕ) → then o g ≡ good b k → (a : A) × (j : ℕ) × (o ≡ good a j) × (g a j ≡ good b k)
first_step (bad n p) g b k e = bad_is_not_good n p b k e
first_step (good a j) g b k e = (a, j, refl, e)

-- a test before something that was read well has passed
pub passed : {A : Type 0} (b : Bool) (n i : ℕ) (o : Out A) (x : A) (j : ℕ) → unless b n i o ≡ good x j → (b ≡ true) × (o ≡ good x j)
passed true n i o x j e = (refl, e)
passed false n i o x j e = bad_is_not_good n i x j e

-- what is known of one of two equal readings is known of the other
pub same_reading : {A : Type 0} (P : A → Type 0) (x y : A) (j k : ℕ) → good x j ≡ good y k → P x → P y
same_reading P x y j k e h = let q : x ≡ y = cc in subst P q h

-- the first step went well, and so did what came after it
pub read_on : {A B P : Type 0} (o : Out A) (g : A → ℕ → Out B) (b : B) (l : ℕ) → then o g ≡ good b l → ((a : A) (j : ℕ) → o ≡ good a j → g a j ≡ good b l → P) → P
read_on (bad n p) g b l e h = bad_is_not_good n p b l e
read_on (good a j) g b l e h = h a j refl e

-- what is made of a single step
pub made_of : {A B : Type 0} (P : B → Type 0) (o : Out A) (f : A → B) (b : B) (l : ℕ) → then o (λ a k. good (f a) k) ≡ good b l → ((a : A) (j : ℕ) → o ≡ good a j → P (f a)) → P b
made_of P o f b l e h = read_on o (λ a k. good (f a) k) b l e (λ a j r q. same_reading P (f a) b j l q (h a j r))

-- a choice came out one way or the other
pub by_test : {A P : Type 0} (b : Bool) (x y z : A) → cond b x y ≡ z → (b ≡ true → x ≡ z → P) → (b ≡ false → y ≡ z → P) → P
by_test true x y z e f g = f refl e
by_test false x y z e f g = g refl e

-- a series was read item after item: the first, and then the others
pub series_opens : {A S P : Type 0} (read : S → ℕ → Out A) (next : S → A → S) (m : ℕ) (s : S) (i : ℕ) (xs : List A) (k : ℕ) → series read next (suc m) s i ≡ good xs k
    → ((x : A) (j : ℕ) (rest : List A) → read s i ≡ good x j → series read next m (next s x) j ≡ good rest k → xs ≡ x ∷ rest → P) → P
series_opens read next m s i xs k e h =
    read_on (read s i) (λ a j. then (series read next m (next s a) j) λ rest l. good (a ∷ rest) l) xs k e λ x j r q.
    read_on (series read next m (next s x) j) (λ rest l. good (x ∷ rest) l) xs k q λ rest l u v.
    let y : x ∷ rest ≡ xs = cc in
    let z : l ≡ k = cc in
    h x j rest r (u ∙ ap (good rest) z) (sym y)

-- the place after what was read
pub last : {A : Type 0} (x y : A) (k l : ℕ) → good x k ≡ good y l → k ≡ l
last x y k l e = cc

-- Items one after the other, each in the light of what came before.
module _ {A S : Type 0} (read : S → ℕ → Out A) (next : S → A → S) where
  -- a series that was read well has a first item, and the others after it
  pub series_first : (m : ℕ) (s : S) (i : ℕ) (xs : List A) (k : ℕ) → 0 < m → series read next m s i ≡ good xs k
      → (a : A) × (j : ℕ) × (rest : List A) × (read s i ≡ good a j) × (series read next (m - 1) (next s a) j ≡ good rest k) × (xs ≡ a ∷ rest)
  series_first zero s i xs k h e = absurd (omega arith)
  series_first (suc m) s i xs k h e =
      let w = first_step (read s i) (λ a j. then (series read next m (next s a) j) λ rest l. good (a ∷ rest) l) xs k e in
      let v = first_step (series read next m (next s w.0) w.1) (λ rest l. good (w.0 ∷ rest) l) xs k w.3 in
      let n : suc m - 1 ≡ m = omega arith in
      let q : good (w.0 ∷ v.0) v.1 ≡ good xs k = v.3 in
      let l : v.1 ≡ k = cc in
      let y : w.0 ∷ v.0 ≡ xs = cc in
      let r : series read next m (next s w.0) w.1 ≡ good v.0 k = v.2 ∙ ap (good v.0) l in
      (w.0, w.1, v.0, w.2, ap (λ x. series read next x (next s w.0) w.1) n ∙ r, sym y)

  -- as many items were read as there are
  pub series_length : (m : ℕ) (s : S) (i : ℕ) (xs : List A) (k : ℕ) → series read next m s i ≡ good xs k → length xs ≡ m
  series_length zero s i xs k e = let q : [] ≡ xs = cc in sym (ap length q)
  series_length (suc m) s i xs k e =
      let w = series_first (suc m) s i xs k (omega arith) e in
      let n : suc m - 1 ≡ m = omega arith in
      let r : series read next m (next s w.0) w.1 ≡ good w.2 k = ap (λ x. series read next x (next s w.0) w.1) (sym n) ∙ w.4 in
      ap length w.5 ∙ ap suc (series_length m (next s w.0) w.1 w.2 k r)

  -- items of one entry each: the place after them, and each of them
  module _ (single : (s : S) (i : ℕ) (a : A) (j : ℕ) → read s i ≡ good a j → j ≡ i + 1) where
    pub singles_end : (m : ℕ) (s : S) (i : ℕ) (xs : List A) (k : ℕ) → series read next m s i ≡ good xs k → k ≡ i + m
    singles_end zero s i xs k e = let q : i ≡ k = cc in omega (arith, q)
    singles_end (suc m) s i xs k e =
        let w = series_first (suc m) s i xs k (omega arith) e in
        let n : suc m - 1 ≡ m = omega arith in
        let r : series read next m (next s w.0) w.1 ≡ good w.2 k = ap (λ x. series read next x (next s w.0) w.1) (sym n) ∙ w.4 in
        omega (arith, single s i w.0 w.1 w.3, singles_end m (next s w.0) w.1 w.2 k r)

    pub singles_item : (d : A) (m : ℕ) (s : S) (i : ℕ) (xs : List A) (k : ℕ) → series read next m s i ≡ good xs k → (x : ℕ) → x < m → (z : S) × (read z (i + x) ≡ good (get_or xs x d) (i + x + 1))
    singles_item d zero s i xs k e x h = absurd (omega arith)
    singles_item d (suc m) s i xs k e zero h =
        let w = series_first (suc m) s i xs k (omega arith) e in
        let z : i + 0 ≡ i = omega arith in
        let j : w.1 ≡ i + 0 + 1 = omega (arith, single s i w.0 w.1 w.3) in
        (s, ap (λ y. read s y) z ∙ w.3 ∙ ap (good w.0) j ∙ ap (λ ys. good (get_or ys 0 d) (i + 0 + 1)) (sym w.5))
    singles_item d (suc m) s i xs k e (suc x) h =
        let w = series_first (suc m) s i xs k (omega arith) e in
        let n : suc m - 1 ≡ m = omega arith in
        let r : series read next m (next s w.0) w.1 ≡ good w.2 k = ap (λ y. series read next y (next s w.0) w.1) (sym n) ∙ w.4 in
        let v = singles_item d m (next s w.0) w.1 w.2 k r x (omega arith) in
        let z : i + suc x ≡ w.1 + x = omega (arith, single s i w.0 w.1 w.3) in
        let j : w.1 + x + 1 ≡ i + suc x + 1 = omega (arith, single s i w.0 w.1 w.3) in
        (v.0, ap (λ y. read v.0 y) z ∙ v.1 ∙ ap (good (get_or w.2 x d)) j ∙ ap (λ ys. good (get_or ys (suc x) d) (i + suc x + 1)) (sym w.5))

-- The same where an item needs nothing of the ones before.
module _ {A : Type 0} (read : ℕ → Out A) where
  -- the places where items begin, of which k are done
  pub starts_turn : (m k i j : ℕ) → k < m → next_place (read i) ≡ j → starts read (m - k) i ≡ i ∷ starts read (m - (k + 1)) j
  starts_turn m k i j h e =
      let n : m - k ≡ suc (m - (k + 1)) = omega arith in
      ap (λ x. starts read x i) n ∙ ap (λ y. i ∷ starts read (m - (k + 1)) y) e

  pub starts_over : (m i : ℕ) → m ≡ 0 → starts read m i ≡ []
  starts_over m i h = ap (λ n. starts read n i) h

  pub starts_length : (m i : ℕ) → length (starts read m i) ≡ m
  starts_length zero i = refl
  starts_length (suc m) i = ap suc (starts_length m (next_place (read i)))

  -- each item was read at the place where it begins
  pub many_item : (d : A) (m i : ℕ) (xs : List A) (k : ℕ) → many read m i ≡ good xs k → (x : ℕ) → x < m → (j : ℕ) × (read (get_or (starts read m i) x 0) ≡ good (get_or xs x d) j)
  many_item d zero i xs k e x h = absurd (omega arith)
  many_item d (suc m) i xs k e zero h =
      let w = series_first (λ (_ : Unit {0}). read) (λ _ _. tt) (suc m) tt i xs k (omega arith) e in
      (w.1, w.3 ∙ ap (λ ys. good (get_or ys 0 d) w.1) (sym w.5))
  many_item d (suc m) i xs k e (suc x) h =
      let w = series_first (λ (_ : Unit {0}). read) (λ _ _. tt) (suc m) tt i xs k (omega arith) e in
      let n : suc m - 1 ≡ m = omega arith in
      let q : w.1 ≡ next_place (read i) = ap (λ o. next_place o) (sym w.3) in
      let r : many read m (next_place (read i)) ≡ good w.2 k = ap (λ y. many read y (next_place (read i))) (sym n) ∙ ap (λ y. many read (suc m - 1) y) (sym q) ∙ w.4 in
      let v = many_item d m (next_place (read i)) w.2 k r x (omega arith) in
      (v.0, v.1 ∙ ap (λ ys. good (get_or ys (suc x) d) v.0) (sym w.5))
