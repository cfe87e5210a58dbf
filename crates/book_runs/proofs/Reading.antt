-- Readings that went well, from their first entry on.
use Rattle.std.proofs.Common.{◌≡◌, ℕ, zero, suc, ◌+◌, ◌-◌, ◌<◌, Bool, true, false, ltb, List, ◌∷◌, get_or, sym, refl, ap, ◌∙◌, subst, arith}
use Rattle.std.proofs.lemmas.Bool.{ltb-true}
use Rattle.table.specs.declared.places.Place.{Place}
use Rattle.table.specs.Permits.{permitted}
use Rattle.table.specs.Answers.{is_good}
use Rattle.table.specs.Reading.{Entry, Out, bad, good, then, unless, many, next_place}
use Rattle.book.specs.Tables.{Table, entry_at, in_range, head}
use Rattle.book_runs.specs.Standing.{items_in}

-- a fault did not go well
pub not_good : {B : Type 0} (A : Type 0) (n p : ℕ) → is_good {A = A} (bad n p) ≡ true → B
not_good A n p e = absurd (let z : ◌≡◌ {A = ℕ} 0 1 = cc in omega arith)

-- a test before something that went well has passed
pub passed : {A : Type 0} (b : Bool) (n i : ℕ) (o : Out A) → is_good (unless b n i o) ≡ true → (b ≡ true) × (unless b n i o ≡ o)
passed true n i o e = (refl, refl)
passed {A} false n i o e = not_good A n i e

-- what is known of an entry that may stand at its place
pub record Headed (t : Table) (p : Place) (levels i : ℕ) : Type 0 where
  pub inside : i < t.entries
  pub permits : permitted p (get_or t.kinds i 0) ≡ true
  pub deep : 0 < levels
  pub ranged : in_range t (entry_at t i) ≡ true
  pub reads : head t p levels i ≡ good (entry_at t i) (i + 1)

pub headed : (t : Table) (p : Place) (levels i : ℕ) → is_good (head t p levels i) ≡ true → Headed t p levels i
headed t p levels i e =
    let fourth = good (entry_at t i) (i + 1) in
    let third = unless (in_range t (entry_at t i)) 5 i fourth in
    let second = unless (ltb 0 levels) 6 i third in
    let first = unless (permitted p (get_or t.kinds i 0)) 3 i second in
    let w = passed (ltb i t.entries) 4 i first e in
    let x = passed (permitted p (get_or t.kinds i 0)) 3 i second (ap is_good (sym w.1) ∙ e) in
    let y = passed (ltb 0 levels) 6 i third (ap is_good (sym (w.1 ∙ x.1)) ∙ e) in
    let z = passed (in_range t (entry_at t i)) 5 i fourth (ap is_good (sym (w.1 ∙ x.1 ∙ y.1)) ∙ e) in
    record { inside = ltb-true _ _ w.0; permits = x.0; deep = ltb-true _ _ y.0; ranged = z.0; reads = w.1 ∙ x.1 ∙ y.1 ∙ z.1 }

-- the first step of what went well went well
pub first_good : {A B : Type 0} (o : Out A) (f : A → ℕ → Out B) → is_good (then o f) ≡ true → is_good o ≡ true
first_good {A} {B} (bad n p) f e = not_good B n p e
first_good (good a j) f e = refl

-- what goes well goes on from its first entry
pub goes : {B : Type 0} (t : Table) (p : Place) (levels i : ℕ) (f : Entry → ℕ → Out B) → is_good (then (head t p levels i) f) ≡ true
    → Headed t p levels i × (then (head t p levels i) f ≡ f (entry_at t i) (i + 1))
goes t p levels i f e =
    let h = headed t p levels i (first_good (head t p levels i) f e) in
    (h, ap (λ o. then o f) h.reads)

-- what is made of what was read ends where that ends, and went well if that did
module _ {A B : Type 0} (f : A → B) where
  pub same_end : (o : Out A) → next_place (then o (λ a k. good (f a) k)) ≡ next_place o
  same_end (bad n p) = refl
  same_end (good a j) = refl

-- the first of m items, and the others from place j on
pub record First {A : Type 0} (read : ℕ → Out A) (m i j : ℕ) : Type 0 where
  pub item : A
  pub reads : read i ≡ good item j
  pub others : is_good (many read (m - 1) j) ≡ true
  pub items : items_in (many read m i) ≡ item ∷ items_in (many read (m - 1) j)
  pub ends : next_place (many read (m - 1) j) ≡ next_place (many read m i)

after_first : {A : Type 0} (x : A) (o : Out (List A)) → is_good (then o λ rest k. good (x ∷ rest) k) ≡ true
    → (is_good o ≡ true) × (items_in (then o λ rest k. good (x ∷ rest) k) ≡ x ∷ items_in o) × (next_place (then o λ rest k. good (x ∷ rest) k) ≡ next_place o)
after_first {A} x (bad n p) e = not_good (List A) n p e
after_first x (good xs k) e = (refl, refl, refl)

first_by : {A : Type 0} (read : ℕ → Out A) (n : ℕ) (o : Out A)
    → is_good (then o λ a j. then (many read n j) λ rest k. good (a ∷ rest) k) ≡ true
    → (x : A) × (o ≡ good x (next_place o)) × (is_good (many read n (next_place o)) ≡ true)
    × (items_in (then o λ a j. then (many read n j) λ rest k. good (a ∷ rest) k) ≡ x ∷ items_in (many read n (next_place o)))
    × (next_place (many read n (next_place o)) ≡ next_place (then o λ a j. then (many read n j) λ rest k. good (a ∷ rest) k))
first_by {A} read n (bad m p) e = not_good (List A) m p e
first_by read n (good x j) e = let w = after_first x (many read n j) e in (x, refl, w.0, w.1, sym w.2)

pub first : {A : Type 0} (read : ℕ → Out A) (m i j : ℕ) → 0 < m → j ≡ next_place (read i) → is_good (many read m i) ≡ true → First read m i j
first read zero i j l p e = absurd (omega arith)
first {A} read (suc n) i j l p e =
    let P : ℕ → ℕ → Type 0 = λ x k. (y : A) × (read i ≡ good y k) × (is_good (many read x k) ≡ true) × (items_in (many read (suc n) i) ≡ y ∷ items_in (many read x k)) × (next_place (many read x k) ≡ next_place (many read (suc n) i)) in
    let q : n ≡ suc n - 1 = omega arith in
    let w = subst (λ x. P x j) q (subst (λ k. P n k) (sym p) (first_by read n (read i) e)) in
    record { item = w.0; reads = w.1; others = w.2; items = w.3; ends = w.4 }

-- the first of m items went well
pub first_stands : {A : Type 0} (read : ℕ → Out A) (m i : ℕ) → 0 < m → is_good (many read m i) ≡ true → is_good (read i) ≡ true
first_stands read zero i l e = absurd (omega arith)
first_stands read (suc n) i l e = first_good (read i) (λ a j. then (many read n j) λ rest k. good (a ∷ rest) k) e
