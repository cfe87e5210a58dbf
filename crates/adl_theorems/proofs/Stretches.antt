-- The entries of a table from one place to another.
use Rattle.std.proofs.Common.{◌≡◌, ℕ, zero, suc, ◌+◌, ◌<◌, ◌≤◌, List, [], ◌∷◌, ◌++◌, map, length, sym, refl, ap, ◌∙◌, subst, arith, length-append}
use mathlib.Core.List.{map-append}
use Rattle.table.specs.Reading.{Entry, Out, good, series, many}
use Rattle.model.specs.Lists.{below, gather}
use Rattle.adl.specs.Tables.{Table, entry_at}
use Rattle.table.proofs.Reading.{series_opens}

-- the n entries from place i
abbrev pub stretch : Table → ℕ → ℕ → List Entry
stretch t i zero = []
stretch t i (suc n) = entry_at t i ∷ stretch t (i + 1) n

-- the entries from place i to place j are these, and do not go past n if they begin before it
pub record Spells (t : Table) (n : ℕ) (es : List Entry) (i j : ℕ) : Type 0 where
  pub text : stretch t i (length es) ≡ es
  pub place : j ≡ i + length es
  pub under : i ≤ n → j ≤ n

-- items of one entry each are those entries
pub gather_singles : {A B : Type 0} (f : A → B) (xs : List A) → gather (λ x. f x ∷ []) xs ≡ map f xs
gather_singles f [] = refl
gather_singles f (x ∷ xs) = ap (λ ys. f x ∷ ys) (gather_singles f xs)

module _ (t : Table) where
  -- a stretch is its first part and its second
  pub stretch_append : (i m n : ℕ) → stretch t i (m + n) ≡ stretch t i m ++ stretch t (i + m) n
  stretch_append i zero n =
      let a : zero + n ≡ n = omega arith in
      let b : i ≡ i + zero = omega arith in
      ap (stretch t i) a ∙ ap (λ x. stretch t x n) b
  stretch_append i (suc m) n =
      let a : suc m + n ≡ suc (m + n) = omega arith in
      let b : i + 1 + m ≡ i + suc m = omega arith in
      ap (stretch t i) a ∙ ap (λ x. entry_at t i ∷ x) (stretch_append (i + 1) m n ∙ ap (λ x. stretch t (i + 1) m ++ stretch t x n) b)

  -- the first n entries of the table
  pub first_entries : (n : ℕ) → map (entry_at t) (below n) ≡ stretch t 0 n
  unfolding below
  first_entries zero = refl
  first_entries (suc n) =
      let a : n + 1 ≡ suc n = omega arith in
      let b : 0 + n ≡ n = omega arith in
      map-append (entry_at t) (below n) (n ∷ [])
      ∙ ap (λ x. x ++ (entry_at t n ∷ [])) (first_entries n)
      ∙ ap (λ x. stretch t 0 n ++ (entry_at t x ∷ [])) (sym b)
      ∙ sym (stretch_append 0 n 1)
      ∙ ap (stretch t 0) a

  module _ (n : ℕ) where
    -- no entries
    pub spells_none : (i : ℕ) → Spells t n [] i i
    spells_none i = record { text = refl; place = omega arith; under = λ h. h }

    -- one entry, and others after it
    pub spells_first : (i : ℕ) (e : Entry) (es : List Entry) (j : ℕ) → entry_at t i ≡ e → i < n → Spells t n es (i + 1) j → Spells t n (e ∷ es) i j
    spells_first i e es j h low s =
        record {
          text = ap (λ x. x ∷ stretch t (i + 1) (length es)) h ∙ ap (λ x. e ∷ x) s.text;
          place = omega (arith, s.place);
          under = λ _. s.under (omega arith);
        }

    -- one entry alone
    pub spells_one : (i : ℕ) (e : Entry) (j : ℕ) → entry_at t i ≡ e → i < n → j ≡ i + 1 → Spells t n (e ∷ []) i j
    spells_one i e j h low p = subst (Spells t n (e ∷ []) i) (sym p) (spells_first i e [] (i + 1) h low (spells_none (i + 1)))

    -- some entries, and others after them
    pub spells_both : (a b : List Entry) (i k j : ℕ) → Spells t n a i k → Spells t n b k j → Spells t n (a ++ b) i j
    spells_both a b i k j x y =
        record {
          text =
              ap (stretch t i) (length-append a b) ∙ stretch_append i (length a) (length b)
              ∙ ap (λ z. stretch t i (length a) ++ stretch t z (length b)) (sym x.place)
              ∙ ap (λ z. z ++ stretch t k (length b)) x.text ∙ ap (λ z. a ++ z) y.text;
          place = simp length-append (omega (arith, x.place, y.place));
          under = λ h. y.under (x.under h);
        }

    -- items one after the other
    pub spells_series : {A S : Type 0} (code : A → List Entry) (read : S → ℕ → Out A) (next : S → A → S)
        → ((s : S) (i : ℕ) (x : A) (j : ℕ) → read s i ≡ good x j → Spells t n (code x) i j)
        → (m : ℕ) (s : S) (i : ℕ) (xs : List A) (k : ℕ) → series read next m s i ≡ good xs k → Spells t n (gather code xs) i k
    spells_series code read next h zero s i xs k e =
        let p : i ≡ k = cc in
        let q : [] ≡ xs = cc in
        subst (λ ys. Spells t n (gather code ys) i k) q (subst (Spells t n [] i) p (spells_none i))
    spells_series code read next h (suc m) s i xs k e = series_opens read next m s i xs k e λ x j rest r u q.
        subst (λ ys. Spells t n (gather code ys) i k) (sym q)
        (spells_both (code x) (gather code rest) i j k (h s i x j r) (spells_series code read next h m (next s x) j rest k u))

    pub spells_many : {A : Type 0} (code : A → List Entry) (read : ℕ → Out A) → ((i : ℕ) (x : A) (j : ℕ) → read i ≡ good x j → Spells t n (code x) i j)
        → (m i : ℕ) (xs : List A) (k : ℕ) → many read m i ≡ good xs k → Spells t n (gather code xs) i k
    spells_many code read h m i xs k e = spells_series code (λ (_ : Unit {0}). read) (λ _ _. tt) (λ _. h) m tt i xs k e

    -- items of one entry each
    pub spells_singles : {A S : Type 0} (code : A → Entry) (read : S → ℕ → Out A) (next : S → A → S)
        → ((s : S) (i : ℕ) (x : A) (j : ℕ) → read s i ≡ good x j → Spells t n (code x ∷ []) i j)
        → (m : ℕ) (s : S) (i : ℕ) (xs : List A) (k : ℕ) → series read next m s i ≡ good xs k → Spells t n (map code xs) i k
    spells_singles code read next h m s i xs k e =
        subst (λ es. Spells t n es i k) (gather_singles code xs) (spells_series (λ x. code x ∷ []) read next h m s i xs k e)

    -- what ends inside other bounds
    pub spells_within : (m : ℕ) (es : List Entry) (i j : ℕ) → Spells t m es i j → j ≤ n → Spells t n es i j
    spells_within m es i j s h = record { text = s.text; place = s.place; under = λ _. h }
