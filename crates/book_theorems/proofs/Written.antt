-- Entries that stand in a table from one place to another.
use Rattle.std.proofs.Common.{◌≡◌, ℕ, zero, suc, ◌+◌, List, [], ◌∷◌, ◌++◌, map, length, sym, refl, ap, ◌∙◌, subst, arith, length-append}
use mathlib.Core.List.{map-append}
use Rattle.std.proofs.lemmas.List.{length-map, length_push}
use Rattle.table.specs.Reading.{Entry, entry, Out, good, series, many}
use Rattle.table.proofs.Reading.{series_opens}
use Rattle.model.specs.Lists.{below, gather}
use Rattle.book.specs.Tables.{Table, entry_at}
use Rattle.book_theorems.specs.Writes.{entries_of}

-- the n entries from place i
abbrev pub stretch : Table → ℕ → ℕ → List Entry
stretch t i zero = []
stretch t i (suc n) = entry_at t i ∷ stretch t (i + 1) n

-- the entries from place i to place j are these
pub record Written (t : Table) (es : List Entry) (i j : ℕ) : Type 0 where
  pub text : stretch t i (length es) ≡ es
  pub ends : j ≡ i + length es

-- the first of some entries, and the others
abbrev first_of : List Entry → Entry
first_of [] = entry 0 0
first_of (e ∷ es) = e

abbrev rest_of : List Entry → List Entry
rest_of [] = []
rest_of (e ∷ es) = es

-- items of one entry each are those entries
pub gather_singles : {A B : Type 0} (f : A → B) (xs : List A) → gather (λ x. f x ∷ []) xs ≡ map f xs
gather_singles f [] = refl
gather_singles f (x ∷ xs) = ap (λ ys. f x ∷ ys) (gather_singles f xs)

module _ (t : Table) where
  -- a stretch is its first part and its second
  stretch_append : (i m n : ℕ) → stretch t i (m + n) ≡ stretch t i m ++ stretch t (i + m) n
  stretch_append i zero n =
      let a : zero + n ≡ n = omega arith in
      let b : i ≡ i + zero = omega arith in
      ap (stretch t i) a ∙ ap (λ x. stretch t x n) b
  stretch_append i (suc m) n =
      let a : suc m + n ≡ suc (m + n) = omega arith in
      let b : i + 1 + m ≡ i + suc m = omega arith in
      ap (stretch t i) a ∙ ap (λ x. entry_at t i ∷ x) (stretch_append (i + 1) m n ∙ ap (λ x. stretch t (i + 1) m ++ stretch t x n) b)

  -- the first n entries of the table
  first_entries : (n : ℕ) → map (entry_at t) (below n) ≡ stretch t 0 n
  unfolding below
  first_entries zero = refl
  first_entries (suc n) =
      let a : n + 1 ≡ suc n = omega arith in
      let b : 0 + n ≡ n = omega arith in
      map-append (entry_at t) (below n) (n ∷ [])
      ∙ ap (λ x. x ++ (entry_at t n ∷ [])) (first_entries n)
      ∙ ap (λ x. stretch t 0 n ++ (entry_at t x ∷ [])) (sym b)
      ∙ sym (stretch_append 0 n 1)
      ∙ ap (stretch t 0) a

  -- there are n numbers below n
  length_below : (n : ℕ) → length (below n) ≡ n
  unfolding below
  length_below zero = refl
  length_below (suc n) = length_push (below n) n ∙ (let e = length_below n in omega arith)

  -- the entries of a table stand in it from its first place to its last
  pub written_whole : (es : List Entry) → entries_of t ≡ es → Written t es 0 t.entries
  written_whole es e =
      let l : length es ≡ t.entries = sym (ap (λ xs. length xs) e) ∙ length-map (below t.entries) (entry_at t) ∙ length_below t.entries in
      record { text = ap (stretch t 0) l ∙ sym (first_entries t.entries) ∙ e; ends = omega arith }

  -- and the other way round
  pub whole_written : (es : List Entry) → Written t es 0 t.entries → entries_of t ≡ es
  whole_written es w = let l : t.entries ≡ length es = omega (arith, w.ends) in first_entries t.entries ∙ ap (stretch t 0) l ∙ w.text

  -- no entries
  pub written_none : (i : ℕ) → Written t [] i i
  written_none i = record { text = refl; ends = omega arith }

  -- one entry, and others after it
  pub written_more : (i : ℕ) (e : Entry) (es : List Entry) (j : ℕ) → entry_at t i ≡ e → Written t es (i + 1) j → Written t (e ∷ es) i j
  written_more i e es j h s = record {
    text = ap (λ x. x ∷ stretch t (i + 1) (length es)) h ∙ ap (λ x. e ∷ x) s.text;
    ends = omega (arith, s.ends);
  }

  -- one entry alone
  pub written_one : (i : ℕ) (e : Entry) (j : ℕ) → entry_at t i ≡ e → j ≡ i + 1 → Written t (e ∷ []) i j
  written_one i e j h p = subst (Written t (e ∷ []) i) (sym p) (written_more i e [] (i + 1) h (written_none (i + 1)))

  -- some entries, and others after them
  pub written_both : (a b : List Entry) (i k j : ℕ) → Written t a i k → Written t b k j → Written t (a ++ b) i j
  written_both a b i k j x y =
      record {
        text =
            ap (stretch t i) (length-append a b) ∙ stretch_append i (length a) (length b)
            ∙ ap (λ z. stretch t i (length a) ++ stretch t z (length b)) (sym x.ends)
            ∙ ap (λ z. z ++ stretch t k (length b)) x.text ∙ ap (λ z. a ++ z) y.text;
        ends = simp length-append (omega (arith, x.ends, y.ends));
      }

  -- no entries end where they begin
  pub none_ends : (i j : ℕ) → Written t [] i j → i ≡ j
  none_ends i j s = omega (arith, s.ends)

  -- the first entry
  pub first_written : (i : ℕ) (e : Entry) (es : List Entry) (j : ℕ) → Written t (e ∷ es) i j → entry_at t i ≡ e
  first_written i e es j s = ap first_of s.text

  -- all entries but the first
  pub rest_written : (i : ℕ) (e : Entry) (es : List Entry) (j : ℕ) → Written t (e ∷ es) i j → Written t es (i + 1) j
  rest_written i e es j s = record { text = ap rest_of s.text; ends = omega (arith, s.ends) }

  -- what stands from place i to place j, in two parts
  pub written_split : (a b : List Entry) (i j : ℕ) → Written t (a ++ b) i j → Written t a i (i + length a) × Written t b (i + length a) j
  written_split [] b i j s = let n : i ≡ i + 0 = omega arith in (record { text = refl; ends = refl }, subst (λ k. Written t b k j) n s)
  written_split (e ∷ a) b i j s =
      let w = written_split a b (i + 1) j (rest_written i e (a ++ b) j s) in
      let n : i + 1 + length a ≡ i + suc (length a) = omega arith in
      (subst (Written t (e ∷ a) i) n (written_more i e a (i + 1 + length a) (first_written i e (a ++ b) j s) w.0), subst (λ k. Written t b k j) n w.1)

  -- items one after the other
  pub series_written : {A S : Type 0} (code : A → List Entry) (read : S → ℕ → Out A) (next : S → A → S)
      → ((s : S) (i : ℕ) (x : A) (j : ℕ) → read s i ≡ good x j → Written t (code x) i j)
      → (m : ℕ) (s : S) (i : ℕ) (xs : List A) (k : ℕ) → series read next m s i ≡ good xs k → Written t (gather code xs) i k
  series_written code read next h zero s i xs k e =
      let p : i ≡ k = cc in
      let q : [] ≡ xs = cc in
      subst (λ ys. Written t (gather code ys) i k) q (subst (Written t [] i) p (written_none i))
  series_written code read next h (suc m) s i xs k e = series_opens read next m s i xs k e λ x j rest r u q.
      subst (λ ys. Written t (gather code ys) i k) (sym q)
      (written_both (code x) (gather code rest) i j k (h s i x j r) (series_written code read next h m (next s x) j rest k u))

  pub many_written : {A : Type 0} (code : A → List Entry) (read : ℕ → Out A) → ((i : ℕ) (x : A) (j : ℕ) → read i ≡ good x j → Written t (code x) i j)
      → (m i : ℕ) (xs : List A) (k : ℕ) → many read m i ≡ good xs k → Written t (gather code xs) i k
  many_written code read h m i xs k e = series_written code (λ (_ : Unit {0}). read) (λ _ _. tt) (λ _. h) m tt i xs k e

  -- items of one entry each
  pub singles_written : {A S : Type 0} (code : A → Entry) (read : S → ℕ → Out A) (next : S → A → S)
      → ((s : S) (i : ℕ) (x : A) (j : ℕ) → read s i ≡ good x j → Written t (code x ∷ []) i j)
      → (m : ℕ) (s : S) (i : ℕ) (xs : List A) (k : ℕ) → series read next m s i ≡ good xs k → Written t (map code xs) i k
  singles_written code read next h m s i xs k e =
      subst (λ es. Written t es i k) (gather_singles code xs) (series_written (λ x. code x ∷ []) read next h m s i xs k e)
