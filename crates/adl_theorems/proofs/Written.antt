-- Entries that stand written in a table, and how they are read.
use Rattle.std.proofs.Common.{◌≡◌, ℕ, zero, suc, ◌+◌, ◌-◌, ◌<◌, ◌≤◌, Bool, true, not, ◌||◌, ltb, List, [], ◌∷◌, ◌++◌, map, length, get_or, sym, refl, ap, ◌∙◌, subst, ⊎_elim, arith}
use Rattle.std.proofs.lemmas.Bool.{lt-ltb, and_from, cases_lt}
use Rattle.std.proofs.lemmas.List.{length-append, length-map, length_push, get_or_append_left, get_or_push, get_or-map}
use Rattle.table.specs.declared.places.Place.{Place}
use Rattle.table.specs.Permits.{permitted}
use Rattle.table.specs.Reading.{Entry, entry, Out, good, then, unless, many}
use Rattle.model.specs.Lists.{below, gather}
use Rattle.model.specs.Forming.{Each}
use Rattle.adl.specs.Tables.{Table, entry_at, Around, most_entries, most_quantifiers, is_quantifier, within_bounds, in_range, head}
use Rattle.adl_theorems.specs.Writes.{entries_of}

-- these entries stand from place i on
abbrev pub Stand : Table → List Entry → ℕ → Type 0
Stand t [] i = Unit {0}
Stand t (e ∷ es) i = (entry_at t i ≡ e) × Stand t es (i + 1)

-- these entries stand from place i to place j, which is not beyond the last entry of the table
pub record Written (t : Table) (es : List Entry) (i j : ℕ) : Type 0 where
  pub stand : Stand t es i
  pub ends : j ≡ i + length es
  pub inside : j ≤ t.entries

-- no entries end where they begin
pub written_none : {t : Table} {i j : ℕ} → Written t [] i j → i ≡ j
written_none s = omega arith

-- the first entry alone
pub written_first : {t : Table} {e : Entry} {es : List Entry} {i j : ℕ} → Written t (e ∷ es) i j → Written t (e ∷ []) i (i + 1)
written_first s = record { stand = (s.stand.0, tt); ends = omega arith; inside = omega arith }

-- all entries but the first
pub written_rest : {t : Table} {e : Entry} {es : List Entry} {i j : ℕ} → Written t (e ∷ es) i j → Written t es (i + 1) j
written_rest s = record { stand = s.stand.1; ends = omega arith; inside = s.inside }

-- entries that stand one after the other
stand_split : (t : Table) (es fs : List Entry) (i : ℕ) → Stand t (es ++ fs) i → Stand t es i × Stand t fs (i + length es)
stand_split t [] fs i s = let n : i ≡ i + 0 = omega arith in (tt, subst (λ k. Stand t fs k) n s)
stand_split t (e ∷ es) fs i s =
    let w = stand_split t es fs (i + 1) s.1 in
    let n : i + 1 + length es ≡ i + suc (length es) = omega arith in
    ((s.0, w.0), subst (λ k. Stand t fs k) n w.1)

-- what stands from place i to place j, in two parts
pub written_split : (t : Table) (es fs : List Entry) (i j : ℕ) → Written t (es ++ fs) i j → Written t es i (i + length es) × Written t fs (i + length es) j
written_split t es fs i j s =
    let w = stand_split t es fs i s.stand in
    let n : length (es ++ fs) ≡ length es + length fs = length-append es fs in
    (record { stand = w.0; ends = refl; inside = omega (arith, s.ends, s.inside) }, record { stand = w.1; ends = omega (arith, s.ends); inside = s.inside })

-- the entry k places on
pub stand_nth : (t : Table) (es : List Entry) (i k : ℕ) → k < length es → Stand t es i → entry_at t (i + k) ≡ get_or es k (entry 0 0)
stand_nth t [] i k l s = absurd (omega arith)
stand_nth t (e ∷ es) i zero l s = let n : i + 0 ≡ i = omega arith in ap (entry_at t) n ∙ s.0
stand_nth t (e ∷ es) i (suc k) l s = let n : i + suc k ≡ i + 1 + k = omega arith in ap (entry_at t) n ∙ stand_nth t es (i + 1) k (omega arith) s.1

-- entries each of which stands at its place
stand_each : (t : Table) (es : List Entry) (i : ℕ) → ((k : ℕ) → k < length es → entry_at t (i + k) ≡ get_or es k (entry 0 0)) → Stand t es i
stand_each t [] i h = tt
stand_each t (e ∷ es) i h =
    let n : i + 0 ≡ i = omega arith in
    let first : entry_at t i ≡ e = ap (entry_at t) (sym n) ∙ h 0 (omega arith) in
    (first, stand_each t es (i + 1) λ k l. let m : i + 1 + k ≡ i + suc k = omega arith in ap (entry_at t) m ∙ h (suc k) (omega arith))

-- there are n numbers below n
length_below : (n : ℕ) → length (below n) ≡ n
unfolding below
length_below zero = refl
length_below (suc n) = length_push (below n) n ∙ (let e = length_below n in omega arith)

-- each number below n stands at its own place
nth_below : (n k : ℕ) → k < n → get_or (below n) k 0 ≡ k
unfolding below
nth_below zero k h = absurd (omega arith)
nth_below (suc n) k h = ⊎_elim
    (λ l. get_or_append_left (below n) (n ∷ []) 0 k (omega (arith, length_below n)) ∙ nth_below n k l)
    (λ l. let e : k ≡ n = omega arith in get_or_push (below n) n 0 k (length_below n ∙ sym e) ∙ sym e)
    (cases_lt k n)

-- a table has as many entries as its list of entries
length_whole : (t : Table) (es : List Entry) → entries_of t ≡ es → length es ≡ t.entries
length_whole t es e = sym (ap (λ xs. length xs) e) ∙ length-map (below t.entries) (entry_at t) ∙ length_below t.entries

-- each entry of a table stands at its place in the list
nth_whole : (t : Table) (es : List Entry) (k : ℕ) → entries_of t ≡ es → k < t.entries → entry_at t k ≡ get_or es k (entry 0 0)
nth_whole t es k e h =
    ap (entry_at t) (sym (nth_below t.entries k h))
    ∙ sym (get_or-map (entry_at t) (below t.entries) k 0 (entry 0 0) (omega (arith, length_below t.entries)))
    ∙ ap (λ xs. get_or xs k (entry 0 0)) e

-- the entries of a table stand in it from its first place to its last
pub written_whole : (t : Table) (es : List Entry) → entries_of t ≡ es → Written t es 0 t.entries
written_whole t es e =
    let l : length es ≡ t.entries = length_whole t es e in
    let s : Stand t es 0 = stand_each t es 0 (λ k h. let z : 0 + k ≡ k = omega arith in ap (entry_at t) z ∙ nth_whole t es k e (omega arith)) in
    record { stand = s; ends = omega arith; inside = omega arith }

-- an entry that passes all tests is read
all_pass : (a b c d : Bool) (x : Entry) (i : ℕ) → a ≡ true → b ≡ true → c ≡ true → d ≡ true → unless a 4 i (unless b 3 i (unless c 6 i (unless d 5 i (good x (i + 1))))) ≡ good x (i + 1)
all_pass a b c d x i p q r s = rw (p, q, r, s)

-- what reading the entry e at place i gives
abbrev head_of : Table → Place → Around → ℕ → Entry → Out Entry
head_of t p a i e = unless (ltb i t.entries) 4 i (unless (permitted p e.kind) 3 i (unless (within_bounds a i e) 6 i (unless (in_range t a e) 5 i (good e (i + 1)))))

-- quantifiers are not nested too deep for an entry of this kind
abbrev pub shallow : Around → ℕ → Bool
shallow a k = not (is_quantifier k) || ltb a.quantifiers most_quantifiers

-- the first of the entries of a formula or an effect is read where it is permitted, not too deep and in range
pub head_reads : {e : Entry} {es : List Entry} {i j : ℕ} (t : Table) (p : Place) (a : Around) → Written t (e ∷ es) i j → j ≤ a.start + most_entries
    → permitted p e.kind ≡ true → shallow a e.kind ≡ true → in_range t a e ≡ true → head t p a i ≡ good e (i + 1)
head_reads {e} {es} {i} {j} t p a s b k q r =
    ap (head_of t p a i) s.stand.0
    ∙ all_pass (ltb i t.entries) (permitted p e.kind) (within_bounds a i e) (in_range t a e) e i
    (lt-ltb i t.entries (omega arith)) k (and_from (ltb (i - a.start) most_entries) (shallow a e.kind) (lt-ltb (i - a.start) most_entries (omega arith)) q) r

-- what is made of a reading that goes well
pub made : {A B : Type 0} (f : A → B) (o : Out A) (x : A) (j : ℕ) → o ≡ good x j → then o (λ a k. good (f a) k) ≡ good (f x) j
made f o x j e = ap (λ y. then y (λ a k. good (f a) k)) e

-- what is made of two readings, one after the other
pub made_two : {A B C : Type 0} (f : A → B → C) (o : Out A) (p : ℕ → Out B) (x : A) (y : B) (j k : ℕ) → o ≡ good x j → p j ≡ good y k → then o (λ a l. then (p l) λ b m. good (f a b) m) ≡ good (f x y) k
made_two f o p x y j k e h = ap (λ z. then z (λ a l. then (p l) λ b m. good (f a b) m)) e ∙ made (f x) (p j) y k h

-- one more item
pub many_more : {A : Type 0} (read : ℕ → Out A) (m i j k : ℕ) (x : A) (xs : List A) → read i ≡ good x j → many read m j ≡ good xs k → many read (suc m) i ≡ good (x ∷ xs) k
many_more read m i j k x xs e h = made_two (λ a rest. a ∷ rest) (read i) (λ l. many read m l) x xs j k e h

-- items that are written one after the other are read one after the other
pub gathered_read : {A : Type 0} (t : Table) (read : ℕ → Out A) (write : A → List Entry) (P : A → Type 0) → ((x : A) (i j : ℕ) → P x → Written t (write x) i j → read i ≡ good x j)
    → (xs : List A) (i j : ℕ) → Each P xs → Written t (gather write xs) i j → many read (length xs) i ≡ good xs j
gathered_read t read write P h [] i j p s = ap (good []) (written_none s)
gathered_read t read write P h (x ∷ xs) i j p s =
    let w = written_split t (write x) (gather write xs) i j s in
    let k : ℕ = i + length (write x) in
    many_more read (length xs) i k j x xs (h x i k p.0 w.0) (gathered_read t read write P h xs k j p.1 w.1)

-- entries as items of one entry each
as_gathered : (f : ℕ → Entry) (xs : List ℕ) → map f xs ≡ gather (λ x. f x ∷ []) xs
as_gathered f [] = refl
as_gathered f (x ∷ xs) = ap (λ es. f x ∷ es) (as_gathered f xs)

-- numbers that are written as one entry each are read one after the other
pub singles_read : (t : Table) (read : ℕ → Out ℕ) (f : ℕ → Entry) (P : ℕ → Type 0) → ((x i j : ℕ) → P x → Written t (f x ∷ []) i j → read i ≡ good x j)
    → (xs : List ℕ) (i j : ℕ) → Each P xs → Written t (map f xs) i j → many read (length xs) i ≡ good xs j
singles_read t read f P h xs i j p s = gathered_read t read (λ x. f x ∷ []) P h xs i j p (subst (λ es. Written t es i j) (as_gathered f xs) s)
