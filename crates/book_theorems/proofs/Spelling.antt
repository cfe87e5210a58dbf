-- What is read of a table is written there.
use Rattle.std.proofs.Common.{◌≡◌, ℕ, zero, suc, ◌+◌, ◌≤◌, Bool, true, false, cond, ◌||◌, eqb, ltb, List, [], ◌∷◌, ◌++◌, map, length, get_or, sym, refl, ap, ◌∙◌, subst, ⊎_elim, arith}
use Rattle.std.proofs.lemmas.Bool.{eqb-true, and_parts, or_cases, or_parts}
use Rattle.table.specs.declared.places.Place.TheVariants as place
use Rattle.table.specs.Reading.{Entry, entry, Out, bad, good, then, unless, many}
use Rattle.table.proofs.Reading.{bad_is_not_good, passed, read_on, by_test}
use Rattle.model.specs.Forming.{Each}
use Rattle.model.specs.Lists.{gather}
use Rattle.model.specs.Trees.{Name}
use Rattle.model.specs.Meaning.{Literal}
use Rattle.model.specs.Settling.{Ground, known, fact, negated, group}
use Rattle.model.specs.Books.{Clause, plain, when, Action, Start}
use Rattle.model.specs.Opening.{ground_levels, ground_levels_all}
use Rattle.model.proofs.Values.{clash}
use Rattle.book.specs.Tables.{Table, entry_at, most_levels, most_names, in_range}
use Rattle.book.specs.Reads.{start, always_true, junction_of, grounds_of, leaf, ground_by, ground, literal_by, literal, literals, clause_by, clause, effect, is_object, objects, name, action}
use Rattle.book.proofs.Entries.{Headed, on_from, ranged_at, start_read, always_read}
use Rattle.book.proofs.Items.{many_each}
use Rattle.book.proofs.Actions.{objects_small, name_read, action_read}
use Rattle.book_theorems.specs.Writes.{count_grounds, junction_code, write_ground, write_grounds, write_literal, write_clause, write_effect, write_name, write_action, write_start, ShallowClause, SmallAction}
use Rattle.book_theorems.proofs.Written.{Written, written_none, written_more, written_one, written_both, many_written}

-- what is made of a single step, which ends where the whole does
made_of : {A B : Type 0} (P : B → Type 0) (o : Out A) (f : A → B) (b : B) (l : ℕ) → then o (λ a k. good (f a) k) ≡ good b l → ((a : A) → o ≡ good a l → P (f a)) → P b
made_of P o f b l e h = read_on o (λ a k. good (f a) k) b l e λ a j r q.
    let x : f a ≡ b = cc in
    let y : j ≡ l = cc in
    subst P x (h a (r ∙ ap (good a) y))

-- what was read at once
made_at : {A : Type 0} (P : A → ℕ → Type 0) (x y : A) (i j : ℕ) → good x i ≡ good y j → P x i → P y j
made_at P x y i j e h =
    let p : x ≡ y = cc in
    let q : i ≡ j = cc in
    subst (λ z. P z j) p (subst (λ n. P x n) q h)

module _ (t : Table) where
  -- the kind and the operand at a place
  abbrev kind_at : ℕ → ℕ
  kind_at i = get_or t.kinds i 0

  abbrev operand_at : ℕ → ℕ
  operand_at i = get_or t.operands i 0

  -- an entry with a kind and an operand that are known
  entry_is : (i k o : ℕ) → kind_at i ≡ k → operand_at i ≡ o → entry_at t i ≡ entry k o
  entry_is i k o p q = ap (λ x. entry x (operand_at i)) p ∙ ap (entry k) q

  -- the entry, and others after it
  first : (i k o : ℕ) (es : List Entry) (l : ℕ) → kind_at i ≡ k → operand_at i ≡ o → Written t es (i + 1) l → Written t (entry k o ∷ es) i l
  first i k o es l p q s = written_more t i (entry k o) es l (entry_is i k o p q) s

  -- the same where a kind of entry has the operand 0
  first_plain : (i k : ℕ) (es : List Entry) (l : ℕ) → in_range t (entry_at t i) ≡ true → kind_at i ≡ k → (in_range t (entry k (operand_at i)) ≡ true → eqb (operand_at i) 0 ≡ true) → Written t es (i + 1) l → Written t (entry k 0 ∷ es) i l
  first_plain i k es l r p zero_operand s = first i k 0 es l p (eqb-true (operand_at i) 0 (zero_operand (ranged_at t (kind_at i) (operand_at i) k r p))) s

  -- Formulas.

  -- a list of formulas is written part after part
  grounds_written : (gs : List Ground) → (gather write_ground gs ≡ write_grounds (grounds_of gs)) × (length gs ≡ count_grounds (grounds_of gs))
  grounds_written [] = (refl, refl)
  grounds_written (g ∷ gs) = let w = grounds_written gs in (ap (λ x. write_ground g ++ x) w.0, ap suc w.1)

  -- and has no more levels than its formulas
  grounds_shallow : (n : ℕ) (gs : List Ground) → Each (λ g. ground_levels g ≤ n) gs → ground_levels_all (grounds_of gs) ≤ n
  grounds_shallow n [] h = omega arith
  grounds_shallow n (g ∷ gs) h = let x = h.0 in let y = grounds_shallow n gs h.1 in omega arith

  -- AND or OR by its code
  junction_coded : (k : ℕ) → (eqb k 5 || eqb k 6) ≡ true → k ≡ junction_code (junction_of k)
  junction_coded k e = ⊎_elim
      (λ h. subst (λ x. x ≡ junction_code (junction_of x)) (sym (eqb-true k 5 h)) refl)
      (λ h. subst (λ x. x ≡ junction_code (junction_of x)) (sym (eqb-true k 6 h)) refl)
      (or_cases (eqb k 5) (eqb k 6) e)

  -- FACT, TRUE or FALSE
  leaf_written : (levels i : ℕ) → Headed t place.Ground levels i → eqb (kind_at i) 4 ≡ false → (eqb (kind_at i) 5 || eqb (kind_at i) 6) ≡ false → Written t (write_ground (leaf (entry_at t i))) i (i + 1)
  leaf_written levels i h four others = by (eqb (kind_at i) 13) (eqb (kind_at i) 0) refl refl
    where
      left : (a b c d g f : Bool) → (a || b || c || d || g || f) ≡ true → a ≡ false → c ≡ false → d ≡ false → g ≡ false → f ≡ false → b ≡ true
      left a true c d g f h n o p q r = refl
      left a false c d g f h n o p q r = clash (rw (n, o, p, q, r) at h)

      by : (a b : Bool) → eqb (kind_at i) 13 ≡ a → eqb (kind_at i) 0 ≡ b → Written t (write_ground (cond a (fact (operand_at i)) (known b))) i (i + 1)
      by true b x y = first i 13 (operand_at i) [] (i + 1) (eqb-true (kind_at i) 13 x) refl (written_none t (i + 1))
      by false true x y = first_plain i 0 [] (i + 1) h.ranged (eqb-true (kind_at i) 0 y) (λ z. z) (written_none t (i + 1))
      by false false x y =
          let o = or_parts (eqb (kind_at i) 5) (eqb (kind_at i) 6) others in
          let one = left (eqb (kind_at i) 0) (eqb (kind_at i) 1) (eqb (kind_at i) 4) (eqb (kind_at i) 5) (eqb (kind_at i) 6) (eqb (kind_at i) 13) h.permits y four o.0 o.1 x in
          first_plain i 1 [] (i + 1) h.ranged (eqb-true (kind_at i) 1 one) (λ z. z) (written_none t (i + 1))

  -- a leaf has one level
  leaf_levels : (e : Entry) → ground_levels (leaf e) ≡ 1
  leaf_levels e = by (eqb e.kind 13)
    where
      by : (b : Bool) → ground_levels (cond b (fact e.operand) (known (eqb e.kind 0))) ≡ 1
      by true = refl
      by false = refl

  -- a formula is written where it is read, and has no more levels than were left
  abbrev GroundWritten : ℕ → ℕ → Ground → ℕ → Type 0
  GroundWritten levels i g j = Written t (write_ground g) i j × (ground_levels g ≤ levels)

  pub ground_written : (levels i : ℕ) (g : Ground) (j : ℕ) → ground t levels i ≡ good g j → GroundWritten levels i g j
  unfolding ground
  ground_written zero i g j e = let w = on_from t place.Ground zero i (λ e j. bad 6 i) g j e in bad_is_not_good 6 i g j w.1
  ground_written (suc levels) i g j e =
      let w = on_from t place.Ground (suc levels) i (λ e j. ground_by (ground t levels) e j) g j e in
      let k = kind_at i in
      let o = operand_at i in
      let P : Ground → Type 0 = λ f. GroundWritten (suc levels) i f j in
      by_test (eqb k 4) _ _ _ w.1
      (λ four q. made_of P (ground t levels (i + 1)) negated g j q λ f r.
      let v = ground_written levels (i + 1) f j r in
      (first_plain i 4 (write_ground f) j w.0.ranged (eqb-true k 4 four) (λ z. z) v.0, omega (arith, v.1)))
      λ four h. by_test (eqb k 5 || eqb k 6) _ _ _ h
      (λ is q. made_of P (many (ground t levels) o (i + 1)) (λ gs. group (junction_of k) (grounds_of gs)) g j q λ gs r.
      let m = many_written t write_ground (ground t levels) (λ i g j e. (ground_written levels i g j e).0) o (i + 1) gs j r in
      let s = many_each (λ f. ground_levels f ≤ levels) (ground t levels) (λ i g j e. (ground_written levels i g j e).1) o (i + 1) gs j r in
      let v = grounds_written gs in
      (first i (junction_code (junction_of k)) (count_grounds (grounds_of gs)) (write_grounds (grounds_of gs)) j (junction_coded k is) (sym s.1 ∙ v.1) (subst (λ es. Written t es (i + 1) j) v.0 m), omega (arith, grounds_shallow levels gs s.0)))
      λ others q. made_at (λ f l. GroundWritten (suc levels) i f l) (leaf (entry_at t i)) g (i + 1) j q
      (leaf_written (suc levels) i w.0 four others, omega (arith, leaf_levels (entry_at t i)))

  -- Effects.

  -- FACT, or NOT and FACT, after which there is nothing more to a literal
  literal_by_written : (levels i : ℕ) (x : Literal) (l : ℕ) → in_range t (entry_at t i) ≡ true → (eqb (kind_at i) 4 ≡ false → eqb (kind_at i) 13 ≡ true) → literal_by t levels (entry_at t i) (i + 1) ≡ good x l → Written t (write_literal x) i l
  literal_by_written levels i x l r thirteen e =
      by_test (eqb (kind_at i) 4) _ _ _ e
      (λ four q. let u = on_from t place.NegatedFact levels (i + 1) (λ f k. good (record { adds = false; atom = f.operand }) k) x l q in
      made_at (λ (y : Literal) m. Written t (write_literal y) i m) _ x (i + 1 + 1) l u.1
      (first_plain i 4 _ (i + 1 + 1) r (eqb-true (kind_at i) 4 four) (λ z. z)
      (first (i + 1) 13 (operand_at (i + 1)) [] (i + 1 + 1) (eqb-true (kind_at (i + 1)) 13 u.0.permits) refl (written_none t (i + 1 + 1)))))
      λ no q. made_at (λ (y : Literal) m. Written t (write_literal y) i m) _ x (i + 1) l q
      (first i 13 (operand_at i) [] (i + 1) (eqb-true (kind_at i) 13 (thirteen no)) refl (written_none t (i + 1)))

  second : (p q : Bool) → (p || q) ≡ true → p ≡ false → q ≡ true
  second true q h n = clash (sym n)
  second false q h n = h

  literal_written : (i : ℕ) (x : Literal) (j : ℕ) → literal t i ≡ good x j → Written t (write_literal x) i j
  literal_written i x j e =
      let w = on_from t place.Literal 510 i (λ e j. literal_by t 509 e j) x j e in
      literal_by_written 509 i x j w.0.ranged (second (eqb (kind_at i) 4) (eqb (kind_at i) 13) w.0.permits) w.1

  -- AND and its parts
  and_written : {A : Type 0} (code : A → List Entry) (read : ℕ → Out A) → ((i : ℕ) (x : A) (j : ℕ) → read i ≡ good x j → Written t (code x) i j)
      → (i : ℕ) (xs : List A) (j : ℕ) → eqb (kind_at i) 5 ≡ true → many read (operand_at i) (i + 1) ≡ good xs j → Written t (entry 5 (length xs) ∷ gather code xs) i j
  and_written code read h i xs j five e =
      let n = many_each (λ _. Unit {0}) read (λ _ _ _ _. tt) (operand_at i) (i + 1) xs j e in
      first i 5 (length xs) (gather code xs) j (eqb-true (kind_at i) 5 five) (sym n.1) (many_written t code read h (operand_at i) (i + 1) xs j e)

  literals_written : (i : ℕ) (ls : List Literal) (j : ℕ) → literals t i ≡ good ls j → Written t (entry 5 (length ls) ∷ gather write_literal ls) i j
  literals_written i ls j e =
      let w = on_from t place.Literals 511 i (λ e j. unless (ltb 0 e.operand) 5 i (many (literal t) e.operand j)) ls j e in
      let v = passed (ltb 0 (operand_at i)) 5 i (many (literal t) (operand_at i) (i + 1)) ls j w.1 in
      and_written write_literal (literal t) literal_written i ls j w.0.permits v.1

  -- a part of an effect
  clause_written : (i : ℕ) (c : Clause) (j : ℕ) → clause t i ≡ good c j → Written t (write_clause c) i j × ShallowClause c
  clause_written i c j e =
      let w = on_from t place.Clause 512 i (λ e j. clause_by t e j) c j e in
      let k = kind_at i in
      let P : Clause → Type 0 = λ x. Written t (write_clause x) i j × ShallowClause x in
      by_test (eqb k 12) _ _ _ w.1
      (λ twelve q. read_on (ground t 511 (i + 1)) (λ g k. then (literals t k) λ ls l. good (when g ls) l) c j q λ g m r u.
      made_of P (literals t m) (when g) c j u λ ls s.
      let v = ground_written 511 (i + 1) g m r in
      (first_plain i 12 _ j w.0.ranged (eqb-true k 12 twelve) (λ z. z) (written_both t (write_ground g) (entry 5 (length ls) ∷ gather write_literal ls) (i + 1) m j v.0 (literals_written m ls j s)), v.1))
      λ no q. made_of P (literal_by t 511 (entry_at t i) (i + 1)) plain c j q λ x r.
      (literal_by_written 511 i x j w.0.ranged (third (eqb k 4) (eqb k 12) (eqb k 13) w.0.permits no) r, tt)
    where
      third : (p q r : Bool) → (p || q || r) ≡ true → q ≡ false → p ≡ false → r ≡ true
      third true q r h m n = clash (sym n)
      third false true r h m n = clash (sym m)
      third false false r h m n = h

  effect_written : (i : ℕ) (cs : List Clause) (j : ℕ) → effect t i ≡ good cs j → Written t (write_effect cs) i j × Each ShallowClause cs
  effect_written i cs j e =
      let w = on_from t place.Clauses most_levels i (λ e j. many (clause t) e.operand j) cs j e in (
        and_written write_clause (clause t) (λ i c j e. (clause_written i c j e).0) i cs j w.0.permits w.1,
        (many_each ShallowClause (clause t) (λ i c j e. (clause_written i c j e).1) (operand_at i) (i + 1) cs j w.1).0,
      )

  -- Names and actions.
  objects_written : (room i : ℕ) (os : List ℕ) (j : ℕ) → objects t room i ≡ good os j → Written t (map (entry 10) os) i j
  unfolding objects
  objects_written zero i os j e =
      by_test (is_object t i) _ _ _ e
      (λ _ q. bad_is_not_good 5 i os j q)
      λ _ q. made_at (λ (xs : List ℕ) l. Written t (map (entry 10) xs) i l) [] os i j q (written_none t i)
  objects_written (suc room) i os j e =
      let o = operand_at i in
      by_test (is_object t i) _ _ _ e
      (λ is q.
      let v = passed (ltb o most_names) 5 i (then (objects t room (i + 1)) λ os j. good (o ∷ os) j) os j q in
      made_of (λ (xs : List ℕ). Written t (map (entry 10) xs) i j) (objects t room (i + 1)) (λ os. o ∷ os) os j v.1 λ rest r.
      first i 10 o (map (entry 10) rest) j (eqb-true (kind_at i) 10 (and_parts (ltb i t.entries) (eqb (kind_at i) 10) is).1) refl (objects_written room (i + 1) rest j r))
      λ _ q. made_at (λ (xs : List ℕ) l. Written t (map (entry 10) xs) i l) [] os i j q (written_none t i)

  name_written : (before : List ℕ) (i : ℕ) (m : Name) (j : ℕ) → name t before i ≡ good m j → Written t (write_name m) i j
  name_written before i m j e =
      let w = name_read t before i m j e in
      first i 18 m.operator (map (entry 10) m.objects) j (eqb-true (kind_at i) 18 w.headed.permits) (sym w.operator) (objects_written 4 (i + 1) m.objects j w.objects_read)

  pub action_written : (before : List ℕ) (i : ℕ) (a : Action) (j : ℕ) → action t before i ≡ good a j → Written t (write_action a) i j × SmallAction a
  action_written before i a j e =
      let w = action_read t before i a j e in
      let n = name_read t before i a.name w.named w.name_is in
      let g = ground_written most_levels w.named a.precondition w.judged w.precondition in
      let c = effect_written w.judged a.effect j w.effect_is in (
        written_both t (write_name a.name) _ i w.named j (name_written before i a.name w.named w.name_is)
            (written_both t (write_ground a.precondition) (write_effect a.effect) w.named w.judged j g.0 c.0),
        record { objects = (objects_small t 4 (i + 1) a.name.objects w.named n.objects_read).1; precondition = g.1; effect = c.1 },
      )

  -- Atoms.

  -- STARTS-TRUE or STARTS-FALSE by its code
  start_coded : (k : ℕ) → (eqb k 19 || eqb k 20) ≡ true → k ≡ cond (eqb k 19) 19 20
  start_coded k e = ⊎_elim
      (λ h. subst (λ x. x ≡ cond (eqb x 19) 19 20) (sym (eqb-true k 19 h)) refl)
      (λ h. subst (λ x. x ≡ cond (eqb x 19) 19 20) (sym (eqb-true k 20 h)) refl)
      (or_cases (eqb k 19) (eqb k 20) e)

  pub start_written : (low i : ℕ) (s : Start) (j : ℕ) → start t low i ≡ good s j → Written t (write_start s ∷ []) i j
  start_written low i s j e =
      let w = start_read t low i s j e in
      written_one t i (write_start s) j
      (entry_is i (cond s.starts 19 20) s.atom (start_coded (kind_at i) w.headed.permits ∙ ap (λ b. cond b 19 20) (sym w.starts)) (sym w.atom))
      w.ends

  pub always_written : (low i k j : ℕ) → always_true t low i ≡ good k j → Written t (entry 21 k ∷ []) i j
  always_written low i k j e =
      let w = always_read t low i k j e in
      written_one t i (entry 21 k) j (entry_is i 21 k (eqb-true (kind_at i) 21 w.headed.permits) (sym w.atom)) w.ends
