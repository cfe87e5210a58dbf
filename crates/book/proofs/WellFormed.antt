-- The book that stands in a table is well formed.
use Rattle.std.proofs.Common.{◌≡◌, ℕ, zero, suc, ◌+◌, ◌<◌, ◌≤◌, Bool, true, false, cond, ◌||◌, eqb, ltb, List, [], ◌∷◌, map, length, get_or, sym, refl, subst, ⊎_elim, arith}
use Rattle.std.proofs.lemmas.Bool.{ltb-true, eqb-true, or_cases, not-true}
use Rattle.table.specs.declared.places.Place.TheVariants as place
use Rattle.table.specs.Reading.{entry, bad, good, then, unless, series, many}
use Rattle.table.proofs.Reading.{bad_is_not_good, passed, same_reading, read_on, made_of, by_test, series_opens}
use Rattle.model.specs.Lists.{has}
use Rattle.model.specs.Forming.{Each, Within}
use Rattle.model.specs.Meaning.{Literal}
use Rattle.model.specs.Settling.{Ground, known, fact, negated, group}
use Rattle.model.specs.Books.{Clause, plain, when, Action, Start}
use Rattle.model.specs.Opening.{RisingBy, Rising, NameBefore, KnownGround, KnownGrounds, KnownLiterals, KnownClause, KnownAction, WellFormedBook}
use Rattle.model.proofs.Values.{clash}
use Rattle.book.specs.Tables.{Table, most_levels, most_names, in_range}
use Rattle.book.specs.Reads.{start, after_start, is_listed, always_true, after_atom, junction_of, grounds_of, leaf, ground_by, ground, literal_by, literal, literals, clause_by, clause, effect, precedes, listed, action, after_action, actions_place, goal_place}
use Rattle.book.specs.Opens.{accepted, book_of}
use Rattle.book.proofs.Entries.{on_from, ranged_at, start_read, always_read}
use Rattle.book.proofs.Items.{each_then, series_each, many_each}
use Rattle.book.proofs.Actions.{objects_small, name_read, action_read}
use Rattle.book.proofs.Order.{precedes_trans, name_before}
use Rattle.book.proofs.Standing.{stands, opened}

-- Atoms.

-- atoms that are at least `low`, are below n, and rise
pub record Risen (n low : ℕ) (ks : List ℕ) : Type 0 where
  pub above : Each (λ k. low ≤ k) ks
  pub within : Within n ks
  pub rise : Rising ks

-- one more atom before those that are above it
risen_more : (n low k : ℕ) (ks : List ℕ) → low ≤ k → k < n → Risen n (k + 1) ks → Risen n low (k ∷ ks)
risen_more n low k ks l h r = record {
  above = (l, each_then (λ x. k + 1 ≤ x) (λ x. low ≤ x) (λ x a. omega arith) ks r.above);
  within = (h, r.within);
  rise = (each_then (λ x. k + 1 ≤ x) (λ x. k < x) (λ x a. omega arith) ks r.above, r.rise);
}

module _ (t : Table) where
  -- atoms that start true or false
  pub atoms_rise : (m low i : ℕ) (ss : List Start) (k : ℕ) → series (start t) after_start m low i ≡ good ss k → Risen t.atoms low (map (λ (s : Start). s.atom) ss)
  atoms_rise zero low i ss k e = let q : [] ≡ ss = cc in subst (λ (xs : List Start). Risen t.atoms low (map (λ (s : Start). s.atom) xs)) q (record { above = tt; within = tt; rise = tt })
  atoms_rise (suc m) low i ss k e = series_opens (start t) after_start m low i ss k e λ x j rest r u q.
      let f = start_read t low i x j r in
      let kd = get_or t.kinds i 0 in
      let o = get_or t.operands i 0 in
      let small : o < t.atoms = ⊎_elim
      (λ c. ltb-true o t.atoms (ranged_at t kd o 19 f.headed.ranged (eqb-true kd 19 c)))
      (λ c. ltb-true o t.atoms (ranged_at t kd o 20 f.headed.ranged (eqb-true kd 20 c)))
      (or_cases (eqb kd 19) (eqb kd 20) f.headed.permits) in
      subst (λ (xs : List Start). Risen t.atoms low (map (λ (s : Start). s.atom) xs)) (sym q)
      (risen_more t.atoms low x.atom (map (λ (s : Start). s.atom) rest) f.above (omega (arith, f.atom)) (atoms_rise m (after_start low x) j rest k u))

  -- atoms that are always true
  pub always_risen : (m low i : ℕ) (ks : List ℕ) (k : ℕ) → series (always_true t) after_atom m low i ≡ good ks k → Risen t.atoms low ks
  always_risen zero low i ks k e = let q : [] ≡ ks = cc in subst (λ xs. Risen t.atoms low xs) q (record { above = tt; within = tt; rise = tt })
  always_risen (suc m) low i ks k e = series_opens (always_true t) after_atom m low i ks k e λ x j rest r u q.
      let f = always_read t low i x j r in
      let o = get_or t.operands i 0 in
      let small : o < t.atoms = ltb-true o t.atoms (ranged_at t (get_or t.kinds i 0) o 21 f.headed.ranged (eqb-true _ 21 f.headed.permits)) in
      subst (λ xs. Risen t.atoms low xs) (sym q) (risen_more t.atoms low x rest f.above (omega (arith, f.atom)) (always_risen m (after_atom low x) j rest k u))

  -- Formulas.

  -- known formulas make a known list of formulas
  grounds_known : (r : ℕ) (gs : List Ground) → Each (KnownGround r) gs → KnownGrounds r (grounds_of gs)
  grounds_known r [] h = tt
  grounds_known r (g ∷ gs) h = (h.0, grounds_known r gs h.1)

  -- the fact that FACT names is one of the table's
  fact_within : (k o : ℕ) → in_range t (entry k o) ≡ true → k ≡ 13 → o < t.relevant
  fact_within k o h e = ltb-true o t.relevant (ranged_at t k o 13 h e)

  leaf_known : (k o : ℕ) → in_range t (entry k o) ≡ true → (b : Bool) → eqb k 13 ≡ b → KnownGround t.relevant (leaf (entry k o))
  leaf_known k o h true e = subst (λ b. KnownGround t.relevant (cond b (fact o) (known (eqb k 0)))) (sym e) (fact_within k o h (eqb-true k 13 e))
  leaf_known k o h false e = subst (λ b. KnownGround t.relevant (cond b (fact o) (known (eqb k 0)))) (sym e) tt

  -- what is read as a formula has known facts
  ground_known : (levels i : ℕ) (g : Ground) (j : ℕ) → ground t levels i ≡ good g j → KnownGround t.relevant g
  unfolding ground
  ground_known zero i g j e = let w = on_from t place.Ground zero i (λ e j. bad 6 i) g j e in bad_is_not_good 6 i g j w.1
  ground_known (suc levels) i g j e =
      let w = on_from t place.Ground (suc levels) i (λ e j. ground_by (ground t levels) e j) g j e in
      let k = get_or t.kinds i 0 in
      let o = get_or t.operands i 0 in
      let Known : Ground → Type 0 = KnownGround t.relevant in
      by_test (eqb k 4) _ _ _ w.1
      (λ _ q. made_of Known (ground t levels (i + 1)) negated g j q λ f n r. ground_known levels (i + 1) f n r)
      λ _ h. by_test (eqb k 5 || eqb k 6) _ _ _ h
      (λ _ q. made_of Known (many (ground t levels) o (i + 1)) (λ gs. group (junction_of k) (grounds_of gs)) g j q λ gs n r.
      grounds_known t.relevant gs (many_each Known (ground t levels) (ground_known levels) o (i + 1) gs n r).0)
      λ _ q. same_reading Known (leaf (entry k o)) g (i + 1) j q (leaf_known k o w.0.ranged (eqb k 13) refl)

  -- Effects.

  -- FACT, or NOT and FACT, makes a literal on a known fact
  literal_known : (levels k o j : ℕ) (x : Literal) (l : ℕ) → in_range t (entry k o) ≡ true → (eqb k 4 ≡ false → k ≡ 13) → literal_by t levels (entry k o) j ≡ good x l → x.atom < t.relevant
  literal_known levels k o j x l h thirteen e =
      by_test (eqb k 4) _ _ _ e
      (λ _ q. let u = on_from t place.NegatedFact levels j (λ f k. good (record { adds = false; atom = f.operand }) k) x l q in
      same_reading (λ (y : Literal). y.atom < t.relevant) _ x (j + 1) l u.1 (fact_within (get_or t.kinds j 0) (get_or t.operands j 0) u.0.ranged (eqb-true _ 13 u.0.permits)))
      λ no q. same_reading (λ (y : Literal). y.atom < t.relevant) _ x j l q (fact_within k o h (thirteen no))

  one_literal_known : (i : ℕ) (x : Literal) (j : ℕ) → literal t i ≡ good x j → x.atom < t.relevant
  one_literal_known i x j e =
      let w = on_from t place.Literal 510 i (λ e j. literal_by t 509 e j) x j e in
      let k = get_or t.kinds i 0 in
      literal_known 509 k (get_or t.operands i 0) (i + 1) x j w.0.ranged (λ no. eqb-true k 13 (second (eqb k 4) (eqb k 13) w.0.permits no)) w.1
    where
      second : (p q : Bool) → (p || q) ≡ true → p ≡ false → q ≡ true
      second true q h n = clash (sym n)
      second false q h n = h

  -- a WHEN has at least one literal
  literals_known : (i : ℕ) (ls : List Literal) (j : ℕ) → literals t i ≡ good ls j → KnownLiterals t.relevant ls × (0 < length ls)
  literals_known i ls j e =
      let o = get_or t.operands i 0 in
      let w = on_from t place.Literals 511 i (λ e j. unless (ltb 0 e.operand) 5 i (many (literal t) e.operand j)) ls j e in
      let v = passed (ltb 0 o) 5 i (many (literal t) o (i + 1)) ls j w.1 in
      let u = many_each (λ (l : Literal). l.atom < t.relevant) (literal t) one_literal_known o (i + 1) ls j v.1 in
      (u.0, omega (arith, ltb-true 0 o v.0, u.1))

  -- what is read as a part of an effect has known facts
  clause_known : (i : ℕ) (c : Clause) (j : ℕ) → clause t i ≡ good c j → KnownClause t.relevant c
  clause_known i c j e =
      let w = on_from t place.Clause 512 i (λ e j. clause_by t e j) c j e in
      let k = get_or t.kinds i 0 in
      let o = get_or t.operands i 0 in
      let Known : Clause → Type 0 = KnownClause t.relevant in
      by_test (eqb k 12) _ _ _ w.1
      (λ _ q. read_on (ground t 511 (i + 1)) (λ g k. then (literals t k) λ ls l. good (when g ls) l) c j q λ g m r u.
      made_of Known (literals t m) (when g) c j u λ ls n s. let v = literals_known m ls n s in (ground_known 511 (i + 1) g m r, v.0, v.1))
      λ no q. made_of Known (literal_by t 511 (entry k o) (i + 1)) plain c j q λ x n r.
      literal_known 511 k o (i + 1) x n w.0.ranged (λ four. eqb-true k 13 (third (eqb k 4) (eqb k 12) (eqb k 13) w.0.permits four no)) r
    where
      third : (p q r : Bool) → (p || q || r) ≡ true → p ≡ false → q ≡ false → r ≡ true
      third true q r h m n = clash (sym m)
      third false true r h m n = clash (sym n)
      third false false r h m n = h

  effect_known : (i : ℕ) (cs : List Clause) (j : ℕ) → effect t i ≡ good cs j → Each (KnownClause t.relevant) cs
  effect_known i cs j e =
      let w = on_from t place.Clauses most_levels i (λ e j. many (clause t) e.operand j) cs j e in
      (many_each (KnownClause t.relevant) (clause t) clause_known (get_or t.operands i 0) (i + 1) cs j w.1).0

  -- Actions.

  action_known : (before : List ℕ) (i : ℕ) (a : Action) (j : ℕ) → action t before i ≡ good a j → KnownAction t.relevant most_names most_names a
  action_known before i a j e =
      let w = action_read t before i a j e in
      let n = name_read t before i a.name w.named w.name_is in
      record {
        operator = n.small;
        objects = (objects_small t 4 (i + 1) a.name.objects w.named n.objects_read).0;
        precondition = ground_known most_levels w.named a.precondition w.judged w.precondition;
        effect = effect_known w.judged a.effect j w.effect_is;
      }

  -- each name comes after `before`, and before all later ones
  pub names_rise : (m : ℕ) (before : List ℕ) (i : ℕ) (acts : List Action) (k : ℕ) → series (action t) after_action m before i ≡ good acts k
      → Each (λ m. precedes before (listed m) ≡ true) (map (λ (a : Action). a.name) acts) × RisingBy NameBefore (map (λ (a : Action). a.name) acts)
  names_rise zero before i acts k e =
      let q : [] ≡ acts = cc in
      subst (λ (xs : List Action). Each (λ m. precedes before (listed m) ≡ true) (map (λ (a : Action). a.name) xs) × RisingBy NameBefore (map (λ (a : Action). a.name) xs)) q (tt, tt)
  names_rise (suc m) before i acts k e = series_opens (action t) after_action m before i acts k e λ a j rest r u q.
      let w = action_read t before i a j r in
      let n = name_read t before i a.name w.named w.name_is in
      let v = names_rise m (listed a.name) j rest k u in
      let names = map (λ (b : Action). b.name) rest in
      let first = listed a.name in
      subst (λ (xs : List Action). Each (λ m. precedes before (listed m) ≡ true) (map (λ (b : Action). b.name) xs) × RisingBy NameBefore (map (λ (b : Action). b.name) xs)) (sym q) (
        (n.after, each_then (λ m. precedes first (listed m) ≡ true) (λ m. precedes before (listed m) ≡ true) (λ m h. precedes_trans before first (listed m) n.after h) names v.0),
        (each_then (λ m. precedes first (listed m) ≡ true) (NameBefore a.name) (λ m h. name_before a.name m h) names v.0, v.1),
      )

-- the book that stands in a table is well formed
pub opened_books_are_well_formed : (t : Table) → accepted t ≡ true → t.entries ≤ length t.operands → t.relevant + t.always ≤ t.atoms → WellFormedBook most_names most_names (book_of t)
opened_books_are_well_formed t h long few =
    let b = book_of t in
    let s = stands t h in
    let o = opened t h long in
    let rs = atoms_rise t t.relevant 0 0 b.relevant t.relevant s.starts in
    let ks = always_risen t t.always 0 t.relevant b.always (goal_place t) s.always in
    let apart = series_each (λ k. is_listed t k ≡ false) (always_true t) after_atom (λ low i k j e. not-true (is_listed t k) (always_read t low i k j e).apart) t.always 0 t.relevant b.always (goal_place t) s.always in
    record {
      relevant_within = subst (λ n. Within n (map (λ (x : Start). x.atom) b.relevant)) (sym s.atoms) rs.within;
      relevant_rise = rs.rise;
      always_within = subst (λ n. Within n b.always) (sym s.atoms) ks.within;
      always_rise = ks.rise;
      apart = subst (λ (xs : List ℕ). Each (λ k. has k xs ≡ false) b.always) (sym o.listed) apart.0;
      few = omega (arith, o.relevant, o.always_count, o.atoms);
      goal = subst (λ n. KnownGround n b.goal) (sym o.relevant) (ground_known t most_levels (goal_place t) b.goal (actions_place t) s.goal);
      actions = subst (λ n. Each (KnownAction n most_names most_names) b.actions) (sym o.relevant)
          (series_each (KnownAction t.relevant most_names most_names) (action t) after_action (action_known t) t.actions [] (actions_place t) b.actions t.entries s.actions).0;
      names_rise = (names_rise t t.actions [] (actions_place t) b.actions t.entries s.actions).1;
    }
