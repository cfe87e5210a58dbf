-- Whatever is read well goes on from where it began and ends inside the table.
use Rattle.std.proofs.Common.{◌≡◌, ℕ, zero, suc, ◌+◌, ◌-◌, ◌<◌, ◌≤◌, Bool, true, false, cond, not, ◌&&◌, ◌||◌, eqb, ltb, leb, List, [], ◌∷◌, get_or, refl, arith}
use Rattle.std.proofs.lemmas.Bool.{ltb-true, and_parts}
use Rattle.table.specs.declared.places.Place.{Place}
use Rattle.table.specs.declared.places.Place.TheVariants as place
use Rattle.table.specs.Permits.{permitted}
use Rattle.table.specs.Reading.{Entry, Out, bad, good, then, unless, series, many}
use Rattle.model.specs.Trees.{Name}
use Rattle.model.specs.Meaning.{Literal}
use Rattle.model.specs.Settling.{Ground, negated, group}
use Rattle.model.specs.Books.{plain, when, Start}
use Rattle.book.specs.Tables.{Table, entry_at, most_levels, most_names, most_objects, in_range, head}
use Rattle.book.specs.Reads.{start, is_listed, always_true, junction_of, grounds_of, leaf, ground_by, ground, literal_by, literal, literals, clause_by, clause, effect, is_object, objects, precedes, name, action}

-- it is refused, or ends at place i or later, and inside the table
abbrev pub Reaches : {A : Type 0} → Table → ℕ → Out A → Type 0
Reaches t i (bad n p) = Unit {0}
Reaches t i (good x j) = (i ≤ j) × (j ≤ t.entries)

pub reached : {A : Type 0} (t : Table) (i : ℕ) (o : Out A) (x : A) (j : ℕ) → Reaches t i o → o ≡ good x j → (i ≤ j) × (j ≤ t.entries)
reached t i (bad n p) x j h e = absurd (let z : ◌≡◌ {A = ℕ} 0 1 = cc in omega arith)
reached t i (good y k) x j h e = let q : k ≡ j = cc in (omega (arith, h.0), omega (arith, h.1))

module _ (t : Table) where
  -- a reading goes on after another
  pub reaches_then : {A B : Type 0} (i k : ℕ) (o : Out A) (g : A → ℕ → Out B) → Reaches t i o → ((x : A) (j : ℕ) → i ≤ j → j ≤ t.entries → Reaches t k (g x j)) → Reaches t k (then o g)
  reaches_then i k (bad n p) g h f = tt
  reaches_then i k (good x j) g h f = f x j h.0 h.1

  -- what is made of what was read
  reaches_made : {A B : Type 0} (i k : ℕ) (o : Out A) (f : A → B) → k ≤ i → Reaches t i o → Reaches t k (then o (λ x j. good (f x) j))
  reaches_made i k o f l h = reaches_then i k o (λ x j. good (f x) j) h (λ x j a b. (omega arith, b))

  reaches_cond : {A : Type 0} (i : ℕ) (b : Bool) (o p : Out A) → (b ≡ true → Reaches t i o) → (b ≡ false → Reaches t i p) → Reaches t i (cond b o p)
  reaches_cond i true o p h k = h refl
  reaches_cond i false o p h k = k refl

  reaches_unless : {A : Type 0} (i : ℕ) (b : Bool) (n p : ℕ) (o : Out A) → (b ≡ true → Reaches t i o) → Reaches t i (unless b n p o)
  reaches_unless i true n p o h = h refl
  reaches_unless i false n p o h = tt

  -- from an earlier place on
  reaches_from : {A : Type 0} (i k : ℕ) (o : Out A) → k ≤ i → Reaches t i o → Reaches t k o
  reaches_from i k (bad n p) l h = tt
  reaches_from i k (good x j) l h = (omega (arith, h.0), h.1)

  pub reaches_series : {A S : Type 0} (read : S → ℕ → Out A) (next : S → A → S) → ((s : S) (i : ℕ) → Reaches t (i + 1) (read s i)) → (m : ℕ) (s : S) (i : ℕ) → i ≤ t.entries → Reaches t i (series read next m s i)
  reaches_series read next r zero s i h = (omega arith, h)
  reaches_series read next r (suc m) s i h =
      reaches_then (i + 1) i (read s i) (λ a j. then (series read next m (next s a) j) λ rest k. good (a ∷ rest) k) (r s i)
      (λ a j l k. reaches_made j i (series read next m (next s a) j) (λ rest. a ∷ rest) (omega arith) (reaches_series read next r m (next s a) j k))

  pub reaches_many : {A : Type 0} (read : ℕ → Out A) → ((i : ℕ) → Reaches t (i + 1) (read i)) → (m i : ℕ) → i ≤ t.entries → Reaches t i (many read m i)
  reaches_many read r m i h = reaches_series (λ (_ : Unit {0}). read) (λ _ _. tt) (λ _ j. r j) m tt i h

  pub reaches_head : (p : Place) (levels i : ℕ) → Reaches t (i + 1) (head t p levels i)
  reaches_head p levels i =
      let last = good (entry_at t i) (i + 1) in
      let third = unless (in_range t (entry_at t i)) 5 i last in
      let second = unless (ltb 0 levels) 6 i third in
      let first = unless (permitted p (get_or t.kinds i 0)) 3 i second in
      reaches_unless (i + 1) (ltb i t.entries) 4 i first λ lt.
      reaches_unless (i + 1) (permitted p (get_or t.kinds i 0)) 3 i second λ _.
      reaches_unless (i + 1) (ltb 0 levels) 6 i third λ _.
      reaches_unless (i + 1) (in_range t (entry_at t i)) 5 i last λ _.
      (omega arith, omega (arith, ltb-true i t.entries lt))

  -- what follows an entry
  after_head : {B : Type 0} (p : Place) (levels i : ℕ) (g : Entry → ℕ → Out B) → ((e : Entry) (j : ℕ) → i + 1 ≤ j → j ≤ t.entries → Reaches t (i + 1) (g e j)) → Reaches t (i + 1) (then (head t p levels i) g)
  after_head p levels i g h = reaches_then (i + 1) (i + 1) (head t p levels i) g (reaches_head p levels i) h

  pub reaches_start : (low i : ℕ) → Reaches t (i + 1) (start t low i)
  reaches_start low i =
      after_head place.Relevant most_levels i (λ e j. unless (leb low e.operand) 8 i (good (record { atom = e.operand; starts = eqb e.kind 19 }) j))
      (λ e j l h. reaches_unless {A = Start} (i + 1) (leb low e.operand) 8 i (good (record { atom = e.operand; starts = eqb e.kind 19 }) j) (λ _. (l, h)))

  pub reaches_always : (low i : ℕ) → Reaches t (i + 1) (always_true t low i)
  reaches_always low i =
      after_head place.Always most_levels i (λ e j. unless (leb low e.operand && not (is_listed t e.operand)) 8 i (good e.operand j))
      (λ e j l h. reaches_unless (i + 1) (leb low e.operand && not (is_listed t e.operand)) 8 i (good e.operand j) (λ _. (l, h)))

  -- Formulas.
  reaches_ground_by : (read : ℕ → Out Ground) → ((i : ℕ) → Reaches t (i + 1) (read i)) → (e : Entry) (j : ℕ) → j ≤ t.entries → Reaches t j (ground_by read e j)
  reaches_ground_by read r e j h =
      let k = e.kind in
      reaches_cond j (eqb k 4) _ _ (λ _. reaches_made (j + 1) j (read j) negated (omega arith) (r j)) λ _.
      reaches_cond j (eqb k 5 || eqb k 6) _ (good (leaf e) j) (λ _. reaches_made j j (many read e.operand j) (λ gs. group (junction_of k) (grounds_of gs)) (omega arith) (reaches_many read r e.operand j h)) λ _.
      (omega arith, h)

  pub reaches_ground : (levels i : ℕ) → Reaches t (i + 1) (ground t levels i)
  unfolding ground
  reaches_ground zero i = after_head {B = Ground} place.Ground zero i (λ e j. bad 6 i) (λ e j l h. tt)
  reaches_ground (suc levels) i =
      after_head place.Ground (suc levels) i (ground_by (ground t levels))
      (λ e j l h. reaches_from j (i + 1) (ground_by (ground t levels) e j) l (reaches_ground_by (ground t levels) (reaches_ground levels) e j h))

  -- Effects.
  reaches_literal_by : (levels : ℕ) (e : Entry) (j : ℕ) → j ≤ t.entries → Reaches t j (literal_by t levels e j)
  reaches_literal_by levels e j h =
      reaches_cond {A = Literal} j (eqb e.kind 4) _ (good (record { adds = true; atom = e.operand }) j)
      (λ _. reaches_made (j + 1) j (head t place.NegatedFact levels j) (λ f. record { adds = false; atom = f.operand }) (omega arith) (reaches_head place.NegatedFact levels j))
      (λ _. (omega arith, h))

  pub reaches_literal : (i : ℕ) → Reaches t (i + 1) (literal t i)
  reaches_literal i = after_head place.Literal 510 i (λ e j. literal_by t 509 e j) (λ e j l h. reaches_from j (i + 1) (literal_by t 509 e j) l (reaches_literal_by 509 e j h))

  pub reaches_literals : (i : ℕ) → Reaches t (i + 1) (literals t i)
  reaches_literals i =
      after_head place.Literals 511 i (λ e j. unless (ltb 0 e.operand) 5 i (many (literal t) e.operand j))
      (λ e j l h. reaches_unless (i + 1) (ltb 0 e.operand) 5 i (many (literal t) e.operand j)
      (λ _. reaches_from j (i + 1) (many (literal t) e.operand j) l (reaches_many (literal t) reaches_literal e.operand j h)))

  reaches_clause_by : (e : Entry) (j : ℕ) → j ≤ t.entries → Reaches t j (clause_by t e j)
  reaches_clause_by e j h =
      reaches_cond j (eqb e.kind 12) _ _
      (λ _. reaches_then (j + 1) j (ground t 511 j) (λ g k. then (literals t k) λ ls l. good (when g ls) l) (reaches_ground 511 j)
      (λ g k l _. reaches_made (k + 1) j (literals t k) (when g) (omega arith) (reaches_literals k)))
      (λ _. reaches_made j j (literal_by t 511 e j) plain (omega arith) (reaches_literal_by 511 e j h))

  pub reaches_clause : (i : ℕ) → Reaches t (i + 1) (clause t i)
  reaches_clause i = after_head place.Clause 512 i (λ e j. clause_by t e j) (λ e j l h. reaches_from j (i + 1) (clause_by t e j) l (reaches_clause_by e j h))

  pub reaches_effect : (i : ℕ) → Reaches t (i + 1) (effect t i)
  reaches_effect i =
      after_head place.Clauses most_levels i (λ e j. many (clause t) e.operand j)
      (λ e j l h. reaches_from j (i + 1) (many (clause t) e.operand j) l (reaches_many (clause t) reaches_clause e.operand j h))

  -- Actions.
  pub reaches_objects : (room i : ℕ) → i ≤ t.entries → Reaches t i (objects t room i)
  unfolding objects
  reaches_objects zero i h = reaches_cond {A = List ℕ} i (is_object t i) (bad 5 i) (good [] i) (λ _. tt) (λ _. (omega arith, h))
  reaches_objects (suc room) i h =
      reaches_cond {A = List ℕ} i (is_object t i) _ (good [] i)
      (λ is. reaches_unless i (ltb (get_or t.operands i 0) most_names) 5 i (then (objects t room (i + 1)) λ os j. good (get_or t.operands i 0 ∷ os) j)
      (λ _. reaches_made (i + 1) i (objects t room (i + 1)) (λ os. get_or t.operands i 0 ∷ os) (omega arith)
      (reaches_objects room (i + 1) (omega (arith, ltb-true i t.entries (and_parts (ltb i t.entries) (eqb (get_or t.kinds i 0) 10) is).0)))))
      (λ _. (omega arith, h))

  pub reaches_name : (before : List ℕ) (i : ℕ) → Reaches t (i + 1) (name t before i)
  reaches_name before i =
      after_head place.Action most_levels i (λ e j. then (objects t most_objects j) λ os k. unless (precedes before (e.operand ∷ os)) 8 (k - 1) (good (record { operator = e.operand; objects = os }) k))
      (λ e j l h. reaches_then j (i + 1) (objects t most_objects j) (λ os k. unless (precedes before (e.operand ∷ os)) 8 (k - 1) (good (record { operator = e.operand; objects = os }) k)) (reaches_objects most_objects j h)
      (λ os k m n. reaches_unless {A = Name} (i + 1) (precedes before (e.operand ∷ os)) 8 (k - 1) (good (record { operator = e.operand; objects = os }) k) (λ _. (omega arith, n))))

  pub reaches_action : (before : List ℕ) (i : ℕ) → Reaches t (i + 1) (action t before i)
  reaches_action before i =
      reaches_then (i + 1) (i + 1) (name t before i) (λ m j. then (ground t most_levels j) λ g k. then (effect t k) λ cs l. good (record { name = m; precondition = g; effect = cs }) l) (reaches_name before i)
      (λ m j x _. reaches_then (j + 1) (i + 1) (ground t most_levels j) (λ g k. then (effect t k) λ cs l. good (record { name = m; precondition = g; effect = cs }) l) (reaches_ground most_levels j)
      (λ g k y _. reaches_made (k + 1) (i + 1) (effect t k) (λ cs. record { name = m; precondition = g; effect = cs }) (omega arith) (reaches_effect k)))

  -- A formula goes on, and stays inside the table.
  pub ground_reaches : (levels i : ℕ) (g : Ground) (j : ℕ) → ground t levels i ≡ good g j → (i < j) × (j ≤ t.entries)
  ground_reaches levels i g j e = let w = reached t (i + 1) (ground t levels i) g j (reaches_ground levels i) e in (omega (arith, w.0), w.1)
