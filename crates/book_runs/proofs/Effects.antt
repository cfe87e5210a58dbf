-- What an action's effect at a place of a book's table is, and what puts of its literals leave.
use Rattle.std.proofs.Common.{◌≡◌, ℕ, ◌+◌, ◌-◌, ◌<◌, ◌≤◌, Bool, true, false, cond, eqb, List, [], ◌∷◌, get_or, sym, refl, ap, ◌∙◌, arith}
use Rattle.std.proofs.lemmas.Bool.{cond-true, cond-false}
use Rattle.table.specs.declared.places.Place.TheVariants as place
use Rattle.table.specs.Answers.{is_good}
use Rattle.table.specs.Reading.{Entry, Out, bad, good, then, many, next_place}
use Rattle.model.specs.Meaning.{State, Literal}
use Rattle.model.specs.Settling.{Ground, ground_value}
use Rattle.model.specs.Books.{Clause, plain, when, clause_literals, action_literals}
use Rattle.book.specs.Tables.{Table, entry_at, head}
use Rattle.book.specs.Reads.{ground, literal_by, literal, literals, clause_by, clause}
use Rattle.protocol.specs.Steps.{put_literals}
use Rattle.protocol.proofs.Puts.{put_append}
use Rattle.book_runs.specs.Standing.{value_in, items_in, literals_in, literal_at, literal_end}
use Rattle.book_runs.proofs.Reading.{not_good, goes, Headed, First}

-- Literals.

-- what follows the first entry of a literal
literal_from : (t : Table) (levels i : ℕ) (b : Bool) → eqb (get_or t.kinds i 0) 4 ≡ b → is_good (literal_by t levels (entry_at t i) (i + 1)) ≡ true → i < t.entries
    → (literal_by t levels (entry_at t i) (i + 1) ≡ good (literal_at t i) (literal_end t i)) × (literal_end t i ≤ t.entries)
literal_from t levels i true e h l =
    let o = head t place.NegatedFact levels (i + 1) in
    let f : Entry → ℕ → Out Literal = λ x k. good (record { adds = false; atom = x.operand }) k in
    let add : Out Literal = good (record { adds = true; atom = get_or t.operands i 0 }) (i + 1) in
    let c : literal_by t levels (entry_at t i) (i + 1) ≡ then o f = cond-true (eqb (get_or t.kinds i 0) 4) (then o f) add e in
    let w = goes t place.NegatedFact levels (i + 1) f (ap is_good (sym c) ∙ h) in
    let n : i + 1 + 1 ≡ i + 2 = omega arith in
    let q : literal_end t i ≡ i + 2 = cond-true (eqb (get_or t.kinds i 0) 4) (i + 2) (i + 1) e in
    let deletes : Literal = record { adds = false; atom = get_or t.operands (i + 1) 0 } in
    let r : literal_at t i ≡ deletes = cond-true (eqb (get_or t.kinds i 0) 4) deletes (record { adds = true; atom = get_or t.operands i 0 }) e in
    (c ∙ w.1 ∙ ap (good deletes) (n ∙ sym q) ∙ ap (λ x. good x (literal_end t i)) (sym r), omega (arith, q, w.0.inside))
literal_from t levels i false e h l =
    let o = head t place.NegatedFact levels (i + 1) in
    let f : Entry → ℕ → Out Literal = λ x k. good (record { adds = false; atom = x.operand }) k in
    let adding : Literal = record { adds = true; atom = get_or t.operands i 0 } in
    let c : literal_by t levels (entry_at t i) (i + 1) ≡ good adding (i + 1) = cond-false (eqb (get_or t.kinds i 0) 4) (then o f) (good adding (i + 1)) e in
    let q : literal_end t i ≡ i + 1 = cond-false (eqb (get_or t.kinds i 0) 4) (i + 2) (i + 1) e in
    let r : literal_at t i ≡ adding = cond-false (eqb (get_or t.kinds i 0) 4) (record { adds = false; atom = get_or t.operands (i + 1) 0 }) adding e in
    (c ∙ ap (good adding) (sym q) ∙ ap (λ x. good x (literal_end t i)) (sym r), omega (arith, q))

-- a literal of a WHEN
module _ (t : Table) (i : ℕ) (stands : is_good (literal t i) ≡ true) where
  goes_on : Headed t place.Literal 510 i × (literal t i ≡ literal_by t 509 (entry_at t i) (i + 1))
  goes_on = goes t place.Literal 510 i (λ e j. literal_by t 509 e j) stands

  from_there : (literal_by t 509 (entry_at t i) (i + 1) ≡ good (literal_at t i) (literal_end t i)) × (literal_end t i ≤ t.entries)
  from_there = literal_from t 509 i (eqb (get_or t.kinds i 0) 4) refl (ap is_good (sym goes_on.1) ∙ stands) goes_on.0.inside

  pub literal_begins : i < t.entries
  literal_begins = goes_on.0.inside

  pub literal_inside : literal_end t i ≤ t.entries
  literal_inside = from_there.1

  pub literal_reads : literal t i ≡ good (literal_at t i) (literal_end t i)
  literal_reads = goes_on.1 ∙ from_there.0

-- Parts of an effect.

-- what was read after a condition
when_read : (t : Table) (s : State) (o : Out Ground) → is_good (then o λ g k. then (literals t k) λ ls l. good (when g ls) l) ≡ true
    → (is_good o ≡ true) × (is_good (literals t (next_place o)) ≡ true)
    × (next_place (then o λ g k. then (literals t k) λ ls l. good (when g ls) l) ≡ next_place (literals t (next_place o)))
    × (literals_in s (then o λ g k. then (literals t k) λ ls l. good (when g ls) l) ≡ cond (value_in s o) (items_in (literals t (next_place o))) [])
when_read t s (bad n p) e = not_good Clause n p e
when_read t s (good g k) e = after (literals t k) e
  where
    after : (o : Out (List Literal)) → is_good (then o λ ls l. good (when g ls) l) ≡ true
        → (is_good {A = Ground} (good g k) ≡ true) × (is_good o ≡ true) × (next_place (then o λ ls l. good (when g ls) l) ≡ next_place o)
        × (literals_in s (then o λ ls l. good (when g ls) l) ≡ cond (ground_value s g) (items_in o) [])
    after (bad n p) e = not_good Clause n p e
    after (good ls l) e = (refl, refl, refl, refl)

-- a WHEN: its condition, and its literals after it
pub record WhenAt (t : Table) (s : State) (i : ℕ) : Type 0 where
  pub condition : is_good (ground t 511 (i + 1)) ≡ true
  pub follow : is_good (literals t (next_place (ground t 511 (i + 1)))) ≡ true
  pub ends : next_place (clause t i) ≡ next_place (literals t (next_place (ground t 511 (i + 1))))
  pub brings : literals_in s (clause t i) ≡ cond (value_in s (ground t 511 (i + 1))) (items_in (literals t (next_place (ground t 511 (i + 1))))) []

pub when_stands : (t : Table) (s : State) (i : ℕ) → is_good (clause t i) ≡ true → eqb (get_or t.kinds i 0) 12 ≡ true → WhenAt t s i
when_stands t s i h e =
    let w = goes t place.Clause 512 i (λ e j. clause_by t e j) h in
    let o = ground t 511 (i + 1) in
    let c : clause t i ≡ then o (λ g k. then (literals t k) λ ls l. good (when g ls) l) =
    w.1 ∙ cond-true (eqb (get_or t.kinds i 0) 12) (then o (λ g k. then (literals t k) λ ls l. good (when g ls) l)) (then (literal_by t 511 (entry_at t i) (i + 1)) λ l k. good (plain l) k) e in
    let r = when_read t s o (ap is_good (sym c) ∙ h) in
    record { condition = r.0; follow = r.1; ends = ap (λ (x : Out Clause). next_place x) c ∙ r.2; brings = ap (literals_in s) c ∙ r.3 }

-- Puts.

-- what a WHEN puts, its condition judged in the state v
pub when_puts : (t : Table) (v : State) (i : ℕ) (w : WhenAt t v i) (n : ℕ) (b h : Bool) (j k : ℕ) (s u : State)
    → h ≡ value_in v (ground t 511 (i + 1)) → j ≡ next_place (ground t 511 (i + 1)) → k ≡ next_place (literals t j) → u ≡ put_literals n b (cond h (items_in (literals t j)) []) s
    → (k ≡ next_place (clause t i)) × (u ≡ put_literals n b (literals_in v (clause t i)) s)
when_puts t v i w n b h j k s u e p q r = (
  q ∙ ap (λ (x : ℕ). next_place (literals t x)) p ∙ sym w.ends,
  r
      ∙ ap (λ (x : ℕ). put_literals n b (cond h (items_in (literals t x)) []) s) p
      ∙ ap (λ (x : Bool). put_literals n b (cond x (items_in (literals t (next_place (ground t 511 (i + 1))))) []) s) e
      ∙ ap (λ (ls : List Literal). put_literals n b ls s) (sym w.brings),
)

-- a turn over the literals of a WHEN
module _ (n : ℕ) (b : Bool) (t : Table) (m i j : ℕ) (f : First (literal t) m i j) (s : State) where
  is : items_in (many (literal t) m i) ≡ literal_at t i ∷ items_in (many (literal t) (m - 1) j)
  is =
      let q : good f.item j ≡ good (literal_at t i) (literal_end t i) = sym f.reads ∙ literal_reads t i (ap is_good f.reads) in
      let r : f.item ≡ literal_at t i = cc in
      f.items ∙ ap (λ y. y ∷ items_in (many (literal t) (m - 1) j)) r

  pub put_more : (k : ℕ) (u : State) (h : Bool) → h ≡ true → k ≡ n → u ≡ put_literals k b (literal_at t i ∷ []) s
      → put_literals n b (cond h (items_in (many (literal t) (m - 1) j)) []) u ≡ put_literals n b (cond h (items_in (many (literal t) m i)) []) s
  put_more k u true e q r =
      ap (put_literals n b (items_in (many (literal t) (m - 1) j))) (r ∙ ap (λ (x : ℕ). put_literals x b (literal_at t i ∷ []) s) q)
      ∙ sym (put_append n b (literal_at t i ∷ []) (items_in (many (literal t) (m - 1) j)) s)
      ∙ ap (λ (ys : List Literal). put_literals n b ys s) (sym is)
  put_more k u false e q r = cc

  pub put_no_more : (u : State) (h : Bool) → h ≡ false → u ≡ s → put_literals n b (cond h (items_in (many (literal t) (m - 1) j)) []) u ≡ put_literals n b (cond h (items_in (many (literal t) m i)) []) s
  put_no_more u true e r = cc
  put_no_more u false e r = r

-- a turn over the parts of an effect
pub put_part : (n k : ℕ) (b : Bool) (v : State) (t : Table) (m i j : ℕ) (f : First (clause t) m i j) (s u : State) → k ≡ n → u ≡ put_literals k b (literals_in v (clause t i)) s
    → put_literals n b (action_literals v (items_in (many (clause t) (m - 1) j))) u ≡ put_literals n b (action_literals v (items_in (many (clause t) m i))) s
put_part n k b v t m i j f s u q r =
    let xs = items_in (many (clause t) (m - 1) j) in
    ap (put_literals n b (action_literals v xs)) (r ∙ ap (λ (x : ℕ). put_literals x b (literals_in v (clause t i)) s) q ∙ ap (λ (y : Out Clause). put_literals n b (literals_in v y) s) f.reads)
    ∙ sym (put_append n b (clause_literals v f.item) (action_literals v xs) s)
    ∙ ap (λ (ys : List Clause). put_literals n b (action_literals v ys) s) (sym f.items)
