-- What stands at a place of a book's table, by the kind that the table has there.
use Rattle.std.proofs.Common.{◌≡◌, ℕ, zero, suc, ◌+◌, ◌-◌, ◌<◌, Bool, true, false, not, ◌⊎◌, List, get_or, sym, refl, ap, ◌∙◌, inl, inr, arith}
use mathlib.Core.Bool.{beq}
use Rattle.std.proofs.lemmas.Bool.Decides.{nat_tests}
use Rattle.table.specs.declared.places.Place.TheVariants as place
use Rattle.table.specs.Answers.{is_good}
use Rattle.table.specs.Reading.{entry, Out, bad, good, then, many, next_place}
use Rattle.model.specs.Meaning.{State, empty, join}
use Rattle.model.specs.Trees.{Junction, all, any}
use Rattle.model.specs.Settling.{Ground, negated, group, ground_values}
use Rattle.book.specs.Tables.{Table, entry_at}
use Rattle.book.specs.Reads.{grounds_of, leaf, ground_by, ground}
use Rattle.book_runs.specs.Standing.{value_in, values_in}
use Rattle.table.specs.Kinds.{code_of}
use Rattle.table.specs.declared.kind.Kind.{Kind}
use Rattle.table.specs.declared.kind.Kind.TheVariants.{True, Fact, Not, And, Or}
use Rattle.table.proofs.Codes.{apart, code_is}
use Rattle.book_runs.proofs.Reading.{not_good, Headed, goes, first_good, same_end, First}

-- a formula goes on from its first entry
ground_goes : (t : Table) (levels i : ℕ) → is_good (ground t levels i) ≡ true
    → Headed t place.Ground levels i × (ground t levels i ≡ ground_by (ground t (levels - 1)) (entry_at t i) (i + 1))
unfolding ground
ground_goes t zero i e = let w = goes t place.Ground zero i (λ e j. bad 6 i) e in not_good Ground 6 i (ap is_good (sym w.1) ∙ e)
ground_goes t (suc l) i e =
    let w = goes t place.Ground (suc l) i (λ e j. ground_by (ground t l) e j) e in
    let n : l ≡ suc l - 1 = omega arith in
    (w.0, w.1 ∙ ap (λ x. ground_by (ground t x) (entry_at t i) (i + 1)) n)

-- what is made of formulas that went well
negated_value : (s : State) (o : Out Ground) → is_good o ≡ true → value_in s (then o λ g k. good (negated g) k) ≡ not (value_in s o)
negated_value s (bad n p) e = not_good Ground n p e
negated_value s (good g j) e = refl

group_value : (s : State) (g : Junction) (o : Out (List Ground)) → is_good o ≡ true → value_in s (then o λ gs k. good (group g (grounds_of gs)) k) ≡ values_in s g o
group_value s g (bad n p) e = not_good (List Ground) n p e
group_value s g (good gs k) e = refl

module _ (t : Table) (levels i : ℕ) (stands : is_good (ground t levels i) ≡ true) where
  pub begins : i < t.entries
  begins = (ground_goes t levels i stands).0.inside

  pub deep : 0 < levels
  deep = (ground_goes t levels i stands).0.deep

  pub known_kind : get_or t.kinds i 0 < 22
  known_kind = let p = (ground_goes t levels i stands).0.permits in grind (arith, nat_tests)

  -- after the first entry, whose kind is k
  rest : (k : ℕ) → k ≡ get_or t.kinds i 0 → ground t levels i ≡ ground_by (ground t (levels - 1)) (entry k (get_or t.operands i 0)) (i + 1)
  rest k e = (ground_goes t levels i stands).1 ∙ ap (λ n. ground_by (ground t (levels - 1)) (entry n (get_or t.operands i 0)) (i + 1)) (sym e)

  -- NOT
  module _ (is : ◌≡◌ {A = ℕ} 4 (get_or t.kinds i 0)) where
    pub part_stands : is_good (ground t (levels - 1) (i + 1)) ≡ true
    part_stands = first_good (ground t (levels - 1) (i + 1)) (λ g k. good (negated g) k) (ap is_good (sym (rest 4 is)) ∙ stands)

    pub part_ends : next_place (ground t (levels - 1) (i + 1)) ≡ next_place (ground t levels i)
    part_ends = sym (ap (λ (x : Out Ground). next_place x) (rest 4 is) ∙ same_end negated (ground t (levels - 1) (i + 1)))

    pub part_value : (s : State) → not (value_in s (ground t (levels - 1) (i + 1))) ≡ value_in s (ground t levels i)
    part_value s = sym (ap (value_in s) (rest 4 is) ∙ negated_value s (ground t (levels - 1) (i + 1)) part_stands)

  -- AND asks for all, OR for any
  module _ (g : Junction) (is : ground t levels i ≡ then (many (ground t (levels - 1)) (get_or t.operands i 0) (i + 1)) (λ gs k. good (group g (grounds_of gs)) k)) where
    group_stands : is_good (many (ground t (levels - 1)) (get_or t.operands i 0) (i + 1)) ≡ true
    group_stands = first_good _ (λ gs k. good (group g (grounds_of gs)) k) (ap is_good (sym is) ∙ stands)

    group_ends : next_place (many (ground t (levels - 1)) (get_or t.operands i 0) (i + 1)) ≡ next_place (ground t levels i)
    group_ends = sym (ap (λ (x : Out Ground). next_place x) is ∙ same_end (λ gs. group g (grounds_of gs)) (many (ground t (levels - 1)) (get_or t.operands i 0) (i + 1)))

    group_values : (s : State) → values_in s g (many (ground t (levels - 1)) (get_or t.operands i 0) (i + 1)) ≡ value_in s (ground t levels i)
    group_values s = sym (ap (value_in s) is ∙ group_value s g _ group_stands)

  module _ (is : ◌≡◌ {A = ℕ} 5 (get_or t.kinds i 0)) where
    pub and_stands : is_good (many (ground t (levels - 1)) (get_or t.operands i 0) (i + 1)) ≡ true
    and_stands = group_stands all (rest 5 is)

    pub and_ends : next_place (many (ground t (levels - 1)) (get_or t.operands i 0) (i + 1)) ≡ next_place (ground t levels i)
    and_ends = group_ends all (rest 5 is)

    pub and_values : (s : State) → values_in s all (many (ground t (levels - 1)) (get_or t.operands i 0) (i + 1)) ≡ value_in s (ground t levels i)
    and_values = group_values all (rest 5 is)

  module _ (is : ◌≡◌ {A = ℕ} 6 (get_or t.kinds i 0)) where
    pub or_stands : is_good (many (ground t (levels - 1)) (get_or t.operands i 0) (i + 1)) ≡ true
    or_stands = group_stands any (rest 6 is)

    pub or_ends : next_place (many (ground t (levels - 1)) (get_or t.operands i 0) (i + 1)) ≡ next_place (ground t levels i)
    or_ends = group_ends any (rest 6 is)

    pub or_values : (s : State) → values_in s any (many (ground t (levels - 1)) (get_or t.operands i 0) (i + 1)) ≡ value_in s (ground t levels i)
    or_values = group_values any (rest 6 is)

  -- any other formula is a single entry: FACT, TRUE or FALSE
  module _ (k : Kind) (is : code_of k ≡ get_or t.kinds i 0) (no_not : k ≡ Not → ⊥) (no_and : k ≡ And → ⊥) (no_or : k ≡ Or → ⊥) where
    single : ground t levels i ≡ good (leaf (entry (code_of k) (get_or t.operands i 0))) (i + 1)
    single =
        let a = apart k Not no_not in
        let b = apart k And no_and in
        let c = apart k Or no_or in
        rest (code_of k) is ∙ simp (a, b, c)

    pub single_ends : i + 1 ≡ next_place (ground t levels i)
    single_ends = sym (ap (λ (x : Out Ground). next_place x) single)

  pub fact_ends : ◌≡◌ {A = ℕ} 13 (get_or t.kinds i 0) → i + 1 ≡ next_place (ground t levels i)
  fact_ends is = sym (ap (λ (x : Out Ground). next_place x) (rest 13 is))

  pub fact_value : (s : State) → ◌≡◌ {A = ℕ} 13 (get_or t.kinds i 0) → s (get_or t.operands i 0) ≡ value_in s (ground t levels i)
  fact_value s is = sym (ap (value_in s) (rest 13 is))

  pub true_ends : ◌≡◌ {A = ℕ} 0 (get_or t.kinds i 0) → i + 1 ≡ next_place (ground t levels i)
  true_ends is = sym (ap (λ (x : Out Ground). next_place x) (rest 0 is))

  pub true_value : (s : State) → ◌≡◌ {A = ℕ} 0 (get_or t.kinds i 0) → true ≡ value_in s (ground t levels i)
  true_value s is = sym (ap (value_in s) (rest 0 is))

  -- a formula that is none of the others is FALSE
  pub false_value : (s : State) (k : Kind) → code_of k ≡ get_or t.kinds i 0 → (k ≡ True → ⊥) → (k ≡ Fact → ⊥) → (k ≡ Not → ⊥) → (k ≡ And → ⊥) → (k ≡ Or → ⊥) → false ≡ value_in s (ground t levels i)
  false_value s k is no_true no_fact no_not no_and no_or =
      let a = apart k True no_true in
      let b = apart k Fact no_fact in
      sym (ap (value_in s) (single k is no_not no_and no_or) ∙ simp (a, b))

-- the formulas that follow an AND or an OR
pub listed_stand : (t : Table) (levels i : ℕ) → is_good (ground t levels i) ≡ true → (k : Kind) → code_of k ≡ get_or t.kinds i 0 → (k ≡ And) ⊎ (k ≡ Or)
    → is_good (many (ground t (levels - 1)) (get_or t.operands i 0) (i + 1)) ≡ true
listed_stand t levels i h k e (inl q) = and_stands t levels i h (code_is k And _ e q)
listed_stand t levels i h k e (inr q) = or_stands t levels i h (code_is k Or _ e q)

pub listed_end : (t : Table) (levels i : ℕ) → is_good (ground t levels i) ≡ true → (k : Kind) → code_of k ≡ get_or t.kinds i 0 → (k ≡ And) ⊎ (k ≡ Or)
    → next_place (many (ground t (levels - 1)) (get_or t.operands i 0) (i + 1)) ≡ next_place (ground t levels i)
listed_end t levels i h k e (inl q) = and_ends t levels i h (code_is k And _ e q)
listed_end t levels i h k e (inr q) = or_ends t levels i h (code_is k Or _ e q)

-- Formulas one after the other: one that differs from what is asked for decides.

-- the first of two values decides where it is not that of none
join_differs : (g : Junction) (b v w : Bool) → b ≡ empty g → not (beq v b) ≡ true → join g v w ≡ v
join_differs all b true w q e = cc
join_differs all b false w q e = refl
join_differs any b true w q e = refl
join_differs any b false w q e = cc

-- and the second where it is
join_agrees : (g : Junction) (b v w : Bool) → b ≡ empty g → not (beq v b) ≡ false → join g v w ≡ w
join_agrees all b true w q e = refl
join_agrees all b false w q e = cc
join_agrees any b true w q e = cc
join_agrees any b false w q e = refl

module _ (read : ℕ → Out Ground) (m i j : ℕ) (s : State) (g : Junction) (b v : Bool) (of_none : b ≡ empty g) (f : First read m i j) (is : v ≡ value_in s (read i)) where
  -- the values are the first, then the others
  values_split : values_in s g (many read m i) ≡ join g v (values_in s g (many read (m - 1) j))
  values_split =
      ap (λ gs. ground_values s g (grounds_of gs)) f.items
      ∙ ap (λ x. join g x (values_in s g (many read (m - 1) j))) (sym (is ∙ ap (value_in s) f.reads))

  pub decided : not (beq v b) ≡ true → v ≡ values_in s g (many read m i)
  decided d = sym (values_split ∙ join_differs g b v (values_in s g (many read (m - 1) j)) of_none d)

  pub left_to : not (beq v b) ≡ false → values_in s g (many read (m - 1) j) ≡ values_in s g (many read m i)
  left_to d = sym (values_split ∙ join_agrees g b v (values_in s g (many read (m - 1) j)) of_none d)

-- what is known of formulas at their first entries
pub ruleset formulas = (begins, deep, known_kind, part_stands, part_ends, part_value, fact_ends, fact_value, true_ends, true_value)
