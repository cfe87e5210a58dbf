-- Names that fit, by their first object and the others.
use Rattle.adl.specs.Kept.{places_from}
use Rattle.adl.specs.declared.operator_places.OperatorPlaces.{OperatorPlaces}
use Rattle.std.proofs.lemmas.List.{get_or-map}
use Rattle.std.proofs.Common.{◌≡◌, ℕ, suc, ◌+◌, ◌-◌, ◌<◌, ◌≤◌, Bool, true, false, not, ◌&&◌, ◌||◌, ltb, nat_eq, List, [], ◌∷◌, length, get_or, take, drop, sym, refl, ap, ◌∙◌, subst, ⊎_elim, arith}
use Rattle.std.proofs.lemmas.List.{drop_more, take_rest, length-drop, nil_from_length, get_or-take}
use Rattle.std.proofs.lemmas.Bool.{eqb-true, eq-eqb, lt-ltb, le-ltb, and_parts, and_left, and_right, cases_Bool}
use Rattle.std.specs.List.{list_any}
use Rattle.std.specs.Cmp.{both_ways}
use Rattle.table.specs.declared.places.Place.TheVariants as place
use Rattle.table.specs.Reading.{good, many}
use Rattle.model.specs.Lists.{has, distinct}
use Rattle.model.specs.Trees as tree
use Rattle.model.specs.Trees.{members}
use Rattle.model.specs.Meaning.{operator_of, typed, suits, fits}
use Rattle.adl.specs.declared.task.Task.{Task}
use Rattle.adl.specs.Held.{held, tree_of}
use Rattle.adl.specs.Tables.{Table, outermost}
use Rattle.adl.specs.Reads.{parameter, operator_places, effect_place}
use Rattle.table.proofs.Reading.{series_first}
use Rattle.adl.proofs.Heads.{operand_read}
use Rattle.adl_theorems.proofs.Standing.{OperatorRead, operator_stands, operator_places_length}

-- all but the first
abbrev pub others : List ℕ → List ℕ
others xs = take (length xs - 1) (drop 1 xs)

-- a list that is not empty is its first and the others
pub first_and_others : (xs : List ℕ) → 0 < length xs → xs ≡ get_or xs 0 0 ∷ others xs
first_and_others xs h = drop_more xs 0 0 h ∙ ap (λ ys. get_or xs 0 0 ∷ ys) (sym (take_rest xs 1))

-- the others are one fewer
pub length_others : (xs : List ℕ) → length (others xs) ≡ length xs - 1
length_others xs = ap length (take_rest xs 1) ∙ length-drop 1 xs

-- a test of equality may be turned
pub eq_turned : (m n : ℕ) → nat_eq m n ≡ nat_eq n m
eq_turned m n = both_ways (nat_eq m n) (nat_eq n m) (λ e. eq-eqb n m (sym (eqb-true m n e))) (λ e. eq-eqb m n (sym (eqb-true n m e)))

-- what a slice's `contains` tells
pub has_listed : (n : ℕ) (xs : List ℕ) → list_any (λ x. nat_eq x n) xs ≡ has n xs
has_listed n [] = refl
has_listed n (x ∷ xs) = ap (λ b. b || list_any (λ x. nat_eq x n) xs) (eq_turned x n) ∙ ap (λ b. nat_eq n x || b) (has_listed n xs)

-- no number stands twice in an empty list
pub distinct_none : (xs : List ℕ) → length xs ≡ 0 → true ≡ distinct xs
distinct_none xs h = sym (ap distinct (nil_from_length xs h))

module _ (xs : List ℕ) (h : 0 < length xs) where
  -- all differ if the first is not among the others and they differ
  distinct_split : distinct xs ≡ (not (has (get_or xs 0 0) (others xs)) && distinct (others xs))
  distinct_split = ap distinct (first_and_others xs h)

  -- if the first is not among the others, they decide
  pub distinct_others : (b : Bool) → false ≡ has (get_or xs 0 0) (others xs) → b ≡ distinct (others xs) → b ≡ distinct xs
  distinct_others b e q = q ∙ sym (distinct_split ∙ ap (λ z. not z && distinct (others xs)) (sym e))

  -- if the first is among the others, it stands twice
  pub first_twice : true ≡ has (get_or xs 0 0) (others xs) → false ≡ distinct xs
  first_twice e = sym (distinct_split ∙ ap (λ z. not z && distinct (others xs)) (sym e))

-- parameters one after the other: the first, and the others after it
pub first_parameter : (t : Table) (n i : ℕ) (tys : List ℕ) (j : ℕ) → 0 < n → many (parameter t) n i ≡ good tys j →
    (rest : List ℕ) × (tys ≡ get_or t.operands i 0 ∷ rest) × (many (parameter t) (n - 1) (i + 1) ≡ good rest j)
first_parameter t n i tys j h e =
    let w = series_first (λ (_ : Unit {0}). parameter t) (λ _ _. tt) n tt i tys j h e in
    let o = operand_read t place.Parameter (outermost 0 i) i w.0 w.1 w.3 in
    (w.2, w.5 ∙ ap (λ x. x ∷ w.2) o.1, ap (λ x. many (parameter t) (n - 1) x) (sym o.0.ends) ∙ w.4)

-- if the first object is of its type, the others decide
pub typed_others : (t : tree.Task) (ty : ℕ) (tys rest xs : List ℕ) (b : Bool) → 0 < length xs → tys ≡ ty ∷ rest → true ≡ has (get_or xs 0 0) (members t ty) → b ≡ typed t rest (others xs) → b ≡ typed t tys xs
typed_others t ty tys rest xs b h e m q =
    q ∙ ap (λ z. z && typed t rest (others xs)) m ∙ sym (ap (λ z. typed t z xs) e ∙ ap (typed t (ty ∷ rest)) (first_and_others xs h))

-- objects of their types are as many as the types
pub as_many_objects : (t : tree.Task) (tys os : List ℕ) → typed t tys os ≡ true → length tys ≡ length os
as_many_objects t [] [] e = refl
as_many_objects t [] (o ∷ os) e = absurd (let z : ◌≡◌ {A = ℕ} 0 1 = cc in omega arith)
as_many_objects t (ty ∷ tys) [] e = absurd (let z : ◌≡◌ {A = ℕ} 0 1 = cc in omega arith)
as_many_objects t (ty ∷ tys) (o ∷ os) e = ap suc (as_many_objects t tys os (and_parts (has o (members t ty)) (typed t tys os) e).1)

module _ (t : tree.Task) (m : tree.Name) where
  -- the types of the operator's parameters
  abbrev types_of : List ℕ
  types_of = (operator_of t m.operator).parameters

  -- no operator, no name that fits
  pub no_operator : length t.operators ≤ m.operator → false ≡ fits t m
  no_operator h = sym (and_left (ltb m.operator (length t.operators)) (suits t m.operator m.objects) (le-ltb m.operator (length t.operators) h))

  -- not as many objects as parameters
  pub wrong_number : (length types_of ≡ length m.objects → ⊥) → false ≡ fits t m
  wrong_number h =
      let e : typed t types_of m.objects ≡ false = ⊎_elim (λ y. absurd (h (as_many_objects t types_of m.objects y))) (λ n. n) (cases_Bool (typed t types_of m.objects)) in
      sym (and_right (ltb m.operator (length t.operators)) (suits t m.operator m.objects) (and_left (typed t types_of m.objects) (distinct m.objects) e))

  module _ (h : m.operator < length t.operators) where
    -- if the operator exists, the objects decide
    fits_by_objects : fits t m ≡ (typed t types_of m.objects && distinct m.objects)
    fits_by_objects = ap (λ z. z && suits t m.operator m.objects) (lt-ltb m.operator (length t.operators) h)

    -- objects of their types fit if they all differ
    pub fits_if_distinct : (b : Bool) → true ≡ typed t types_of m.objects → b ≡ distinct m.objects → b ≡ fits t m
    fits_if_distinct b e q = q ∙ sym (fits_by_objects ∙ ap (λ z. z && distinct m.objects) (sym e))

    -- objects that are not of their types do not fit
    pub fits_not : false ≡ typed t types_of m.objects → false ≡ fits t m
    fits_not e = sym (fits_by_objects ∙ ap (λ z. z && distinct m.objects) (sym e))

-- the places that the record keeps of an operator
abbrev pub unplaced : OperatorPlaces
unplaced = record { start = 0; effect = 0 }

abbrev pub places_of : Task → ℕ → OperatorPlaces
places_of k o = get_or k.operators o unplaced

-- the operators of a loaded task, by the places that the record keeps
module _ (k : Task) (o : ℕ) (h : o < k.table.sizes.operators) where
  -- the record keeps the places of the table
  operator_kept : places_of k o ≡ places_from (held k) (get_or (operator_places (held k)) o 0)
  operator_kept =
      let n : o < length (operator_places (held k)) = omega (arith, operator_places_length (held k), h) in
      sym (get_or-take k.table.sizes.operators k.operators o unplaced h)
      ∙ ap (λ xs. get_or xs o unplaced) k.placed
      ∙ get_or-map (places_from (held k)) (operator_places (held k)) o 0 unplaced n

  -- where the operator begins
  pub operator_starts : (places_of k o).start ≡ get_or (operator_places (held k)) o 0
  operator_starts = ap (λ (x : OperatorPlaces). x.start) operator_kept

  -- its parts stand one after the other
  pub operator_begun : (j : ℕ) × OperatorRead (held k) (places_of k o).start (operator_of (tree_of k) o) j
  operator_begun = let w = operator_stands (held k) k.formed o h in (w.0, subst (λ i. OperatorRead (held k) i (operator_of (tree_of k) o) w.0) (sym operator_starts) w.1)

  -- where its effect begins
  pub effect_starts : (places_of k o).effect ≡ effect_place (held k) (places_of k o).start
  effect_starts = ap (λ (x : OperatorPlaces). x.effect) operator_kept ∙ ap (effect_place (held k)) (sym operator_starts)
