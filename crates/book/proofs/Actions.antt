-- Names and actions that were read, part after part.
use Rattle.std.proofs.Common.{◌≡◌, ℕ, zero, suc, ◌+◌, ◌-◌, ◌<◌, ◌≤◌, true, ltb, List, [], ◌∷◌, length, get_or, sym, ap, ◌∙◌, subst, arith}
use Rattle.std.proofs.lemmas.Bool.{ltb-true, eqb-true}
use Rattle.table.specs.declared.places.Place.TheVariants as place
use Rattle.table.specs.Reading.{good, then, unless}
use Rattle.table.proofs.Reading.{bad_is_not_good, first_step, passed, read_on, by_test}
use Rattle.model.specs.Forming.{Within}
use Rattle.model.specs.Trees.{Name}
use Rattle.model.specs.Books.{Action}
use Rattle.book.specs.Tables.{Table, most_levels, most_names, most_objects}
use Rattle.book.specs.Reads.{ground, effect, is_object, objects, precedes, listed, name, action}
use Rattle.book.proofs.Entries.{Headed, on_from, ranged_at}

-- the objects of a name are few, and below the limit
pub objects_small : (t : Table) (room i : ℕ) (os : List ℕ) (j : ℕ) → objects t room i ≡ good os j → Within most_names os × (length os ≤ room)
unfolding objects
objects_small t zero i os j e =
    by_test (is_object t i) _ _ _ e
    (λ _ q. bad_is_not_good 5 i os j q)
    λ _ q. let z : [] ≡ os = cc in subst (λ xs. Within most_names xs × (length xs ≤ 0)) z (tt, omega arith)
objects_small t (suc room) i os j e =
    let o = get_or t.operands i 0 in
    by_test (is_object t i) _ _ _ e
    (λ _ q.
    let v = passed (ltb o most_names) 5 i (then (objects t room (i + 1)) λ os j. good (o ∷ os) j) os j q in
    read_on (objects t room (i + 1)) (λ os j. good (o ∷ os) j) os j v.1 λ rest k r u.
    let w = objects_small t room (i + 1) rest k r in
    let z : o ∷ rest ≡ os = cc in
    subst (λ xs. Within most_names xs × (length xs ≤ suc room)) z ((ltb-true o most_names v.0, w.0), omega (arith, w.1)))
    λ _ q. let z : [] ≡ os = cc in subst (λ xs. Within most_names xs × (length xs ≤ suc room)) z (tt, omega arith)

-- a name that was read
pub record NameRead (t : Table) (before : List ℕ) (i : ℕ) (m : Name) (j : ℕ) : Type 0 where
  pub headed : Headed t place.Action most_levels i
  pub operator : m.operator ≡ get_or t.operands i 0
  pub small : m.operator < most_names
  pub objects_read : objects t most_objects (i + 1) ≡ good m.objects j
  pub after : precedes before (listed m) ≡ true

pub name_read : (t : Table) (before : List ℕ) (i : ℕ) (m : Name) (j : ℕ) → name t before i ≡ good m j → NameRead t before i m j
name_read t before i m j e =
    let o = get_or t.operands i 0 in
    let w = on_from t place.Action most_levels i (λ e j. then (objects t most_objects j) λ os k. unless (precedes before (e.operand ∷ os)) 8 (k - 1) (good (record { operator = e.operand; objects = os }) k)) m j e in
    let v = first_step (objects t most_objects (i + 1)) (λ os k. unless (precedes before (o ∷ os)) 8 (k - 1) (good (record { operator = o; objects = os }) k)) m j w.1 in
    let x : Name = record { operator = o; objects = v.0 } in
    let u = passed (precedes before (o ∷ v.0)) 8 (v.1 - 1) (good x v.1) m j v.3 in
    let q : good x v.1 ≡ good m j = u.1 in
    let y : x ≡ m = cc in
    let z : v.1 ≡ j = cc in
    let s = ltb-true o most_names (ranged_at t (get_or t.kinds i 0) o 18 w.0.ranged (eqb-true _ 18 w.0.permits)) in
    let a : o ≡ m.operator = ap (λ (n : Name). n.operator) y in
    record {
      headed = w.0;
      operator = sym a;
      small = omega arith;
      objects_read = v.2 ∙ ap (good v.0) z ∙ ap (λ (n : Name). good n.objects j) y;
      after = ap (λ (n : Name). precedes before (listed n)) (sym y) ∙ u.0;
    }

-- an action that was read, from place to place
pub record ActionRead (t : Table) (before : List ℕ) (i : ℕ) (a : Action) (j : ℕ) : Type 0 where
  pub named : ℕ
  pub judged : ℕ
  pub name_is : name t before i ≡ good a.name named
  pub precondition : ground t most_levels named ≡ good a.precondition judged
  pub effect_is : effect t judged ≡ good a.effect j

pub action_read : (t : Table) (before : List ℕ) (i : ℕ) (a : Action) (j : ℕ) → action t before i ≡ good a j → ActionRead t before i a j
action_read t before i a j e =
    let w = first_step (name t before i) (λ m j. then (ground t most_levels j) λ g k. then (effect t k) λ cs l. good (record { name = m; precondition = g; effect = cs }) l) a j e in
    let v = first_step (ground t most_levels w.1) (λ g k. then (effect t k) λ cs l. good (record { name = w.0; precondition = g; effect = cs }) l) a j w.3 in
    let u = first_step (effect t v.1) (λ cs l. good (record { name = w.0; precondition = v.0; effect = cs }) l) a j v.3 in
    let x : Action = record { name = w.0; precondition = v.0; effect = u.0 } in
    let q : good x u.1 ≡ good a j = u.3 in
    let y : x ≡ a = cc in
    let z : u.1 ≡ j = cc in
    record {
      named = w.1;
      judged = v.1;
      name_is = w.2 ∙ ap (λ (b : Action). good b.name w.1) y;
      precondition = v.2 ∙ ap (λ (b : Action). good b.precondition v.1) y;
      effect_is = u.2 ∙ ap (good u.0) z ∙ ap (λ (b : Action). good b.effect j) y;
    }
