-- What a task's record has at its places, and a step that is taken.
use Rattle.std.proofs.Common.{◌≡◌, ℕ, ◌+◌, ◌<◌, ◌≤◌, true, false, ltb, List, [], ◌∷◌, length, get_or, Ok, sym, refl, ap, ◌∙◌, subst, arith}
use Rattle.std.proofs.lemmas.Bool.{cond-true, cond-false, lt-ltb, ltb-true, and_parts}
use Rattle.std.specs.Borrow.{Bor}
use Rattle.store.specs.Sets.{pictured, after_copy, copied}
use Rattle.model.specs.Forming.{Within}
use Rattle.model.specs.Lists.{has, distinct}
use Rattle.model.specs.Meaning.{State, value, typed, suits, fits, operator_of, precondition_of, effect_of, literals_where}
use Rattle.model.specs.Trees as tree
use Rattle.model.specs.Trees.{atoms, members}
use Rattle.model.proofs.Members.{has_in, member_below}
use Rattle.adl.specs.declared.task.Task.{Task}
use Rattle.adl.specs.Held.{held, tree_of}
use Rattle.adl.specs.Tables.{outermost}
use Rattle.adl.specs.Reads as read
use Rattle.adl.specs.Reads.{formula, goal_place, operators_place, effect_place}
use Rattle.runs.specs.Standing.{FormulaAt}
use Rattle.runs.specs.Effects.{EffectAt}
use Rattle.protocol.specs.declared.name.Name.{Name}
use Rattle.protocol.specs.Names.{name_of}
use Rattle.protocol.specs.Shown.{shown}
use Rattle.protocol.specs.Steps.{put_step}
use Rattle.protocol.specs.Machines.{Performed}
use Rattle.runs.specs.declared.fitting_name.Fitting.{Fitting}
use Rattle.runs.specs.Runs.{perform_by_puts}
use Rattle.protocol.proofs.Images.{had_room}
use Rattle.adl_theorems.proofs.Standing.{stands, operators_length}
use Rattle.runs.proofs.Fittings.{places_of, as_many_objects, operator_begun, effect_starts}

-- the goal stands at the place that the record keeps
pub goal_stands : (k : Task) → FormulaAt (held k) 0 k.goal_at (tree_of k).goal (operators_place (held k))
goal_stands k =
    record {
      room = 256;
      around = outermost 0 (goal_place (held k));
      reads = ap (λ i. formula (held k) 256 (outermost 0 (goal_place (held k))) i) k.goal ∙ (stands (held k) k.formed).goal;
      known = refl;
      few = omega arith;
    }

-- objects of types are objects of the task
pub typed_within : (t : tree.Task) (tys os : List ℕ) → typed t tys os ≡ true → Within t.objects os
typed_within t [] [] e = tt
typed_within t [] (o ∷ os) e = absurd (let z : ◌≡◌ {A = ℕ} 0 1 = cc in omega arith)
typed_within t (ty ∷ tys) [] e = tt
typed_within t (ty ∷ tys) (o ∷ os) e =
    let w = and_parts (has o (members t ty)) (typed t tys os) e in
    (member_below t ty o (has_in o (members t ty) w.0), typed_within t tys os w.1)

-- the effect of an operator stands at the place that the record keeps
pub operator_effect : (k : Task) (o : ℕ) (h : o < k.table.sizes.operators) → EffectAt (held k) (get_or (held k).operands (places_of k o).start 0) (places_of k o).effect (operator_of (tree_of k) o).effect (operator_begun k o h).0
operator_effect k o h =
    let i = (places_of k o).start in
    let count = get_or (held k).operands i 0 in
    let r = (operator_begun k o h).1 in
    record {
      room = 256;
      around = outermost count (effect_place (held k) i);
      reads = ap (λ j. read.effect (held k) 256 (outermost count (effect_place (held k) i)) j) (effect_starts k o h) ∙ r.effect_is;
      known = refl;
      few = omega (arith, r.few);
    }

-- a name that fits a loaded task
module _ (k : Task) (m : tree.Name) (e : fits (tree_of k) m ≡ true) where
  -- the types of the operator's parameters
  abbrev types_of : List ℕ
  types_of = (operator_of (tree_of k) m.operator).parameters

  -- the objects are of these types
  typed_objects : typed (tree_of k) types_of m.objects ≡ true
  typed_objects =
      let w = and_parts (ltb m.operator (length (tree_of k).operators)) (suits (tree_of k) m.operator m.objects) e in
      (and_parts (typed (tree_of k) types_of m.objects) (distinct m.objects) w.1).0

  -- its operator is one of the task
  pub operator_known : m.operator < k.table.sizes.operators
  operator_known =
      let w = and_parts (ltb m.operator (length (tree_of k).operators)) (suits (tree_of k) m.operator m.objects) e in
      omega (arith, ltb-true m.operator (length (tree_of k).operators) w.0, operators_length (held k) k.formed)

  -- its objects are objects of the task
  pub objects_known : Within k.table.sizes.objects m.objects
  objects_known = subst (λ n. Within n m.objects) (stands (held k) k.formed).objects (typed_within (tree_of k) types_of m.objects typed_objects)

  -- where its operator begins
  abbrev start : ℕ
  start = (places_of k m.operator).start

  -- how many parameters its operator has
  abbrev count : ℕ
  count = get_or (held k).operands start 0

  -- the operator begins inside the table
  start_inside : start < k.table.sizes.entries
  start_inside = (operator_begun k m.operator operator_known).1.inside

  -- as many as it has objects
  count_is : count ≡ length m.objects
  count_is = (operator_begun k m.operator operator_known).1.count ∙ as_many_objects (tree_of k) types_of m.objects typed_objects

  -- at most four objects
  few_objects : length m.objects ≤ 4
  few_objects = omega (arith, count_is, (operator_begun k m.operator operator_known).1.few)

  -- its precondition stands after as many parameters as it has objects
  pub precondition_stands : FormulaAt (held k) (length m.objects) (start + 1 + length m.objects) (precondition_of (tree_of k) m) (effect_place (held k) start)
  precondition_stands =
      let at_count : FormulaAt (held k) (length m.objects) (start + 1 + count) (precondition_of (tree_of k) m) (effect_place (held k) start) =
      record {
        room = 256;
        around = outermost count (start + 1 + count);
        reads = (operator_begun k m.operator operator_known).1.precondition;
        known = count_is;
        few = omega (arith, few_objects);
      } in
      subst (λ n. FormulaAt (held k) (length m.objects) (start + 1 + n) (precondition_of (tree_of k) m) (effect_place (held k) start)) count_is at_count

  -- its effect stands at the place that the record keeps
  pub effect_stands : EffectAt (held k) (length m.objects) ((places_of k m.operator).effect) (operator_of (tree_of k) m.operator).effect (operator_begun k m.operator operator_known).0
  effect_stands =
      subst (λ v. EffectAt (held k) v (places_of k m.operator).effect (operator_of (tree_of k) m.operator).effect (operator_begun k m.operator operator_known).0) count_is
      (operator_effect k m.operator operator_known)

-- the numbers of a name that fits, and of where its operator begins, are small
module _ (f : Fitting) where
  pub operator_small : f.name.operator < 32
  operator_small = omega (arith, operator_known f.task.now (name_of f.name) f.fits, f.task.now.table.operators)

  pub objects_few : length f.name.objects.now ≤ 4
  objects_few = few_objects f.task.now (name_of f.name) f.fits

  pub begins_inside : (places_of f.task.now f.name.operator).start < f.task.now.table.sizes.entries
  begins_inside = start_inside f.task.now (name_of f.name) f.fits

-- what holds of a name that fits holds of the name that was tried
pub holds_of_name : (f : Fitting) (t : Bor Task) (m : Name) → (f.task ≡ t) × (f.name ≡ m) → (P : tree.Task → tree.Name → Type 0) → P (tree_of f.task.now) (name_of f.name) → P (tree_of t.now) (name_of m)
holds_of_name f t m e P h = subst (λ (m : Name). P (tree_of t.now) (name_of m)) e.1 (subst (λ (t : Bor Task). P (tree_of t.now) (name_of f.name)) e.0 h)

-- a step that is taken
pub step_taken : (t : tree.Task) (size n a : ℕ) (s u : State) (im seen : List ℕ) (m : tree.Name) → n < 65535 → a ≡ atoms t → Ok tt ≡ copied size (length im) a → true ≡ fits t m → seen ≡ after_copy size a s im →
    true ≡ value t (shown seen) m.objects (precondition_of t m) → u ≡ put_step size (literals_where (value t (shown seen)) (effect_of t m)) s →
    record { steps = n + 1; set = u; image = seen; answer = Ok tt } ≡ perform_by_puts t size n s im m
step_taken t size n a s u im seen m h c room fit copy true_in puts =
    let w = had_room (ltb size a) (ltb (length im) a) _ _ room in
    let x : ltb size (atoms t) ≡ false = ap (λ z. ltb size z) (sym c) ∙ w.0 in
    let y : ltb (length im) (atoms t) ≡ false = ap (λ z. ltb (length im) z) (sym c) ∙ w.1 in
    let p : seen ≡ pictured (atoms t) s im = copy ∙ cond-false (ltb size a) im _ w.0 ∙ cond-false (ltb (length im) a) im (pictured a s im) w.1 ∙ ap (λ z. pictured z s im) c in
    let v : value t (shown (pictured (atoms t) s im)) m.objects (precondition_of t m) ≡ true = ap (λ (z : List ℕ). value t (shown z) m.objects (precondition_of t m)) (sym p) ∙ sym true_in in
    let q : u ≡ put_step size (literals_where (value t (shown (pictured (atoms t) s im))) (effect_of t m)) s = puts ∙ ap (λ (z : List ℕ). put_step size (literals_where (value t (shown z)) (effect_of t m)) s) p in
    let R : State → List ℕ → Performed = λ z i. record { steps = n + 1; set = z; image = i; answer = Ok tt } in
    ap (R u) p ∙ ap (λ (z : State). R z (pictured (atoms t) s im)) q
    ∙ sym (cond-true (ltb n 65535) _ _ (lt-ltb n 65535 h) ∙ cond-false (ltb size (atoms t)) _ _ x ∙ cond-false (ltb (length im) (atoms t)) _ _ y ∙ cond-true (fits t m) _ _ (sym fit) ∙ cond-true (value t (shown (pictured (atoms t) s im)) m.objects (precondition_of t m)) _ _ v)
