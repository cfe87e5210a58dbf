-- Objects, the order of names, and actions one after the other.
use Rattle.std.proofs.Common.{◌≡◌, ℕ, zero, suc, ◌+◌, ◌-◌, ◌<◌, ◌≤◌, Bool, true, false, cond, eqb, ltb, List, [], ◌∷◌, length, get_or, take, drop, Ok, Err, sym, refl, ap, ◌∙◌, arith, ltb-true, le-ltb, lt-ltb, eq-eqb, ne_eqb}
use Rattle.std.specs.List.{between}
use Rattle.std.proofs.lemmas.List.{drop_more}
use Rattle.std.proofs.lemmas.Bool.{and_from, and_left, and_right, and_parts}
use Rattle.fault.specs.declared.Fault.{Fault}
use Rattle.fault.specs.declared.Layer.TheVariants as layer
use Rattle.fault.specs.Faults.{refusal}
use Rattle.table.specs.declared.places.Place.TheVariants as place
use Rattle.table.specs.Reading.{Entry, Out, bad, good, then, unless, series}
use Rattle.table.proofs.Answering.{refused, read_well, handed_on, step_goes, series_refused, series_turn}
use Rattle.table.proofs.Reading.{bad_is_not_good}
use Rattle.model.specs.Trees.{Name}
use Rattle.model.specs.Books.{Action}
use Rattle.book.specs.Tables.{Table, entry_at, most_levels, most_names, most_objects, head}
use Rattle.book.specs.Reads.{ground, effect, is_object, objects, precedes, listed, name, action, after_action}
use Rattle.book.specs.Named.{name_in}
use Rattle.book.specs.Views.{answer, heading}
use Rattle.book.proofs.Heading.{headed, head_is}

-- Objects.
module _ (t : Table) (i : ℕ) where
  pub none_past : t.entries ≤ i → is_object t i ≡ false
  none_past h = and_left (ltb i t.entries) (eqb (get_or t.kinds i 0) 10) (le-ltb i t.entries h)

  pub none_other : (get_or t.kinds i 0 ≡ 10 → ⊥) → is_object t i ≡ false
  none_other h = and_right (ltb i t.entries) (eqb (get_or t.kinds i 0) 10) (ne_eqb (get_or t.kinds i 0) 10 h)

  pub one_here : i < t.entries → get_or t.kinds i 0 ≡ 10 → is_object t i ≡ true
  one_here h k = and_from (ltb i t.entries) (eqb (get_or t.kinds i 0) 10) (lt-ltb i t.entries h) (eq-eqb (get_or t.kinds i 0) 10 k)

  abbrev first_of : Bool → Out (List ℕ)
  first_of b = cond b (bad 5 i) (good [] i)

  abbrev next_of : ℕ → Bool → Bool → Out (List ℕ)
  next_of room b c = cond b (unless c 5 i (then (objects t room (i + 1)) λ os j. good (get_or t.operands i 0 ∷ os) j)) (good [] i)

  pub objects_end : (room : ℕ) → is_object t i ≡ false → Ok i ≡ answer (objects t room i)
  unfolding objects
  objects_end zero h = sym (ap (λ b. answer (first_of b)) h)
  objects_end (suc room) h = sym (ap (λ b. answer (next_of room b (ltb (get_or t.operands i 0) most_names))) h)

  pub objects_fifth : (room : ℕ) → room ≡ 0 → is_object t i ≡ true → Err (refusal 5 layer.Book i) ≡ answer (objects t room i)
  unfolding objects
  objects_fifth zero z h = sym (ap (λ b. answer (first_of b)) h)
  objects_fifth (suc room) z h = absurd (omega arith)

  pub objects_high : (room : ℕ) → 32 ≤ get_or t.operands i 0 → is_object t i ≡ true → Err (refusal 5 layer.Book i) ≡ answer (objects t room i)
  unfolding objects
  objects_high zero l h = sym (ap (λ b. answer (first_of b)) h)
  objects_high (suc room) l h =
      sym (ap (λ b. answer (next_of room b (ltb (get_or t.operands i 0) most_names))) h ∙ ap (λ c. answer (next_of room true c)) (le-ltb (get_or t.operands i 0) 32 l))

  pub objects_go : (room : ℕ) → (room ≡ 0 → ⊥) → get_or t.operands i 0 < 32 → is_object t i ≡ true → answer (objects t (room - 1) (i + 1)) ≡ answer (objects t room i)
  unfolding objects
  objects_go zero z l h = absurd (z refl)
  objects_go (suc room) z l h =
      let n : suc room - 1 ≡ room = omega arith in
      ap (λ x. answer (objects t x (i + 1))) n
      ∙ sym (handed_on layer.Book (objects t room (i + 1)) (λ os. get_or t.operands i 0 ∷ os))
      ∙ sym (ap (λ b. answer (next_of room b (ltb (get_or t.operands i 0) most_names))) h ∙ ap (λ c. answer (next_of room true c)) (lt-ltb (get_or t.operands i 0) 32 l))

between_none : (i : ℕ) (xs : List ℕ) → between i i xs ≡ []
between_none i xs = let n : i - i ≡ 0 = omega arith in ap (λ m. take m (drop i xs)) n

between_cons : (i j : ℕ) (xs : List ℕ) → i < j → i < length xs → between i j xs ≡ get_or xs i 0 ∷ between (i + 1) j xs
between_cons i j xs h l =
    let n : j - i ≡ suc (j - (i + 1)) = omega arith in
    ap (λ m. take m (drop i xs)) n ∙ ap (take (suc (j - (i + 1)))) (drop_more xs i 0 l)

-- a name as a list is the stretch of operands where it stands
pub listed_in : (os : List ℕ) (i j : ℕ) → i < j → i < length os → listed (name_in os i j) ≡ between i j os
listed_in os i j h l = sym (between_cons i j os h l)

-- what objects were read
pub record Text (t : Table) (i j : ℕ) (os : List ℕ) : Type 0 where
  pub forth : i ≤ j
  pub under : i ≤ t.entries → j ≤ t.entries
  pub text : os ≡ between i j t.operands

module _ (t : Table) (fit : t.entries ≤ length t.operands) where
  nothing : (i : ℕ) (os : List ℕ) (j : ℕ) → good [] i ≡ good os j → Text t i j os
  nothing i os j e =
      let p : i ≡ j = cc in
      let q : [] ≡ os = cc in
      record { forth = omega arith; under = λ h. omega arith; text = sym q ∙ sym (between_none i t.operands) ∙ ap (λ x. between i x t.operands) p }

  one_more : (i : ℕ) (o : Out (List ℕ)) (os : List ℕ) (j : ℕ) → i < t.entries → ((os' : List ℕ) (j' : ℕ) → o ≡ good os' j' → Text t (i + 1) j' os') → then o (λ rest k. good (get_or t.operands i 0 ∷ rest) k) ≡ good os j → Text t i j os
  one_more i (bad n p) os j h ih e = bad_is_not_good n p os j e
  one_more i (good rest k) os j h ih e =
      let p : k ≡ j = cc in
      let q : get_or t.operands i 0 ∷ rest ≡ os = cc in
      let u = ih rest j (ap (good rest) p) in
      let f : i < j = omega (arith, u.forth) in
      let l : i < length t.operands = omega arith in
      record {
        forth = omega (arith, u.forth);
        under = λ z. u.under (omega arith);
        text = sym q ∙ ap (λ x. get_or t.operands i 0 ∷ x) u.text ∙ sym (between_cons i j t.operands f l);
      }

  at_one : (room i : ℕ) (os : List ℕ) (j : ℕ) (b c : Bool) → is_object t i ≡ b → ((os' : List ℕ) (j' : ℕ) → objects t room (i + 1) ≡ good os' j' → Text t (i + 1) j' os') → next_of t i room b c ≡ good os j → Text t i j os
  at_one room i os j true true x ih e = one_more i (objects t room (i + 1)) os j (ltb-true i t.entries (and_parts (ltb i t.entries) (eqb (get_or t.kinds i 0) 10) x).0) ih e
  at_one room i os j true false x ih e = bad_is_not_good 5 i os j e
  at_one room i os j false c x ih e = nothing i os j e

  at_none : (i : ℕ) (os : List ℕ) (j : ℕ) (b : Bool) → first_of t i b ≡ good os j → Text t i j os
  at_none i os j true e = bad_is_not_good 5 i os j e
  at_none i os j false e = nothing i os j e

  pub objects_text : (room i : ℕ) (os : List ℕ) (j : ℕ) → objects t room i ≡ good os j → Text t i j os
  unfolding objects
  objects_text zero i os j e = at_none i os j (is_object t i) e
  objects_text (suc room) i os j e =
      at_one room i os j (is_object t i) (ltb (get_or t.operands i 0) most_names) refl (λ os' j' e'. objects_text room (i + 1) os' j' e') e

-- A name, from what the code was told.
module _ (t : Table) (fit : t.entries ≤ length t.operands) (before : List ℕ) (i : ℕ) (e : Entry) (j : ℕ) (inside : i < t.entries)
    (first : Ok e ≡ heading (head t place.Action most_levels i)) (rest : Ok j ≡ answer (objects t most_objects (i + 1))) where
  pub reached : (i < j) × (j ≤ t.entries)
  reached =
      let w = read_well layer.Book (objects t most_objects (i + 1)) j rest in
      let u = objects_text t fit most_objects (i + 1) w.0 j w.1 in
      (omega (arith, u.forth), u.under (omega arith))

  abbrev os : List ℕ
  os = t.operands

  abbrev ending : Name → Bool → Out Name
  ending m b = unless b 8 (j - 1) (good m j)

  abbrev after_objects : Entry → List ℕ → ℕ → Out Name
  after_objects x bs k = unless (precedes before (x.operand ∷ bs)) 8 (k - 1) (good (record { operator = x.operand; objects = bs }) k)

  name_told : name t before i ≡ ending (name_in os i j) (precedes before (between i j os))
  name_told =
      let w = read_well layer.Book (objects t most_objects (i + 1)) j rest in
      let u = objects_text t fit most_objects (i + 1) w.0 j w.1 in
      let f : i < j = omega (arith, u.forth) in
      let l : i < length os = omega arith in
      ap (λ x. then x (λ y m. then (objects t most_objects m) (after_objects y))) (headed t place.Action most_levels i e first)
      ∙ ap (λ x. then x (after_objects e)) w.1
      ∙ ap (λ (x : Entry). after_objects x w.0 j) (sym (head_is t place.Action most_levels i e first))
      ∙ ap (λ bs. after_objects (entry_at t i) bs j) u.text
      ∙ ap (λ ys. ending (name_in os i j) (precedes before ys)) (listed_in os i j f l)

  pub name_good : precedes before (between i j os) ≡ true → Ok j ≡ answer (name t before i)
  name_good h = sym (ap (λ x. answer x) (name_told ∙ ap (ending (name_in os i j)) h))

  pub name_bad : precedes before (between i j os) ≡ false → Err (refusal 8 layer.Book (j - 1)) ≡ answer (name t before i)
  name_bad h = sym (ap (λ x. answer x) (name_told ∙ ap (ending (name_in os i j)) h))

  pub name_is : precedes before (between i j os) ≡ true → name t before i ≡ good (name_in os i j) j
  name_is h = name_told ∙ ap (ending (name_in os i j)) h

-- A turn of the loop over m actions, of which k are done.
module _ (t : Table) (m k : ℕ) (before : List ℕ) (i : ℕ) (more : k < m) where
  abbrev after_name : Name → ℕ → Out Action
  after_name n j = then (ground t most_levels j) λ g l. then (effect t l) λ cs e. good (record { name = n; precondition = g; effect = cs }) e

  not_read : (f : Fault) → Err f ≡ answer (action t before i) → Err f ≡ answer (series (action t) after_action (m - k) before i)
  not_read f h = series_refused layer.Book (action t) after_action (m - k) before i f (omega arith) h

  pub name_refused : (f : Fault) → Err f ≡ answer (name t before i) → Err f ≡ answer (series (action t) after_action (m - k) before i)
  name_refused f h = not_read f (refused layer.Book (name t before i) after_name f h)

  module _ (n : Name) (j : ℕ) (named : name t before i ≡ good n j) where
    pub precondition_refused : (f : Fault) → Err f ≡ answer (ground t most_levels j) → Err f ≡ answer (series (action t) after_action (m - k) before i)
    precondition_refused f h =
        not_read f (refused layer.Book (ground t most_levels j) (λ g l. then (effect t l) λ cs e. good (record { name = n; precondition = g; effect = cs }) e) f h ∙ sym (ap (λ x. answer (then x after_name)) named))

    module _ (l : ℕ) (judged : Ok l ≡ answer (ground t most_levels j)) where
      pub effect_refused : (f : Fault) → Err f ≡ answer (effect t l) → Err f ≡ answer (series (action t) after_action (m - k) before i)
      effect_refused f h =
          let w = step_goes layer.Book (ground t most_levels j) (λ g l'. then (effect t l') λ cs e. good (record { name = n; precondition = g; effect = cs }) e) l judged in
          not_read f (refused layer.Book (effect t l) (λ cs e. good (record { name = n; precondition = w.0; effect = cs }) e) f h ∙ w.2 ∙ sym (ap (λ x. answer (then x after_name)) named))

      pub action_turn : (e : ℕ) → Ok e ≡ answer (effect t l) → answer (series (action t) after_action (m - (k + 1)) (listed n) e) ≡ answer (series (action t) after_action (m - k) before i)
      action_turn e h =
          let w = read_well layer.Book (ground t most_levels j) l judged in
          let v = read_well layer.Book (effect t l) e h in
          let a : Action = record { name = n; precondition = w.0; effect = v.0 } in
          let g : action t before i ≡ good a e =
          ap (λ x. then x after_name) named
          ∙ ap (λ x. then x (λ g' l'. then (effect t l') λ cs e'. good (record { name = n; precondition = g'; effect = cs }) e')) w.1
          ∙ ap (λ x. then x (λ cs e'. good (record { name = n; precondition = w.0; effect = cs }) e')) v.1 in
          series_turn layer.Book (action t) after_action m k before i a e more g
