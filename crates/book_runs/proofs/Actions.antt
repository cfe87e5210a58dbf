-- The action with a name, where it stands in the table of an opened book.
use Rattle.std.proofs.Common.{◌≡◌, ℕ, ◌+◌, ◌-◌, ◌<◌, true, false, cond, ltb, List, [], ◌∷◌, get_or, Some, None, sym, refl, ap, ◌∙◌, arith}
use mathlib.Core.Option.{some}
use mathlib.Core.Option as tree
use Rattle.std.proofs.lemmas.Bool.{lt-ltb, cond-true}
use Rattle.table.specs.declared.places.Place.TheVariants as place
use Rattle.table.specs.Answers.{is_good}
use Rattle.table.specs.Reading.{Entry, Out, good, then, unless, next_place}
use Rattle.table.proofs.Reading.{first_step}
use Rattle.table.proofs.Reading as table
use Rattle.model.specs.Trees.{Name}
use Rattle.model.specs.Meaning.{State}
use Rattle.model.specs.Settling.{Ground, known}
use Rattle.model.specs.Books.{Clause, Action, find, action_literals}
use Rattle.book.specs.Tables.{Table, entry_at, most_levels, most_objects}
use Rattle.book.specs.Reads.{ground, effect, objects, precedes, name, action}
use Rattle.book.specs.Finds.{number_from, action_place}
use Rattle.book.specs.Held.{held, tree_of}
use Rattle.book.specs.declared.book.Book.{Book}
use Rattle.book.proofs.Standing.{action_stands}
use Rattle.book_runs.specs.Standing.{value_in, items_in}
use Rattle.book_runs.specs.Runs.{is_taken, literals_taken}
use Rattle.book_runs.proofs.Reading.{goes}
use Rattle.book_runs.proofs.Opened.{parts}
use Rattle.book_runs.proofs.Finding.{some_is_not_none, found_number}

-- an action stands at place p: its objects, its precondition, its effect
pub record ActionAt (t : Table) (p : ℕ) (a : Action) : Type 0 where
  pub inside : p < t.entries
  pub named : is_good (objects t most_objects (p + 1)) ≡ true
  pub middle : ℕ
  pub precondition : ground t most_levels (next_place (objects t most_objects (p + 1))) ≡ good a.precondition middle
  pub end : ℕ
  pub effect_is : effect t middle ≡ good a.effect end

-- the objects of a name that was read
name_read : (t : Table) (before : List ℕ) (p : ℕ) (m : Name) (j : ℕ) → name t before p ≡ good m j
    → (p < t.entries) × (is_good (objects t most_objects (p + 1)) ≡ true) × (next_place (objects t most_objects (p + 1)) ≡ j)
name_read t before p m j e =
    let after : Entry → List ℕ → ℕ → Out Name = λ x os k. unless (precedes before (x.operand ∷ os)) 8 (k - 1) (good (record { operator = x.operand; objects = os }) k) in
    let w = goes t place.Action most_levels p (λ x k. then (objects t most_objects k) λ os l. after x os l) (ap is_good e) in
    let u = first_step (objects t most_objects (p + 1)) (after (entry_at t p)) m j (sym w.1 ∙ e) in
    let v = table.passed (precedes before ((entry_at t p).operand ∷ u.0)) 8 (u.1 - 1) (good (record { operator = (entry_at t p).operand; objects = u.0 }) u.1) m j u.3 in
    let q : u.1 ≡ j = table.last _ m u.1 j v.1 in
    (w.0.inside, ap is_good u.2, ap (λ (o : Out (List ℕ)). next_place o) u.2 ∙ q)

-- an action that was read stands at its place
action_read : (t : Table) (before : List ℕ) (p : ℕ) (a : Action) (j : ℕ) → action t before p ≡ good a j → ActionAt t p a
action_read t before p a j e =
    let made : Name → Ground → List Clause → ℕ → Out Action = λ m g cs l. good (record { name = m; precondition = g; effect = cs }) l in
    let w = first_step (name t before p) (λ m j. then (ground t most_levels j) λ g k. then (effect t k) λ cs l. made m g cs l) a j e in
    let u = first_step (ground t most_levels w.1) (λ g k. then (effect t k) λ cs l. made w.0 g cs l) a j w.3 in
    let v = first_step (effect t u.1) (λ cs l. made w.0 u.0 cs l) a j u.3 in
    let x = name_read t before p w.0 w.1 w.2 in
    let y : record { name = w.0; precondition = u.0; effect = v.0 } ≡ a = table.same_reading (λ (z : Action). record { name = w.0; precondition = u.0; effect = v.0 } ≡ z) (record { name = w.0; precondition = u.0; effect = v.0 }) a v.1 j v.3 refl in
    record {
      inside = x.0;
      named = x.1;
      middle = u.1;
      precondition = ap (λ i. ground t most_levels i) x.2 ∙ u.2 ∙ ap (λ (z : Action). good z.precondition u.1) y;
      end = v.1;
      effect_is = v.2 ∙ ap (λ (z : Action). good z.effect v.1) y;
    }

-- the number of an action that was found is one of the book's
module _ (b : Book) (m : Name) (i : ℕ) (e : Some i ≡ number_from 0 (tree_of b).actions m) where
  idle : Action
  idle = record { name = m; precondition = known false; effect = [] }

  known_number : i < b.table.sizes.actions
  known_number = omega (arith, (found_number idle 0 (tree_of b).actions m i (sym e)).1, (parts b).actions_count)

  placed : cond (ltb i (held b).actions) (Some (action_place (held b) i)) None ≡ Some (action_place (held b) i)
  placed = cond-true (ltb i (held b).actions) (Some (action_place (held b) i)) None (lt-ltb i (held b).actions known_number)

  pub has_place : {P : Type 0} → None ≡ cond (ltb i (held b).actions) (Some (action_place (held b) i)) None → P
  has_place q = some_is_not_none (action_place (held b) i) (sym (q ∙ placed))

  -- it stands at its place
  pub found_at : (p : ℕ) → Some p ≡ cond (ltb i (held b).actions) (Some (action_place (held b) i)) None → (a : Action) × (find m (tree_of b).actions ≡ some a) × ActionAt (held b) p a
  found_at p q =
      let f = found_number idle 0 (tree_of b).actions m i (sym e) in
      let z : i - 0 ≡ i = omega arith in
      let s = action_stands (held b) b.formed idle i known_number in
      let r : Some p ≡ Some (action_place (held b) i) = q ∙ placed in
      let l : p ≡ action_place (held b) i = cc in
      (get_or (tree_of b).actions i idle, f.2 ∙ ap (λ n. some (get_or (tree_of b).actions n idle)) z, action_read (held b) s.0 p _ s.1 (ap (λ n. action (held b) s.0 n) l ∙ s.2))

-- what an attempt at its precondition's place asks for, and what it comes to
module _ (t : Table) (p q : ℕ) (a : Action) (w : ActionAt t p a) (after : q ≡ next_place (objects t most_objects (p + 1))) where
  read_there : ground t most_levels q ≡ good a.precondition w.middle
  read_there = ap (λ n. ground t most_levels n) after ∙ w.precondition

  effect_there : effect t (next_place (ground t most_levels q)) ≡ good a.effect w.end
  effect_there = ap (λ (o : Out Ground). effect t (next_place o)) read_there ∙ w.effect_is

  pub precondition_stands : is_good (ground t most_levels q) ≡ true
  precondition_stands = ap (λ (o : Out Ground). is_good o) read_there

  pub effect_stands : is_good (effect t (next_place (ground t most_levels q))) ≡ true
  effect_stands = ap (λ (o : Out (List Clause)). is_good o) effect_there

  module _ (o : tree.Option Action) (is : o ≡ some a) (v : State) where
    pub judged_there : value_in v (ground t most_levels q) ≡ is_taken v o
    judged_there = ap (value_in v) read_there ∙ sym (ap (is_taken v) is)

    pub literals_there : action_literals v (items_in (effect t (next_place (ground t most_levels q)))) ≡ literals_taken v o
    literals_there = ap (λ (x : Out (List Clause)). action_literals v (items_in x)) effect_there ∙ sym (ap (literals_taken v) is)
