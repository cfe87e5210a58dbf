-- Actions and their parts, by their places.
use Rattle.std.proofs.Common.{◌≡◌, ℕ, suc, ◌+◌, ◌<◌, ◌≤◌, true, List, [], length, get_or, sym, ap, ◌∙◌, arith}
use Rattle.std.proofs.lemmas.List.{get_or-map}
use Rattle.table.specs.Reading.{good, next_place}
use Rattle.model.specs.Trees.{Name}
use Rattle.model.specs.Settling.{known}
use Rattle.model.specs.Books.{Action}
use Rattle.book.specs.Tables.{Table, most_levels, most_objects}
use Rattle.book.specs.Reads.{ground, effect, action}
use Rattle.book.specs.Opens.{accepted, book_of}
use Rattle.book.specs.Finds.{names_of, action_place}
use Rattle.book.specs.Named.{name_in, SomeAction, name_end, SomeBody, body_end}
use Rattle.book.proofs.Naming.{objects_text}
use Rattle.book.proofs.Actions.{NameRead, name_read, ActionRead, action_read}
use Rattle.book.proofs.Standing.{opened, action_stands}

-- An action that was read.
module _ (t : Table) (before : List ℕ) (i : ℕ) (a : Action) (j : ℕ) (e : action t before i ≡ good a j) where
  was : ActionRead t before i a j
  was = action_read t before i a j e

  name_was : NameRead t before i a.name was.named
  name_was = name_read t before i a.name was.named was.name_is

  name_ends : name_end t i ≡ was.named
  name_ends = ap (λ o. next_place o) name_was.objects_read

  body_stands : SomeBody t (name_end t i)
  body_stands = (a.precondition, was.judged, a.effect, j, ap (ground t most_levels) name_ends ∙ was.precondition, was.effect_is)

  body_ends : body_end t (name_end t i) ≡ j
  body_ends =
      ap (body_end t) name_ends
      ∙ ap (λ o. next_place (effect t (next_place o))) was.precondition
      ∙ ap (λ o. next_place o) was.effect_is

  module _ (long : t.entries ≤ length t.operands) where
    name_forth : (i < name_end t i) × (name_end t i ≤ t.entries)
    name_forth =
        let u = objects_text t long most_objects (i + 1) a.name.objects was.named name_was.objects_read in
        (omega (arith, u.forth, name_ends), omega (arith, u.under (omega (arith, name_was.headed.inside)), name_ends))

    name_stands : name_in t.operands i (name_end t i) ≡ a.name
    name_stands =
        let u = objects_text t long most_objects (i + 1) a.name.objects was.named name_was.objects_read in
        let o = name_was.operator in
        let q = u.text in
        ap (name_in t.operands i) name_ends ∙ (λ x. record { operator = sym o x; objects = sym q x })

-- The action with number k of a book that stands in its table.
module _ (t : Table) (h : accepted t ≡ true) (k at : ℕ) (l : k < t.actions) (q : at ≡ action_place t k) where
  abbrev other : Name → Action
  other m = record { name = m; precondition = known true; effect = [] }

  stands_here : (d : Action) → (before : List ℕ) × (j : ℕ) × (action t before at ≡ good (get_or (book_of t).actions k d) j) × (j ≡ action_place t (k + 1))
  stands_here d =
      let w = action_stands t h d k l in
      let n : suc k ≡ k + 1 = omega arith in
      (w.0, w.1, ap (action t w.0) q ∙ w.2, w.3 ∙ ap (action_place t) n)

  abbrev nobody : Action
  nobody = other (record { operator = 0; objects = [] })

  pub some_action : SomeAction t at
  some_action = let w = stands_here nobody in (w.0, get_or (book_of t).actions k nobody, w.1, w.2)

  pub some_body : SomeBody t (name_end t at)
  some_body = let w = stands_here nobody in body_stands t w.0 at (get_or (book_of t).actions k nobody) w.1 w.2

  pub next_action : body_end t (name_end t at) ≡ action_place t (k + 1)
  next_action = let w = stands_here nobody in body_ends t w.0 at (get_or (book_of t).actions k nobody) w.1 w.2 ∙ w.3

  module _ (long : t.entries ≤ length t.operands) where
    pub name_inside : (at < name_end t at) × (name_end t at ≤ t.entries)
    name_inside = let w = stands_here nobody in name_forth t w.0 at (get_or (book_of t).actions k nobody) w.1 w.2 long

    pub name_here : (m : Name) → name_in t.operands at (name_end t at) ≡ get_or (names_of (book_of t).actions) k m
    name_here m =
        let w = stands_here (other m) in
        let o = opened t h long in
        name_stands t w.0 at (get_or (book_of t).actions k (other m)) w.1 w.2 long
        ∙ sym (get_or-map (λ (a : Action). a.name) (book_of t).actions k (other m) m (omega (arith, o.actions_count)))
