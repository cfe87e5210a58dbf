-- The actions of a book, one after the other.
use Rattle.std.proofs.Common.{◌≡◌, ℕ, ◌+◌, ◌<◌, Bool, true, false, not, cond, List, [], ◌∷◌, ◌++◌, map, length, get_or, sym, ap, ap₂, ◌∙◌, length-append}
use Rattle.std.specs.Prelude.{if◌then◌else◌}
use Rattle.std.proofs.lemmas.List.{append-nil, append_assoc, map_more, map-append}
use Rattle.table.specs.Entries.{coded}
use Rattle.table.specs.Reading.{Entry}
use Rattle.table.specs.declared.arrays.Head.{Head}
use Rattle.model.specs.Lists.{below, gather, keep}
use Rattle.model.specs.Trees.{Task, Name}
use Rattle.model.specs.Settling.{Round, is, named, reach, round_two}
use Rattle.model.specs.Books.{Action, action, actions}
use Rattle.book_theorems.specs.Writes.{write_action}
use Rattle.book_of_task.specs.Becoming.{SameBecoming}
use Rattle.book_of_task.proofs.Becoming.{what_atoms_become}
use Rattle.runs.specs.Chosen.{chosen}
use Rattle.runs.specs.Clauses.{Appends}
use Rattle.runs.specs.declared.draft.Draft.{Draft}
use Rattle.runs.proofs.Walks.{gather_append, keep_append}
use Rattle.instantiate.specs.Outcome.{names_of, actions_of}
use Rattle.instantiate.specs.Acts.{actions_by}
use Rattle.instantiate.proofs.Naming.{front, gather_below, gather_none}

-- Actions, and more of them.

actions_append : (t : Task) (r : Round) (ms ks : List Name) → actions t r (ms ++ ks) ≡ actions t r ms ++ actions t r ks
actions_append t r ms ks =
    let p : Action → Bool = λ a. not (is false a.precondition) in
    ap (keep p) (map-append (action t r) ms ks) ∙ keep_append p (map (action t r) ms) (map (action t r) ks)

pub counted : (xs ys zs : List Action) → xs ++ ys ≡ zs → length xs + length ys ≡ length zs
counted xs ys zs e = sym (length-append xs ys) ∙ ap length e

pub appended : (es : List Entry) (xs ys zs : List Action) → xs ++ ys ≡ zs → (es ++ gather write_action xs) ++ gather write_action ys ≡ es ++ gather write_action zs
appended es xs ys zs e =
    append_assoc es (gather write_action xs) (gather write_action ys) ∙ ap (λ z. es ++ z) (sym (gather_append write_action xs ys) ∙ ap (gather write_action) e)

-- One action.

module _ (t : Task) (r : Round) (same : SameBecoming r (round_two t)) (m : Name) (written : Bool) (told : written ≡ not (is false (action t r m).precondition)) where
  action_is : action t r m ≡ action t (round_two t) m
  action_is = (what_atoms_become t r (round_two t) same).action m

  kept : (b : Bool) → written ≡ b → actions_by t m ≡ cond b (action t (round_two t) m ∷ []) []
  kept b e = ap (λ c. cond c (action t (round_two t) m ∷ []) []) (ap (λ (a : Action). not (is false a.precondition)) (sym action_is) ∙ sym told ∙ e)

  -- it was not written
  pub dropped : written ≡ false → actions_by t m ≡ []
  dropped e = kept false e

  module _ (is_written : written ≡ true) where
    pub one : length (actions_by t m) ≡ 1
    one = ap length (kept true is_written)

    -- the draft holds it
    pub drafted : (before after : Draft) → Appends (if written then write_action (action t r m) else []) (reach t r m) before after → before.entries.items ≡ [] →
        (ks : List Head) → ks ≡ after.entries.items → map coded ks ≡ gather write_action (actions_by t m)
    drafted before after wrote empty ks ks_are =
        ap (map coded) ks_are ∙ wrote.entries
        ∙ ap₂ (λ (z : List Head) (b : Bool). map coded z ++ (if b then write_action (action t r m) else [])) empty is_written
        ∙ ap write_action action_is ∙ sym (append-nil (write_action (action t (round_two t) m)))
        ∙ ap (gather write_action) (sym (kept true is_written))

-- The actions of an operator.

-- those of the first i lists of objects
abbrev pub acted : Task → ℕ → ℕ → ℕ → List (List ℕ) → List Action
acted t o n i xs = actions t (round_two t) (front o n i xs)

pub one_name_more : (t : Task) (o n : ℕ) (xs : List (List ℕ)) (i : ℕ) (d : List ℕ) → i < length xs → (u : Task) (m : Name) → u ≡ t → m ≡ named o (chosen n (get_or xs i d)) →
    acted t o n i xs ++ actions_by u m ≡ acted t o n (i + 1) xs
one_name_more t o n xs i d h u m task name =
    ap₂ (λ (z : Task) (k : Name). acted t o n i xs ++ actions_by z k) task name
    ∙ sym (actions_append t (round_two t) (front o n i xs) (named o (chosen n (get_or xs i d)) ∷ []))
    ∙ ap (actions t (round_two t)) (sym (map_more (λ os. named o (chosen n os)) xs i d h))

-- All operators.

-- the actions of the first k operators
abbrev pub acted_below : Task → ℕ → List Action
acted_below t k = actions t (round_two t) (gather (names_of t) (below k))

pub one_operator_more : (t : Task) (k : ℕ) → acted_below t k ++ actions_of t k ≡ acted_below t (k + 1)
one_operator_more t k = sym (ap (actions t (round_two t)) (gather_below (names_of t) k) ∙ actions_append t (round_two t) (gather (names_of t) (below k)) (names_of t k))

pub none_acted : (t : Task) → acted_below t 0 ≡ []
none_acted t = ap (actions t (round_two t)) (gather_none (names_of t))
