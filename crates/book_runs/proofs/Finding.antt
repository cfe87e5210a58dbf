-- The action with a name, by its number; the truth of an atom, by its fact.
use Rattle.std.proofs.Common.{◌≡◌, ℕ, suc, ◌+◌, ◌-◌, ◌<◌, ◌≤◌, Bool, true, false, cond, ◌||◌, eqb, ltb, List, [], ◌∷◌, map, length, get_or, Some, None, Ok, Option, sym, refl, ap, ◌∙◌, arith}
use mathlib.Core.Option as tree
use Rattle.std.proofs.lemmas.Bool.{le-ltb, lt-ltb, cond-true, cond-false}
use Rattle.std.proofs.lemmas.List.{length-map}
use Rattle.model.specs.Lists.{has, position}
use Rattle.model.specs.Trees.{Name}
use Rattle.model.specs.Meaning.{State}
use Rattle.model.specs.Books.{Action, Start, Book, same_name, find, truth}
use Rattle.store.specs.Sets.{answered}
use Rattle.protocol.specs.Machines.{refused}
use Rattle.book.specs.Finds.{number_from, fact_of}
use Rattle.protocol.specs.BookCalls.{facts, book_holds}

-- Actions.

pub some_is_not_none : {P : Type 0} (k : ℕ) → ◌≡◌ {A = Option ℕ} (Some k) None → P
some_is_not_none k e = absurd (let z : ◌≡◌ {A = ℕ} 0 1 = cc in omega arith)

-- no number, no action
pub none_found : (k : ℕ) (acts : List Action) (m : Name) → number_from k acts m ≡ None → find m acts ≡ tree.none
none_found k [] m e = refl
none_found k (a ∷ acts) m e = by (same_name m a.name) e (λ h. none_found (k + 1) acts m h)
  where
    by : (b : Bool) → cond b (Some k) (number_from (k + 1) acts m) ≡ None → (number_from (k + 1) acts m ≡ None → find m acts ≡ tree.none) → cond b (tree.some a) (find m acts) ≡ tree.none
    by true e h = some_is_not_none k e
    by false e h = h e

-- the action with the number that was found
pub found_number : (d : Action) (k : ℕ) (acts : List Action) (m : Name) (i : ℕ) → number_from k acts m ≡ Some i → (k ≤ i) × (i - k < length acts) × (find m acts ≡ tree.some (get_or acts (i - k) d))
found_number d k [] m i e = some_is_not_none i (sym e)
found_number d k (a ∷ acts) m i e = by (same_name m a.name) e (λ h. found_number d (k + 1) acts m i h)
  where
    by : (b : Bool) → cond b (Some k) (number_from (k + 1) acts m) ≡ Some i
        → (number_from (k + 1) acts m ≡ Some i → (k + 1 ≤ i) × (i - (k + 1) < length acts) × (find m acts ≡ tree.some (get_or acts (i - (k + 1)) d)))
        → (k ≤ i) × (i - k < length (a ∷ acts)) × (cond b (tree.some a) (find m acts) ≡ tree.some (get_or (a ∷ acts) (i - k) d))
    by true e h =
        let q : k ≡ i = cc in
        let z : 0 ≡ i - k = omega arith in
        (omega arith, omega arith, ap (λ n. tree.some (get_or (a ∷ acts) n d)) z)
    by false e h =
        let w = h e in
        let z : suc (i - (k + 1)) ≡ i - k = omega (arith, w.0) in
        (omega (arith, w.0), omega (arith, w.0, w.1), w.2 ∙ ap (λ n. tree.some (get_or (a ∷ acts) n d)) z)

-- Atoms.

position_below : (k : ℕ) (xs : List ℕ) → has k xs ≡ true → position k xs < length xs
position_below k [] e = absurd (let z : ◌≡◌ {A = ℕ} 0 1 = cc in omega arith)
position_below k (x ∷ xs) e = by (eqb k x) e (λ h. position_below k xs h)
  where
    by : (b : Bool) → (b || has k xs) ≡ true → (has k xs ≡ true → position k xs < length xs) → cond b 0 (suc (position k xs)) < length (x ∷ xs)
    by true e h = omega arith
    by false e h = omega (arith, h e)

module _ (b : Book) (size : ℕ) (s : State) (k : ℕ) (room : facts b ≤ size) (known : k < b.atoms) where
  told : book_holds b size s k ≡ Ok (truth b s k)
  told = cond-false (ltb size (facts b)) (refused 21 (facts b)) (cond (ltb k b.atoms) (Ok (truth b s k)) (refused 25 k)) (le-ltb size (facts b) room)
      ∙ cond-true (ltb k b.atoms) (Ok (truth b s k)) (refused 25 k) (lt-ltb k b.atoms known)

  -- an atom that has a fact
  pub told_by_fact : (f : ℕ) → Some f ≡ fact_of b k → answered size f (s f) ≡ book_holds b size s k
  told_by_fact f e = by (has k rs) refl e
    where
      rs : List ℕ
      rs = map (λ (x : Start). x.atom) b.relevant

      by : (h : Bool) → has k rs ≡ h → Some f ≡ cond h (Some (position k rs)) None → answered size f (s f) ≡ book_holds b size s k
      by true h e =
          let q : f ≡ position k rs = cc in
          let l : f < size = omega (arith, q, position_below k rs h, length-map b.relevant (λ (x : Start). x.atom), room) in
          cond-true (ltb f size) (Ok (s f)) _ (lt-ltb f size l)
          ∙ ap (λ n. Ok (s n)) q
          ∙ sym (told ∙ ap (λ (x : Bool). Ok x) (cond-true (has k rs) (s (position k rs)) (has k b.always) h))
      by false h e = some_is_not_none f e
