-- The names of an operator's actions, one after the other.
use Rattle.std.proofs.Common.{◌≡◌, ℕ, zero, suc, ◌+◌, ◌<◌, ◌≤◌, true, List, [], ◌∷◌, ◌++◌, map, length, get_or, take, drop, sym, refl, ap, ◌∙◌, subst, inl, inr, add-one, arith}
use Rattle.std.proofs.lemmas.List.{append-nil, map_more, map-append, take_all, take-append-drop}
use Rattle.model.specs.Lists.{In, below, gather}
use Rattle.model.specs.Trees.{Task, Name}
use Rattle.model.specs.Meaning.{fits}
use Rattle.model.specs.Settling.{choices, named}
use Rattle.model.proofs.Members.{in_gather, in_map, in_below, in_fits}
use Rattle.runs.specs.Chosen.{chosen}
use Rattle.runs.proofs.Walks.{gather_append}
use Rattle.instantiate.specs.Outcome.{names_of}

-- the names of the first i lists of objects, each in the first n places of an array
abbrev pub front : ℕ → ℕ → ℕ → List (List ℕ) → List Name
front o n i xs = map (λ os. named o (chosen n os)) (take i xs)

map_map : {A B C : Type 0} (g : B → C) (f : A → B) (xs : List A) → map g (map f xs) ≡ map (λ x. g (f x)) xs
map_map g f [] = refl
map_map g f (x ∷ xs) = ap (λ ys. g (f x) ∷ ys) (map_map g f xs)

in_read : {A : Type 0} (xs : List A) (i : ℕ) (d : A) → i < length xs → In (get_or xs i d) xs
in_read [] i d h = absurd (omega arith)
in_read (x ∷ xs) zero d h = inl refl
in_read (x ∷ xs) (suc i) d h = inr (in_read xs i d (omega arith))

module _ (t : Task) (o n : ℕ) (xs : List (List ℕ)) (lists : map (chosen n) xs ≡ choices t o) where
  -- at the end they are all names
  pub front_all : (i : ℕ) → length xs ≤ i → front o n i xs ≡ names_of t o
  front_all i h = ap (map (λ os. named o (chosen n os))) (take_all i xs h) ∙ sym (map_map (named o) (chosen n) xs) ∙ ap (map (named o)) lists

  pub fits_at : (i : ℕ) (d : List ℕ) → o < length t.operators → i < length xs → fits t (named o (chosen n (get_or xs i d))) ≡ true
  fits_at i d k h =
      let here : In (chosen n (get_or xs i d)) (choices t o) = subst (In (chosen n (get_or xs i d))) lists (in_map (chosen n) (get_or xs i d) xs (in_read xs i d h)) in
      in_fits t (named o (chosen n (get_or xs i d)))
      (in_gather (λ p. map (named p) (choices t p)) o (named o (chosen n (get_or xs i d))) (below (length t.operators)) (in_below o (length t.operators) k)
      (in_map (named o) (chosen n (get_or xs i d)) (choices t o) here))

  -- what is gathered of all names begins with what is gathered of the first
  pub gather_all : {B : Type 0} (F : Name → List B) (i : ℕ) → gather F (names_of t o) ≡ gather F (front o n i xs) ++ gather F (map (λ os. named o (chosen n os)) (drop i xs))
  gather_all F i =
      let g : List ℕ → Name = λ os. named o (chosen n os) in
      ap (gather F) (sym (front_all (length xs) (omega arith)) ∙ ap (map g) (take_all (length xs) xs (omega arith) ∙ sym (take-append-drop i xs)) ∙ map-append g (take i xs) (drop i xs))
      ∙ gather_append F (front o n i xs) (map g (drop i xs))

-- what is gathered of one name more
pub gather_next : {B : Type 0} (F : Name → List B) (o n i : ℕ) (xs : List (List ℕ)) (d : List ℕ) → i < length xs →
    gather F (front o n (i + 1) xs) ≡ gather F (front o n i xs) ++ F (named o (chosen n (get_or xs i d)))
gather_next F o n i xs d h =
    let m = named o (chosen n (get_or xs i d)) in
    ap (gather F) (map_more (λ os. named o (chosen n os)) xs i d h) ∙ gather_append F (front o n i xs) (m ∷ []) ∙ ap (λ ys. gather F (front o n i xs) ++ ys) (append-nil (F m))

-- one operator more
pub gather_below : {B : Type 0} (F : ℕ → List B) (n : ℕ) → gather F (below (n + 1)) ≡ gather F (below n) ++ F n
unfolding below
gather_below F n = rw add-one (gather_append F (below n) (n ∷ []) ∙ ap (λ ys. gather F (below n) ++ ys) (append-nil (F n)))

pub gather_none : {B : Type 0} (F : ℕ → List B) → gather F (below 0) ≡ []
unfolding below
gather_none F = refl
