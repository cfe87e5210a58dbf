-- What puts leave in a set.
use Rattle.std.proofs.Common.{◌≡◌, ℕ, ◌<◌, Bool, true, false, cond, not, ◌&&◌, ◌||◌, eqb, ltb, List, [], ◌∷◌, ◌++◌, map, refl, ap, ◌∙◌, inl, inr}
use mathlib.Core.Path.{fun_ext}
use mathlib.Core.Bool.{beq}
use Rattle.std.proofs.lemmas.Bool.{lt-ltb, cond-true}
use Rattle.model.specs.Forming.{Within}
use Rattle.model.specs.Lists.{In, any_of, has}
use Rattle.model.specs.Meaning.{State, Literal, changes, changed}
use Rattle.store.specs.Sets.{with_fact, after_put}
use Rattle.protocol.specs.Steps.{put_literals, put_step, put_numbers}

-- Numbers.

-- a number that is put joins those that were put
or_choice : (q m x : Bool) → m || cond q true x ≡ (q || m) || x
or_choice true true x = refl
or_choice true false x = refl
or_choice false m x = refl

-- after puts of numbers below the size, those numbers are in the set, and the rest is as it was
pub put_numbers_has : (size : ℕ) (ks : List ℕ) (s : State) (a : ℕ) → Within size ks → put_numbers size ks s a ≡ has a ks || s a
put_numbers_has size [] s a w = refl
put_numbers_has size (k ∷ ks) s a w =
    put_numbers_has size ks (after_put size s k true) a w.1
    ∙ ap (λ (f : State). has a ks || f a) (cond-true (ltb k size) (with_fact s k true) s (lt-ltb k size w.0))
    ∙ or_choice (eqb a k) (has a ks) (s a)

-- a number is in a list of numbers exactly if something has it
pub has_map : {A : Type 0} (f : A → ℕ) (a : ℕ) (xs : List A) → has a (map f xs) || false ≡ any_of (λ x. eqb a (f x)) xs
has_map f a [] = refl
has_map f a (x ∷ xs) = or_false (eqb a (f x)) (has a (map f xs)) (any_of (λ y. eqb a (f y)) xs) (has_map f a xs)
  where
    or_false : (p q r : Bool) → q || false ≡ r → (p || q) || false ≡ p || r
    or_false true q r e = refl
    or_false false q r e = e

-- Literals.

-- puts of two lists are puts of the one, then of the other
pub put_append : (n : ℕ) (b : Bool) (xs ys : List Literal) (s : State) → put_literals n b (xs ++ ys) s ≡ put_literals n b ys (put_literals n b xs s)
put_append n b [] ys s = refl
put_append n b (x ∷ xs) ys s = put_append n b xs ys (cond (beq x.adds b) (after_put n s x.atom b) s)

-- two passes of puts make a step
pub step_of_two : (n m : ℕ) (ls ks : List Literal) (s t u : State) → m ≡ n → ks ≡ ls → t ≡ put_literals n false ls s → u ≡ put_literals m true ks t → u ≡ put_step n ls s
step_of_two n m ls ks s t u q e p r =
    r ∙ ap (λ (k : ℕ). put_literals k true ks t) q ∙ ap (λ (z : List Literal). put_literals n true z t) e ∙ ap (put_literals n true ls) p

-- a put that counts, before the others
put_first : (m q x b y : Bool) → cond m b (cond (beq x b) (cond q b y) y) ≡ cond ((beq b x && q) || m) b y
put_first true q true true y = or_top q
  where
    or_top : (q : Bool) → true ≡ cond (q || true) true y
    or_top true = refl
    or_top false = refl
put_first true q true false y = refl
put_first true q false true y = refl
put_first true q false false y = or_top q
  where
    or_top : (q : Bool) → false ≡ cond (q || true) false y
    or_top true = refl
    or_top false = refl
put_first false true true true y = refl
put_first false false true true y = refl
put_first false q true false y = refl
put_first false q false true y = refl
put_first false true false false y = refl
put_first false false false false y = refl

-- one of two states, at an atom
at_one : (b : Bool) (f g : State) (a : ℕ) → cond b f g a ≡ cond b (f a) (g a)
at_one true f g a = refl
at_one false f g a = refl

-- puts that are not refused: what is among them is as they say, the rest as it was
pub put_literals_is : (size : ℕ) (b : Bool) (ls : List Literal) (s : State) (a : ℕ) → ((l : Literal) → In l ls → l.atom < size) → put_literals size b ls s a ≡ cond (changes b a ls) b (s a)
put_literals_is size b [] s a h = refl
put_literals_is size b (l ∷ ls) s a h =
    let c = beq l.adds b in
    put_literals_is size b ls (cond c (after_put size s l.atom b) s) a (λ x i. h x (inr i))
    ∙ ap (λ (f : State). cond (changes b a ls) b (cond c f s a)) (cond-true (ltb l.atom size) (with_fact s l.atom b) s (lt-ltb l.atom size (h l (inl refl))))
    ∙ ap (λ (x : Bool). cond (changes b a ls) b x) (at_one c (with_fact s l.atom b) s a)
    ∙ put_first (changes b a ls) (eqb a l.atom) l.adds b (s a)

-- what deletes and then adds leave of an atom
deleted_then_added : (p q x : Bool) → cond p true (cond q false x) ≡ p || (x && not q)
deleted_then_added true q x = refl
deleted_then_added false true true = refl
deleted_then_added false true false = refl
deleted_then_added false false true = refl
deleted_then_added false false false = refl

-- all deletes, then all adds, is what the literals change
pub put_step_is : (size : ℕ) (ls : List Literal) (s : State) → ((l : Literal) → In l ls → l.atom < size) → put_step size ls s ≡ changed ls s
put_step_is size ls s h = fun_ext (λ a.
    put_literals_is size true ls (put_literals size false ls s) a h
    ∙ ap (λ (x : Bool). cond (changes true a ls) true x) (put_literals_is size false ls s a h)
    ∙ deleted_then_added (changes true a ls) (changes false a ls) (s a))
