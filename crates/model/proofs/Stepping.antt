-- What is true after a step.
use Rattle.std.proofs.Common.{◌≡◌, ℕ, Bool, true, false, cond, not, ◌&&◌, eqb, ◌⊎◌, List, [], sym, refl, subst, ap₂, inl, inr, ⊎_elim, arith}
use mathlib.Core.Bool.{beq}
use Rattle.std.proofs.lemmas.Bool.{eqb-true, eq-eqb, and_parts, and_from, or_cases, or_left, or_right}
use Rattle.model.specs.Lists.{In}
use Rattle.model.specs.Trees.{Task, Name}
use Rattle.model.specs.Meaning.{State, Literal, Part, value, literals_where, changes, effect_of, step}
use Rattle.model.specs.Theorems.{BringsAbout, WhatAStepLeaves}
use Rattle.model.proofs.Members.{any_in, any_out, in_gather, gather_out}
use Rattle.model.proofs.Numbers.{beq_true, beq_refl}

-- a literal is known by its parts
literal_is : (l : Literal) (b : Bool) (k : ℕ) → b ≡ l.adds → k ≡ l.atom → l ≡ record { adds = b; atom = k }
literal_is l b k p q = ap₂ (λ (x : Bool) (y : ℕ). let r : Literal = record { adds = x; atom = y } in r) (sym p) (sym q)

module _ (t : Task) (m : Name) (s : State) where
  -- the literals of a part whose condition is true in the state before
  abbrev brought : Part → List Literal
  brought p = cond (value t s p.sheet p.condition) p.literals []

  -- the literals of the step
  abbrev all_brought : List Literal
  all_brought = literals_where (value t s) (effect_of t m)

  in_true : {A : Type 0} (b : Bool) (x : A) (xs : List A) → b ≡ true → In x xs → In x (cond b xs [])
  in_true true x xs e h = h
  in_true false x xs e h = absurd (let z : ◌≡◌ {A = Bool} false true = e in let w : ◌≡◌ {A = ℕ} 0 1 = cc in omega arith)

  in_cond : {A : Type 0} (b : Bool) (x : A) (xs : List A) → In x (cond b xs []) → (b ≡ true) × In x xs
  in_cond true x xs h = (refl, h)
  in_cond false x xs h = absurd h

  brings_in : (b : Bool) (k : ℕ) → BringsAbout t m s b k → changes b k all_brought ≡ true
  brings_in b k h =
      any_in (λ l. beq b l.adds && eqb k l.atom) (record { adds = b; atom = k }) all_brought
      (in_gather brought h.part (record { adds = b; atom = k }) (effect_of t m) h.in_effect
      (in_true (value t s h.part.sheet h.part.condition) (record { adds = b; atom = k }) h.part.literals h.true_before h.literal))
      (and_from _ _ (beq_refl b) (eq-eqb k k refl))

  brings_out : (b : Bool) (k : ℕ) → changes b k all_brought ≡ true → BringsAbout t m s b k
  brings_out b k e =
      let w = any_out (λ (l : Literal). beq b l.adds && eqb k l.atom) all_brought e in
      let p = gather_out brought w.0 (effect_of t m) w.1 in
      let q = in_cond (value t s p.0.sheet p.0.condition) w.0 p.0.literals p.2 in
      let a = and_parts (beq b w.0.adds) (eqb k w.0.atom) w.2 in
      let l = literal_is w.0 b k (beq_true b w.0.adds a.0) (eqb-true k w.0.atom a.1) in
      record { part = p.0; in_effect = p.1; true_before = q.0; literal = subst (λ (x : Literal). In x p.0.literals) l q.1 }

  -- a test that is not passed fails
  fails : (b : Bool) → (b ≡ true → ⊥) → not b ≡ true
  fails true h = absurd (h refl)
  fails false h = refl

  failed : (b : Bool) → not b ≡ true → b ≡ true → ⊥
  failed true e h = let z : ◌≡◌ {A = ℕ} 0 1 = cc in omega arith
  failed false e h = let z : ◌≡◌ {A = ℕ} 0 1 = cc in omega arith

  leaves_added : (k : ℕ) → BringsAbout t m s true k → step t m s k ≡ true
  leaves_added k h = or_left _ _ (brings_in true k h)

  leaves_kept : (k : ℕ) → s k ≡ true → (BringsAbout t m s false k → ⊥) → step t m s k ≡ true
  leaves_kept k e h = or_right _ _ (and_from _ _ e (fails (changes false k all_brought) (λ c. h (brings_out false k c))))

  leaves_only : (k : ℕ) → step t m s k ≡ true → BringsAbout t m s true k ⊎ ((s k ≡ true) × (BringsAbout t m s false k → ⊥))
  leaves_only k e =
      ⊎_elim
      (λ a. inl (brings_out true k a))
      (λ b. let w = and_parts (s k) (not (changes false k all_brought)) b in inr (w.0, λ h. failed (changes false k all_brought) w.1 (brings_in false k h)))
      (or_cases (changes true k all_brought) (s k && not (changes false k all_brought)) e)

pub what_a_step_leaves : WhatAStepLeaves
what_a_step_leaves = record { added = leaves_added; kept = leaves_kept; only = leaves_only }
