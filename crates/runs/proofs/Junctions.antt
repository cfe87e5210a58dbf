-- Values of junctions: one that differs from what is asked for decides, and otherwise it is as asked for.
use Rattle.std.proofs.Common.{◌≡◌, ℕ, ◌<◌, Bool, true, false, not, ◌&&◌, ◌||◌, List, [], ◌∷◌, get_or, sym, refl, ap, ◌∙◌, subst, inl, inr, arith}
use mathlib.Core.Bool.{beq}
use Rattle.model.specs.Lists.{In, below}
use Rattle.model.specs.Trees as tree
use Rattle.model.specs.Trees.{Junction, all, any, Formula, negation, implication, in_set, members}
use Rattle.model.specs.Meaning.{State, empty, join, over, value, values}
use Rattle.model.proofs.Members.{in_keep, keep_out, in_below, below_out}
use Rattle.adl.specs.Tables.{Table}
use Rattle.adl.specs.Loads.{accepted, task_of}
use Rattle.adl.specs.Reads.{formulas_of}
use Rattle.adl_theorems.proofs.Standing.{same_objects, type_at}

-- values that do not differ are equal
pub agree : (v b : Bool) → not (beq v b) ≡ false → v ≡ b
agree true true e = refl
agree true false e = cc
agree false true e = cc
agree false false e = refl

-- the first of two values decides where it is not that of none
join_differs : (j : Junction) (v w : Bool) → not (beq v (empty j)) ≡ true → join j v w ≡ v
join_differs all true w e = cc
join_differs all false w e = refl
join_differs any true w e = refl
join_differs any false w e = cc

-- and the second where it is
join_agrees : (j : Junction) (v w : Bool) → v ≡ empty j → join j v w ≡ w
join_agrees all v w e = ap (λ x. x && w) e
join_agrees any v w e = ap (λ x. x || w) e

-- the second decides where it is not that of none
join_last : (j : Junction) (v w u : Bool) → not (beq v (empty j)) ≡ true → u ≡ v → join j w u ≡ v
join_last all true w u e h = cc
join_last all false true u e h = h
join_last all false false u e h = refl
join_last any true true u e h = refl
join_last any true false u e h = h
join_last any false w u e h = cc

-- b is the value of none
module _ (j : Junction) (b : Bool) (none : b ≡ empty j) where
  differs : (v : Bool) → not (beq v b) ≡ true → not (beq v (empty j)) ≡ true
  differs v d = subst (λ x. not (beq v x) ≡ true) none d

  -- where each object gives b, they give b together
  pub over_all : (P : ℕ → Bool) (os : List ℕ) → ((o : ℕ) → In o os → P o ≡ b) → over j P os ≡ b
  over_all P [] h = sym none
  over_all P (o ∷ os) h = join_agrees j (P o) (over j P os) (h o (inl refl) ∙ none) ∙ over_all P os (λ x i. h x (inr i))

  -- one object that does not give b decides
  pub over_one : (v : Bool) (P : ℕ → Bool) (os : List ℕ) (o : ℕ) → In o os → P o ≡ v → not (beq v b) ≡ true → over j P os ≡ v
  over_one v P [] o i p d = absurd i
  over_one v P (x ∷ os) o (inl e) p d =
      let q : P x ≡ v = sym (ap P e) ∙ p in
      ap (λ y. join j y (over j P os)) q ∙ join_differs j v (over j P os) (differs v d)
  over_one v P (x ∷ os) o (inr i) p d = join_last j v (P x) (over j P os) (differs v d) (over_one v P os o i p d)

-- the members of a type, by the set that the table has
module _ (t : Table) (h : accepted t ≡ true) (ty : ℕ) (l : ty < t.types) where
  pub is_member : (o : ℕ) → o < t.objects → in_set (get_or t.operands ty 0) o ≡ true → In o (members (task_of t) ty)
  is_member o k e =
      in_keep (in_set (get_or (task_of t).types ty 0)) o (below (task_of t).objects)
      (in_below o (task_of t).objects (omega (arith, same_objects t h, k)))
      (ap (λ n. in_set n o) (type_at t h ty l) ∙ e)

  pub member_is : (o : ℕ) → In o (members (task_of t) ty) → (o < t.objects) × (in_set (get_or t.operands ty 0) o ≡ true)
  member_is o i =
      let w = keep_out (in_set (get_or (task_of t).types ty 0)) o (below (task_of t).objects) i in
      (omega (arith, same_objects t h, below_out o (task_of t).objects w.0), sym (ap (λ n. in_set n o) (type_at t h ty l)) ∙ w.1)

-- what is known of a formula is known of an equal one
module _ (t : tree.Task) (s : State) (sheet : List ℕ) where
  pub from : (f g : Formula) (v : Bool) → f ≡ g → v ≡ value t s sheet g → v ≡ value t s sheet f
  from f g v e p = p ∙ sym (ap (value t s sheet) e)

  -- a negation
  pub opposite : (f g : Formula) (v : Bool) → f ≡ negation g → v ≡ value t s sheet g → not v ≡ value t s sheet f
  opposite f g v e p = ap not p ∙ sym (ap (value t s sheet) e)

  -- an implication
  pub implied : (f g h : Formula) (a b r : Bool) → f ≡ implication g h → a ≡ value t s sheet g → b ≡ value t s sheet h → r ≡ (not a || b) → r ≡ value t s sheet f
  implied f g h a b r e p q z = z ∙ ap (λ x. not x || b) p ∙ ap (λ x. not (value t s sheet g) || x) q ∙ sym (ap (value t s sheet) e)

  module _ (j : Junction) (b : Bool) (none : b ≡ empty j) where
    -- a first part that decides
    pub decided : (v : Bool) (f : Formula) (gs fs : List Formula) → fs ≡ f ∷ gs → v ≡ value t s sheet f → not (beq v b) ≡ true → v ≡ values t s sheet j (formulas_of fs)
    decided v f gs fs e p d =
        let rest = values t s sheet j (formulas_of gs) in
        sym (join_differs j v rest (differs j b none v d)) ∙ ap (λ x. join j x rest) p ∙ sym (ap (λ xs. values t s sheet j (formulas_of xs)) e)

    -- a first part that leaves it to the others
    pub left_to : (v w : Bool) (f : Formula) (gs fs : List Formula) → fs ≡ f ∷ gs → v ≡ value t s sheet f → not (beq v b) ≡ false → w ≡ values t s sheet j (formulas_of gs) → w ≡ values t s sheet j (formulas_of fs)
    left_to v w f gs fs e p d q =
        let rest = values t s sheet j (formulas_of gs) in
        q ∙ sym (join_agrees j (value t s sheet f) rest (sym p ∙ agree v b d ∙ none)) ∙ sym (ap (λ xs. values t s sheet j (formulas_of xs)) e)

    -- no part is left
    pub none_left : (fs : List Formula) → fs ≡ [] → b ≡ values t s sheet j (formulas_of fs)
    none_left fs e = none ∙ sym (ap (λ xs. values t s sheet j (formulas_of xs)) e)
