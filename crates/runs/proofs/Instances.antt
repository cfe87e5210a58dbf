-- The instances of a quantifier at the members of its type, one after the other.
use Rattle.std.proofs.Common.{◌≡◌, ℕ, zero, suc, ◌+◌, ◌<◌, ◌≤◌, true, false, cond, List, [], ◌∷◌, ◌++◌, get_or, drop, sym, ap, ◌∙◌, subst, ⊎_elim, arith}
use Rattle.std.proofs.lemmas.Bool.{cases_eq}
use Rattle.std.proofs.lemmas.List.{drop-append-le, drop_at, drop_all, length_push}
use Rattle.model.specs.Lists.{below, keep}
use Rattle.model.specs.Meaning.{bind}
use Rattle.model.specs.Settling.{Ground, Grounds, nil, cons, instances, simplify}
use Rattle.model.specs.Trees.{Formula, in_set, members}
use Rattle.model.proofs.Values.{taken, passed}
use Rattle.adl.specs.declared.task.Task.{Task}
use Rattle.adl.specs.Held.{held, tree_of}
use Rattle.adl_theorems.proofs.Standing.{same_objects, type_at}
use Rattle.runs.specs.declared.settling.Settling.{Settling}
use Rattle.runs.specs.declared.verdict.Verdict.{Verdict}
use Rattle.runs.specs.Settled.{round_of}
use Rattle.runs.specs.Shown.{bound}
use Rattle.runs.specs.Standing.{FormulaAt}
use Rattle.runs.specs.Left.{FormulaOf, simplified_in}
use Rattle.runs.proofs.Bounds.{below_length}

-- the numbers below n from k on
next_below : (n k : ℕ) → k < n → drop k (below n) ≡ k ∷ drop (k + 1) (below n)
unfolding below
next_below zero k h = let z : ⊥ = omega arith in absurd z
next_below (suc n) k h = ⊎_elim
    (λ e. drop_at (below n) (n ∷ []) k (below_length n ∙ sym e) ∙ ap (λ m. m ∷ []) (sym e)
    ∙ ap (λ ms. k ∷ ms) (sym (drop_all (k + 1) (below n ++ n ∷ []) (omega (arith, length_push (below n) n, below_length n)))))
    (λ d.
    let l : k < n = omega arith in
    drop-append-le k (below n) (n ∷ []) (omega (arith, below_length n)) ∙ ap (λ ms. ms ++ n ∷ []) (next_below n k l)
    ∙ ap (λ ms. k ∷ ms) (sym (drop-append-le (k + 1) (below n) (n ∷ []) (omega (arith, below_length n)))))
    (cases_eq k n)

-- what is left of the instance at an object
abbrev pub instance_in : Settling → Formula → ℕ → Ground
instance_in s f o = simplify (tree_of s.sheet.task.now) (round_of s.verdicts.now) (bind (bound s.sheet) o) f

-- and of the instances at these objects
abbrev pub instances_in : Settling → Formula → List ℕ → Grounds
instances_in s f os = instances (instance_in s f) os

-- the members of a type, as the table has them, from object o on
abbrev pub members_from : Settling → ℕ → ℕ → List ℕ
members_from s set o = keep (in_set set) (drop o (below s.sheet.task.now.table.sizes.objects))

module _ (s : Settling) (f : Formula) (set o : ℕ) where
  abbrev next : List ℕ → List ℕ
  next os = cond (in_set set o) (o ∷ keep (in_set set) os) (keep (in_set set) os)

  members_next : o < s.sheet.task.now.table.sizes.objects → members_from s set o ≡ next (drop (o + 1) (below s.sheet.task.now.table.sizes.objects))
  members_next h = ap (keep (in_set set)) (next_below s.sheet.task.now.table.sizes.objects o h)

  -- the object is a member
  pub instances_more : o < s.sheet.task.now.table.sizes.objects → in_set set o ≡ true → instances_in s f (members_from s set o) ≡ cons (instance_in s f o) (instances_in s f (members_from s set (o + 1)))
  instances_more h e =
      ap (instances_in s f) (members_next h ∙ taken (in_set set o) (o ∷ members_from s set (o + 1)) (members_from s set (o + 1)) e)

  -- or is none
  pub instances_same : o < s.sheet.task.now.table.sizes.objects → in_set set o ≡ false → instances_in s f (members_from s set o) ≡ instances_in s f (members_from s set (o + 1))
  instances_same h e =
      ap (instances_in s f) (members_next h ∙ passed (in_set set o) (o ∷ members_from s set (o + 1)) (members_from s set (o + 1)) e)

  -- no object is to come
  pub instances_none : s.sheet.task.now.table.sizes.objects ≤ o → instances_in s f (members_from s set o) ≡ nil
  instances_none h =
      ap (λ os. instances_in s f (keep (in_set set) os)) (drop_all o (below s.sheet.task.now.table.sizes.objects) (omega (arith, below_length s.sheet.task.now.table.sizes.objects)))

-- all members of a type
pub all_members : (s : Settling) (ty : ℕ) → ty < s.sheet.task.now.table.sizes.types
    → members_from s (get_or s.sheet.task.now.table.entries.operands.now ty 0) 0 ≡ members (tree_of s.sheet.task.now) ty
all_members s ty h =
    let T = s.sheet.task.now in
    ap (λ n. keep (in_set (get_or T.table.entries.operands.now ty 0)) (below n)) (sym (same_objects (held T) T.formed))
    ∙ ap (λ set. keep (in_set set) (below (tree_of T).objects)) (sym (type_at (held T) T.formed ty h))

-- settling with one variable more, bound to o
pub record With (a : Settling) (o : ℕ) (b : Settling) : Type 0 where
  pub task : b.sheet.task.now ≡ a.sheet.task.now
  pub verdicts : b.verdicts.now ≡ a.verdicts.now
  pub depth : b.sheet.depth ≡ a.sheet.depth + 1
  pub bound : bound b.sheet ≡ bind (bound a.sheet) o

module _ {a b : Settling} {o : ℕ} (w : With a o b) (f : Formula) where
  pub instance_stands : {i j : ℕ} → FormulaAt (held a.sheet.task.now) (a.sheet.depth + 1) i f j → FormulaOf b i f j
  instance_stands {i} {j} s =
      subst (λ (t : Task). FormulaAt (held t) b.sheet.depth i f j) (sym w.task) (subst (λ n. FormulaAt (held a.sheet.task.now) n i f j) (sym w.depth) s)

  pub instance_is : simplified_in b f ≡ instance_in a f o
  instance_is =
      ap (λ (t : Task). simplify (tree_of t) (round_of b.verdicts.now) (bound b.sheet) f) w.task
      ∙ ap (λ (vs : List Verdict). simplify (tree_of a.sheet.task.now) (round_of vs) (bound b.sheet) f) w.verdicts
      ∙ ap (λ os. simplify (tree_of a.sheet.task.now) (round_of a.verdicts.now) os f) w.bound
