-- The objects on a sheet, and sheets and scenes that are equal.
use Rattle.std.proofs.Common.{◌≡◌, ℕ, zero, suc, ◌+◌, ◌<◌, ◌≤◌, List, [], ◌∷◌, ◌++◌, length, get_or, take, set, sym, ap, ◌∙◌, subst, arith, set-set}
use lib.Seq.{set-get_or}
use Rattle.std.proofs.lemmas.List.{take_more_set}
use Rattle.std.proofs.Math.Seq.{take-append_seam}
use Rattle.std.specs.Borrow.{Bor}
use Rattle.std.specs.Coded.{le_prop}
use Rattle.adl.specs.declared.task.Task.{Task}
use Rattle.model.specs.Forming.{Within}
use Rattle.runs.specs.declared.sheet.Sheet.{Sheet}
use Rattle.runs.specs.declared.sheet.Scene.{Scene}
use Rattle.runs.specs.Objects.{within_prop}
use Rattle.model.specs.Meaning.{State, bind, atom_of, value}
use Rattle.model.specs.Trees as tree
use Rattle.model.specs.Trees.{Term, Formula, Effect}
use Rattle.adl.specs.Held.{held, tree_of}
use Rattle.protocol.specs.Shown.{shown}
use Rattle.runs.specs.Standing.{TermsAt, FormulaAt}
use Rattle.runs.specs.Effects.{EffectAt, EffectIn, effect_literals, literals_in}
use Rattle.runs.specs.Shown.{bound, OneMore, OneLess, FormulaIn, value_in}

-- each object among the first is an object of the task
pub within_at : (n : ℕ) (os : List ℕ) (d x : ℕ) → Within n (take d os) → d ≤ length os → x < d → get_or os x 0 < n
within_at n os zero x w l h = let z : ⊥ = omega arith in absurd z
within_at n [] (suc d) x w l h = let z : ⊥ = omega arith in absurd z
within_at n (o ∷ os) (suc d) zero w l h = w.0
within_at n (o ∷ os) (suc d) (suc x) w l h = within_at n os d x w.1 (omega arith) (omega arith)

-- the first numbers of a list that begins with them
pub front_is : (ps cs xs : List ℕ) → cs ≡ ps → take (length ps) (cs ++ xs) ≡ ps
front_is ps cs xs e = ap (λ ys. take (length ps) (ys ++ xs)) e ∙ take-append_seam ps xs

-- a sheet with other objects and another depth over the same task, and the facts that hold of it
module _ (a : Sheet) where
  with_facts : (m : a.depth ≤ 7) (w : Within a.task.now.table.sizes.objects (take a.depth a.objects)) → a ≡ record { task = a.task; objects = a.objects; depth = a.depth; room = m; within = w }
  with_facts m w =
      ap (λ x. record { task = a.task; objects = a.objects; depth = a.depth; room = x; within = a.within }) (le_prop a.room m)
      ∙ ap (λ y. record { task = a.task; objects = a.objects; depth = a.depth; room = m; within = y }) (within_prop a.task.now.table.sizes.objects (take a.depth a.objects) a.within w)

  with_task : (t : Bor Task) → a.task ≡ t → (m : a.depth ≤ 7) (w : Within t.now.table.sizes.objects (take a.depth a.objects)) → a ≡ record { task = t; objects = a.objects; depth = a.depth; room = m; within = w }
  with_task t p =
      subst (λ (t : Bor Task). (m : a.depth ≤ 7) (w : Within t.now.table.sizes.objects (take a.depth a.objects)) → a ≡ record { task = t; objects = a.objects; depth = a.depth; room = m; within = w }) p with_facts

  with_objects : (t : Bor Task) (os : List ℕ) → a.task ≡ t → a.objects ≡ os → (m : a.depth ≤ 7) (w : Within t.now.table.sizes.objects (take a.depth os)) → a ≡ record { task = t; objects = os; depth = a.depth; room = m; within = w }
  with_objects t os p q =
      subst (λ (os : List ℕ). (m : a.depth ≤ 7) (w : Within t.now.table.sizes.objects (take a.depth os)) → a ≡ record { task = t; objects = os; depth = a.depth; room = m; within = w }) q (with_task t p)

  -- sheets over one task with the same objects and the same depth are equal
  pub same_sheet : (b : Sheet) → a.task ≡ b.task → a.objects ≡ b.objects → a.depth ≡ b.depth → a ≡ b
  same_sheet b p q r =
      subst (λ (d : ℕ). (m : d ≤ 7) (w : Within b.task.now.table.sizes.objects (take d b.objects)) → a ≡ record { task = b.task; objects = b.objects; depth = d; room = m; within = w }) r (with_objects b.task b.objects p q) b.room b.within

-- and scenes with equal sheets and the same image
module _ (a : Scene) where
  pub same_scene : (b : Scene) → a.sheet ≡ b.sheet → a.image ≡ b.image → a ≡ b
  same_scene b p q = ap (λ s. record { sheet = s; image = a.image }) p ∙ ap (λ (i : Bor (List ℕ)). record { sheet = b.sheet; image = i }) q

-- a scene in which one more variable was bound for a while is as it was
pub restored : {a b d : Scene} {o before : ℕ} (c : Scene) → OneMore a o b → before ≡ get_or a.sheet.objects a.sheet.depth 0 → c ≡ b → OneLess c before d → d ≡ a
restored {a} {b} {d} {o} {before} c m h e l =
    let less = subst (λ s. OneLess s before d) e l in
    let q : d.sheet.depth ≡ a.sheet.depth = omega (arith, m.depth, less.depth) in
    let O = a.sheet.objects in
    let D = a.sheet.depth in
    let x : d.sheet.objects ≡ O =
    less.objects ∙ ap (λ xs. set xs d.sheet.depth before) m.objects ∙ ap (λ n. set (set O D o) n before) q ∙ ap (set (set O D o) D) h
    ∙ set-set O D o (get_or O D 0) ∙ set-get_or O D 0 in
    same_scene d a (same_sheet d.sheet a.sheet (less.task ∙ m.task) x q) (less.image ∙ m.image)

-- one more variable stands for the object
pub one_more_bound : {a b : Scene} {o : ℕ} → OneMore a o b → a.sheet.depth < length a.sheet.objects → bound b.sheet ≡ bound a.sheet ++ (o ∷ [])
one_more_bound {a} {b} {o} m l = ap (λ n. take n b.sheet.objects) m.depth ∙ ap (take (a.sheet.depth + 1)) m.objects ∙ take_more_set a.sheet.objects a.sheet.depth o l

-- so formulas and effects are seen with it
pub formula_seen : {a b : Scene} {o i : ℕ} {f : Formula} {j : ℕ} → OneMore a o b → FormulaAt (held a.sheet.task.now) (a.sheet.depth + 1) i f j → FormulaIn b i f j
formula_seen {a} {b} {o} {i} {f} {j} m s =
    subst (λ (t : Bor Task). FormulaAt (held t.now) b.sheet.depth i f j) (sym m.task) (subst (λ n. FormulaAt (held a.sheet.task.now) n i f j) (sym m.depth) s)

pub value_seen : {a b : Scene} {o : ℕ} → OneMore a o b → a.sheet.depth < length a.sheet.objects → (f : Formula) → value_in b f ≡ value (tree_of a.sheet.task.now) (shown a.image.now) (bind (bound a.sheet) o) f
value_seen {a} {b} {o} m l f =
    ap (λ (t : Bor Task). value (tree_of t.now) (shown b.image.now) (bound b.sheet) f) m.task ∙ ap (λ (im : Bor (List ℕ)). value (tree_of a.sheet.task.now) (shown im.now) (bound b.sheet) f) m.image
    ∙ ap (λ sh. value (tree_of a.sheet.task.now) (shown a.image.now) sh f) (one_more_bound m l)

pub effect_seen : {a b : Scene} {o i : ℕ} {e : Effect} {j : ℕ} → OneMore a o b → EffectAt (held a.sheet.task.now) (a.sheet.depth + 1) i e j → EffectIn b i e j
effect_seen {a} {b} {o} {i} {e} {j} m s =
    subst (λ (t : Bor Task). EffectAt (held t.now) b.sheet.depth i e j) (sym m.task) (subst (λ n. EffectAt (held a.sheet.task.now) n i e j) (sym m.depth) s)

pub literals_seen : {a b : Scene} {o : ℕ} → OneMore a o b → a.sheet.depth < length a.sheet.objects → (e : Effect) → literals_in b e ≡ effect_literals (tree_of a.sheet.task.now) (shown a.image.now) (bind (bound a.sheet) o) e
literals_seen {a} {b} {o} m l e =
    ap (λ (t : Bor Task). effect_literals (tree_of t.now) (shown b.image.now) (bound b.sheet) e) m.task ∙ ap (λ (im : Bor (List ℕ)). effect_literals (tree_of a.sheet.task.now) (shown im.now) (bound b.sheet) e) m.image
    ∙ ap (λ sh. effect_literals (tree_of a.sheet.task.now) (shown a.image.now) sh e) (one_more_bound m l)

-- what is seen over a sheet that was made for parameters
module _ (s : Sheet) (k : Task) (os : List ℕ) (t : s.task.now ≡ k) (d : s.depth ≡ length os) (b : bound s ≡ os) where
  pub terms_over : {p i : ℕ} {ts : List Term} {j : ℕ} → TermsAt (held k) (length os) p i ts j → TermsAt (held s.task.now) s.depth p i ts j
  terms_over {p} {i} {ts} {j} h = subst (λ k. TermsAt (held k) s.depth p i ts j) (sym t) (subst (λ n. TermsAt (held k) n p i ts j) (sym d) h)

  pub formula_over : {i : ℕ} {f : Formula} {j : ℕ} → FormulaAt (held k) (length os) i f j → FormulaAt (held s.task.now) s.depth i f j
  formula_over {i} {f} {j} h = subst (λ k. FormulaAt (held k) s.depth i f j) (sym t) (subst (λ n. FormulaAt (held k) n i f j) (sym d) h)

  pub effect_over : {i : ℕ} {e : Effect} {j : ℕ} → EffectAt (held k) (length os) i e j → EffectAt (held s.task.now) s.depth i e j
  effect_over {i} {e} {j} h = subst (λ k. EffectAt (held k) s.depth i e j) (sym t) (subst (λ n. EffectAt (held k) n i e j) (sym d) h)

  pub atom_over : (p : ℕ) (ts : List Term) → atom_of (tree_of s.task.now) (bound s) p ts ≡ atom_of (tree_of k) os p ts
  atom_over p ts = ap (λ k. atom_of (tree_of k) (bound s) p ts) t ∙ ap (λ sh. atom_of (tree_of k) sh p ts) b

  pub value_over : (im : State) (f : Formula) → value (tree_of s.task.now) im (bound s) f ≡ value (tree_of k) im os f
  value_over im f = ap (λ k. value (tree_of k) im (bound s) f) t ∙ ap (λ sh. value (tree_of k) im sh f) b

  pub literals_over : (im : State) (e : Effect) → effect_literals (tree_of s.task.now) im (bound s) e ≡ effect_literals (tree_of k) im os e
  literals_over im e = ap (λ k. effect_literals (tree_of k) im (bound s) e) t ∙ ap (λ sh. effect_literals (tree_of k) im sh e) b

  -- what holds of the task and the objects of the sheet
  pub holds_over : (P : tree.Task → List ℕ → Type 0) → P (tree_of s.task.now) (bound s) → P (tree_of k) os
  holds_over P h = subst (P (tree_of k)) b (subst (λ k. P (tree_of k) (bound s)) t h)
