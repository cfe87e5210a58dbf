-- Writing the instances of an effect, one for each member of a type.
use Rattle.std.proofs.Common.{◌≡◌, ℕ, zero, suc, ◌+◌, ◌<◌, Bool, true, false, cond, List, [], ◌++◌, sym, ap, ◌∙◌, subst, ⊎_elim, arith}
use Rattle.std.proofs.lemmas.List.{append_assoc, append-nil}
use Rattle.std.proofs.lemmas.Bool.{cases_lt}
use Rattle.model.specs.Lists.{below, keep, gather}
use Rattle.model.specs.Meaning.{Part, bind, parts}
use Rattle.model.specs.Settling.{Round}
use Rattle.model.specs.Trees.{Task, Effect}
use Rattle.adl.specs.Held.{held, tree_of}
use Rattle.runs.specs.declared.draft.Draft.{Draft}
use Rattle.runs.specs.declared.settling.Settling.{Settling}
use Rattle.runs.specs.Clauses.{PartsWritten, EffectOf, task_in, round_in, parts_of}
use Rattle.runs.specs.Effects.{EffectAt}
use Rattle.runs.specs.Settled.{round_of}
use Rattle.runs.specs.Shown.{bound}
use Rattle.runs.proofs.Appending.{parts_after, parts_as}
use Rattle.runs.proofs.Walks.{suc_kept, more_kept}

-- the pieces of the members come to the piece of each
pub member_inside : {B : Type 0} (p : ℕ → Bool) (F : ℕ → List B) (i k : ℕ) → i < k → p i ≡ true
    → (rest : List B) × (gather F (keep p (below k)) ≡ (gather F (keep p (below i)) ++ F i) ++ rest)
member_inside p F i zero h e = let z : ⊥ = omega arith in absurd z
member_inside p F i (suc k) h e =
    let b = gather F (keep p (below i)) in
    ⊎_elim
    (λ lt.
    let w = member_inside p F i k lt e in
    let last = cond (p k) (F k) [] in
    (w.0 ++ last, suc_kept p F k ∙ ap (λ zs. zs ++ last) w.1 ∙ append_assoc (b ++ F i) w.0 last))
    (λ ge.
    let q : k ≡ i = omega arith in
    ([], ap (λ n. gather F (keep p (below (suc n)))) q ∙ suc_kept p F i ∙ ap (λ (z : Bool). b ++ cond z (F i) []) e ∙ sym (append-nil (b ++ F i))))
    (cases_lt i k)

-- what is settled over a sheet with one variable more, bound to o
module _ (a b : Settling) (t : b.sheet.task.now ≡ a.sheet.task.now) (d : b.sheet.depth ≡ a.sheet.depth + 1) where
  pub instance_stands : {i : ℕ} {e : Effect} {j : ℕ} → EffectAt (held a.sheet.task.now) (a.sheet.depth + 1) i e j → EffectOf b i e j
  instance_stands {i} {e} {j} s =
      subst (λ k. EffectAt (held k) b.sheet.depth i e j) (sym t) (subst (λ n. EffectAt (held a.sheet.task.now) n i e j) (sym d) s)

module _ (a b : Settling) (o : ℕ) (t : b.sheet.task.now ≡ a.sheet.task.now) (v : b.verdicts.now ≡ a.verdicts.now) (s : bound b.sheet ≡ bind (bound a.sheet) o) where
  pub at_instance : (P : Task → Round → List Part → Type 0) (e : Effect) → P (task_in b) (round_in b) (parts_of b e) → P (task_in a) (round_in a) (parts (task_in a) (bind (bound a.sheet) o) e)
  at_instance P e h =
      subst (λ sh. P (task_in a) (round_in a) (parts (task_in a) sh e)) s
      (subst (λ vs. P (task_in a) (round_of vs) (parts (task_in a) (bound b.sheet) e)) v
      (subst (λ k. P (tree_of k) (round_in b) (parts (tree_of k) (bound b.sheet) e)) t h))

same : (t : Task) (r : Round) (ps : List Part) (a b y : Draft) (n l : ℕ) → PartsWritten t r ps a b n → y ≡ b → l ≡ n → PartsWritten t r ps a y l
same t r ps a b y n l h x z = subst (λ m. PartsWritten t r ps a y m) (sym z) (subst (λ d. PartsWritten t r ps a d n) (sym x) h)

-- one turn of the loop over the members, at a member and at another object
module _ (t : Task) (r : Round) (p : ℕ → Bool) (F : ℕ → List Part) (a b : Draft) (m i : ℕ) (h : PartsWritten t r (gather F (keep p (below i))) a b m) where
  pub written_with : (c y : Draft) (n k l : ℕ) → p i ≡ true → PartsWritten t r (F i) b c n → k ≡ m + n → y ≡ c → l ≡ k → PartsWritten t r (gather F (keep p (below (i + 1)))) a y l
  written_with c y n k l e g q x z =
      let before = gather F (keep p (below i)) in
      let w = parts_as t r (before ++ F i) (gather F (keep p (below (i + 1)))) a c k (more_kept p F i ∙ ap (λ (b : Bool). before ++ cond b (F i) []) e) (parts_after t r before (F i) a b c m n k h g q) in
      same t r (gather F (keep p (below (i + 1)))) a c y k l w x z

  pub written_without : (y : Draft) (l : ℕ) → p i ≡ false → y ≡ b → l ≡ m → PartsWritten t r (gather F (keep p (below (i + 1)))) a y l
  written_without y l e x z =
      let before = gather F (keep p (below i)) in
      let w = parts_as t r before (gather F (keep p (below (i + 1)))) a b m (more_kept p F i ∙ ap (λ (b : Bool). before ++ cond b (F i) []) e ∙ append-nil before) h in
      same t r (gather F (keep p (below (i + 1)))) a b y m l w x z
