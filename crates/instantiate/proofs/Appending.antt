-- The atoms of a predicate of a task's record, by the power that the code takes.
use Rattle.std.proofs.Common.{◌≡◌, ℕ, ◌+◌, ◌^◌, ◌<◌, ◌≤◌, cond, ◌&&◌, leb, get_or, take, Option, Some, None, sym, ap, ◌∙◌, arith}
use Rattle.model.specs.Trees.{atoms_of}
use Rattle.adl.specs.declared.task.Task.{Task}
use Rattle.adl.specs.Tables.{arity}
use Rattle.adl.specs.Held.{held, tree_of}
use Rattle.adl_theorems.proofs.Standing.{same_objects, arity_at, arity_small, arities_length, atoms_bounded}
use Rattle.runs.proofs.Counting.{atoms_more, atoms_most, power_is}

module _ (k : Task) (p a : ℕ) (r : Option ℕ) (h : p < k.table.sizes.predicates) (e : a ≡ arity (held k) p)
    (q : r ≡ cond (leb k.table.sizes.objects 32 && leb a 4) (Some (k.table.sizes.objects ^ a)) None) where
  -- the power is there
  pub power_there : r ≡ Some (k.table.sizes.objects ^ a)
  power_there = power_is k.table.sizes.objects a r k.table.objects (omega (arith, arity_small (held k) k.formed p h, e)) q

  module _ (n : ℕ) (s : r ≡ Some n) where
    -- so many atoms are the predicate's own
    pub own_atoms : n ≡ (tree_of k).objects ^ get_or (tree_of k).arities p 0
    own_atoms =
        let z = power_there in
        let o = same_objects (held k) k.formed in
        let d = arity_at (held k) k.formed p h in
        let x : n ≡ k.table.sizes.objects ^ a = cc in
        x ∙ ap (λ m. k.table.sizes.objects ^ m) (e ∙ sym d) ∙ ap (λ m. m ^ get_or (tree_of k).arities p 0) (sym o)

    -- after them the next predicate's begin
    pub next_atoms : atoms_of (tree_of k).objects (take p (tree_of k).arities) + n ≡ atoms_of (tree_of k).objects (take (p + 1) (tree_of k).arities)
    next_atoms =
        let m = arities_length (held k) k.formed in
        let z = atoms_more (tree_of k).objects (tree_of k).arities p (omega (arith, m)) in
        omega (arith, z, own_atoms)

    pub few_atoms : atoms_of (tree_of k).objects (take p (tree_of k).arities) + n ≤ 65536
    few_atoms = omega (arith, next_atoms, atoms_most (tree_of k).objects (tree_of k).arities (p + 1), atoms_bounded (held k) k.formed)
