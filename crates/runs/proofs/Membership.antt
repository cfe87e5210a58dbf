-- The members of a type, by the bits of its entry.
use Rattle.std.proofs.Common.{◌≡◌, ℕ, ◌<◌, ◌≤◌, Bool, true, ◌&&◌, ltb, get_or, sym, ap, ◌∙◌}
use Rattle.std.proofs.lemmas.Bool.{ltb-true, lt-ltb, le-ltb, and_parts, and_from}
use Rattle.std.specs.Cmp.{both_ways}
use Rattle.model.specs.Lists.{below, keep, has}
use Rattle.model.specs.Trees.{members, in_set}
use Rattle.model.proofs.Members.{in_below, below_out, keep_out, in_keep, has_in, in_has}
use Rattle.adl.specs.Tables.{Table}
use Rattle.adl.specs.Loads.{accepted, task_of}
use Rattle.adl_theorems.proofs.Standing.{stands, type_at}

-- the numbers below n that pass a test
pub has_kept : (p : ℕ → Bool) (o n : ℕ) → has o (keep p (below n)) ≡ (ltb o n && p o)
has_kept p o n =
    both_ways (has o (keep p (below n))) (ltb o n && p o)
    (λ e.
    let w = keep_out p o (below n) (has_in o (keep p (below n)) e) in
    and_from (ltb o n) (p o) (lt-ltb o n (below_out o n w.0)) w.1)
    (λ e.
    let w = and_parts (ltb o n) (p o) e in
    in_has o (keep p (below n)) (in_keep p o (below n) (in_below o n (ltb-true o n w.0)) w.1))

module _ (t : Table) (ok : accepted t ≡ true) (ty o : ℕ) (h : ty < t.types) where
  -- a member is an object whose bit is set in the type's operand
  pub member_is : has o (members (task_of t) ty) ≡ (ltb o t.objects && in_set (get_or t.operands ty 0) o)
  member_is =
      has_kept (in_set (get_or (task_of t).types ty 0)) o (task_of t).objects
      ∙ ap (λ n. ltb o n && in_set (get_or (task_of t).types ty 0) o) (stands t ok).objects
      ∙ ap (λ x. ltb o t.objects && in_set x o) (type_at t ok ty h)

  -- an object is a member if its bit is set
  pub object_is_member : o < t.objects → in_set (get_or t.operands ty 0) o ≡ has o (members (task_of t) ty)
  object_is_member l = sym (member_is ∙ ap (λ b. b && in_set (get_or t.operands ty 0) o) (lt-ltb o t.objects l))

  -- what is no object is no member
  pub no_member : t.objects ≤ o → ltb o t.objects ≡ has o (members (task_of t) ty)
  no_member l = le-ltb o t.objects l ∙ sym (member_is ∙ ap (λ b. b && in_set (get_or t.operands ty 0) o) (le-ltb o t.objects l))
