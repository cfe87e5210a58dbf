use Rattle.std.proofs.Common.{◌≡◌, ℕ, ◌<◌, ◌≤◌, refl, ◌+◌, ◌^◌, ◌<◌, get_or, take, sym, ap, ◌∙◌, arith}
use Rattle.model.specs.Trees.{atoms_of}
use Rattle.adl.specs.declared.task.Task.{Task}
use Rattle.adl.specs.Tables.{arity}
use Rattle.adl.specs.Held.{held, tree_of}
use Rattle.runs.proofs.Counting.{atoms_more, atoms_most, power_is}
use Rattle.adl_theorems.proofs.Standing.{same_objects, arity_at, arity_small, arities_length, atoms_bounded}
use Rattle.runs.proofs.numbering.first_atom.Goals as goal

-- a predicate has few arguments
few : (t : Task) (p k : ℕ) → p < t.table.sizes.predicates → k ≡ arity (held t) p → k ≤ 4
few t p k l e = omega (arith, arity_small (held t) t.formed p l, e)

pub unwrap-own-requires : goal.unwrap-own-requires
unwrap-own-requires c =
    let t = c.args.task.now in
    let e = power_is t.table.sizes.objects c.arity.result c.power.result t.table.objects (few t c.loop-p.p c.arity.result (omega arith) c.arity.ensures) c.power.ensures in
    rw e refl

-- the atoms of the next predicate
own-atoms : (c : goal.After-unwrap-own) → c.unwrap-own.result ≡ (tree_of c.args.task.now).objects ^ get_or (tree_of c.args.task.now).arities c.loop-p.p 0
own-atoms c =
    let t = c.args.task.now in
    let l : c.loop-p.p < t.table.sizes.predicates = omega arith in
    let o = same_objects (held t) t.formed in
    let a = arity_at (held t) t.formed c.loop-p.p l in
    let p = power_is t.table.sizes.objects c.arity.result c.power.result t.table.objects (few t c.loop-p.p c.arity.result l c.arity.ensures) c.power.ensures in
    let q = c.unwrap-own.ensures in
    let e : c.unwrap-own.result ≡ t.table.sizes.objects ^ c.arity.result = cc in
    e ∙ ap (λ n. t.table.sizes.objects ^ n) (c.arity.ensures ∙ sym a) ∙ ap (λ n. n ^ get_or (tree_of t).arities c.loop-p.p 0) (sym o)

-- the atoms of one more predicate
more-atoms : (c : goal.After-unwrap-own) → c.loop-p.first + c.unwrap-own.result ≡ atoms_of (tree_of c.args.task.now).objects (take (c.loop-p.p + 1) (tree_of c.args.task.now).arities)
more-atoms c =
    let t = c.args.task.now in
    let m = arities_length (held t) t.formed in
    let e = atoms_more (tree_of t).objects (tree_of t).arities c.loop-p.p (omega (arith, m)) in
    omega (arith, e, own-atoms c, c.loop-p.invariant)

pub overflow_add-first : goal.overflow_add-first
overflow_add-first c =
    let t = c.args.task.now in
    omega (arith, more-atoms c, atoms_most (tree_of t).objects (tree_of t).arities (c.loop-p.p + 1), atoms_bounded (held t) t.formed)

pub loop-p-preserved : goal.loop-p-preserved
loop-p-preserved c = more-atoms c
