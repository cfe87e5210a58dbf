use Rattle.std.proofs.Common.{◌≡◌, ◌+◌, false, cond, get_or, sym, refl, ap, ◌∙◌, arith}
use Rattle.std.proofs.lemmas.Bool.{cond-true, cond-false}
use Rattle.model.specs.Trees.{predicate_of}
use Rattle.adl.specs.Held.{held, tree_of}
use Rattle.adl_theorems.proofs.Standing.{arities_length}
use Rattle.instantiate.specs.Verdicts.{told_one}
use Rattle.instantiate.proofs.Appending.{power_there, own_atoms, next_atoms, few_atoms}
use Rattle.instantiate.proofs.Becoming.{one_more, told_to, predicate_told, by_predicate}
use Rattle.instantiate.proofs.verdicts.append_predicate.Goals as goal
use Rattle.instantiate.proofs.verdicts.append_predicate.Goals.{then-is_fact, else-is_fact}

pub unwrap-atoms-requires : goal.unwrap-atoms-requires
unwrap-atoms-requires c =
    let e = power_there c.args.task.now c.args.predicate c.arity.result c.power.result c.requires.known c.arity.ensures c.power.ensures in
    rw e refl

pub overflow_add-atom : goal.overflow_add-atom
overflow_add-atom c =
    let l = few_atoms c.args.task.now c.args.predicate c.arity.result c.power.result c.requires.known c.arity.ensures c.power.ensures c.unwrap-atoms.result c.unwrap-atoms.ensures in
    omega (arith, l)

-- the predicate of an atom among them
predicate_is : (c : goal.In_ok-push) → predicate_of (tree_of c.args.task.now).objects (tree_of c.args.task.now).arities (c.args.first + c.loop-i.i) ≡ c.args.predicate
predicate_is c =
    let k = c.args.task.now in
    let t = tree_of k in
    let own = own_atoms k c.args.predicate c.arity.result c.power.result c.requires.known c.arity.ensures c.power.ensures c.unwrap-atoms.result c.unwrap-atoms.ensures in
    ap (λ x. predicate_of t.objects t.arities (x + c.loop-i.i)) c.requires.first
    ∙ predicate_told t.objects t.arities c.args.predicate c.loop-i.i (omega (arith, arities_length (held k) k.formed)) (omega (arith, own))

-- what is asked of the predicate
asked : (c : goal.In_ok-push) → c.if-is_fact.can_change ≡ cond c.holds-is_fact.result (get_or c.args.touched.now.deleted c.args.predicate false) (get_or c.args.touched.now.added c.args.predicate false)
asked c = elim c.if-is_fact.branch [
  | then-is_fact w ↦ w.can_change-is ∙ sym (cond-true c.holds-is_fact.result _ _ w.if-is_fact.true)
  | else-is_fact w ↦ w.can_change-is ∙ sym (cond-false c.holds-is_fact.result _ _ w.if-is_fact.false)
]

pub loop-i-preserved : goal.loop-i-preserved
loop-i-preserved c =
    let t = tree_of c.args.task.now in
    let n = c.args.first + c.loop-i.i in
    let f = c.holds-is_fact.ensures ∙ ap (λ s. s n) c.requires.facts in
    let v = by_predicate t c.args.predicate n c.holds-is_fact.result _ _ c.if-is_fact.can_change (predicate_is c) f c.requires.added c.requires.deleted (asked c) in
    one_more (told_one t) n (c.args.first + (c.loop-i.i + 1)) c.loop-i.out.items c.push.new.self.items c.judge.result (omega arith) c.in_ok-push.ensures.items c.loop-i.invariant (c.judge.ensures ∙ v)

pub overflow_add-result : goal.overflow_add-result
overflow_add-result c =
    let l = few_atoms c.args.task.now c.args.predicate c.arity.result c.power.result c.requires.known c.arity.ensures c.power.ensures c.unwrap-atoms.result c.unwrap-atoms.ensures in
    omega (arith, l)

pub returns : goal.returns
returns c =
    let l = next_atoms c.args.task.now c.args.predicate c.arity.result c.power.result c.requires.known c.arity.ensures c.power.ensures c.unwrap-atoms.result c.unwrap-atoms.ensures in
    (omega (arith, l), told_to (told_one (tree_of c.args.task.now)) (c.args.first + c.loop-i.i) _ c.loop-i.out.items (omega arith) c.loop-i.invariant)
