use Rattle.std.proofs.Common.{◌++◌, length, ap, ap₂, sym, refl, subst, ◌∙◌, arith, ◌+◌}
use Rattle.std.proofs.lemmas.List.{append-nil}
use Rattle.adl.specs.Held.{held, tree_of}
use Rattle.adl_theorems.proofs.Standing.{operators_length}
use Rattle.model.specs.Lists.{gather}
use Rattle.book_theorems.specs.Writes.{write_action}
use Rattle.instantiate.specs.Growing.{Grown}
use Rattle.instantiate.proofs.Acting.{counted, appended, acted_below, one_operator_more, none_acted}
use Rattle.instantiate.proofs.actions.write_actions.Goals as goal

pub loop-operator-init : goal.loop-operator-init
loop-operator-init c =
    let t = tree_of c.args.task.now in
    (refl, ap length (sym (none_acted t)), λ es h. subst (λ z. Grown z c.args.book.now) (sym (ap (λ z. es ++ gather write_action z) (none_acted t) ∙ append-nil es)) h)

pub loop-operator-preserved : goal.loop-operator-preserved
loop-operator-preserved c =
    let t = tree_of c.args.task.now in
    let o = c.loop-operator.operator in (
      c.in_ok-more.ensures.most ∙ c.loop-operator.invariant.0,
      c.in_ok-actions.ensures ∙ ap₂ (λ k n. k + n) c.loop-operator.invariant.1 c.in_ok-more.ensures.count ∙ counted _ _ _ (one_operator_more t o),
      λ es h. subst (λ z. Grown z c.write_operator.new.book) (appended es _ _ _ (one_operator_more t o)) (c.in_ok-more.ensures.grown _ (c.loop-operator.invariant.2 es h)),
    )

pub returns-clause-count : goal.returns-clause-count
returns-clause-count c =
    let k = c.args.task.now in
    c.loop-operator.invariant.1 ∙ ap (λ n. length (acted_below (tree_of k) n)) (omega (arith, operators_length (held k) k.formed))

pub returns-clause-grown : goal.returns-clause-grown
returns-clause-grown c = λ es h.
    let k = c.args.task.now in
    subst (λ n. Grown (es ++ gather write_action (acted_below (tree_of k) n)) c.loop-operator.book)
    (omega (arith, operators_length (held k) k.formed))
    (c.loop-operator.invariant.2 es h)
