use Rattle.std.proofs.Common.{◌+◌, ◌++◌, map, length, take, ap, ap₂, subst, ◌∙◌, arith}
use Rattle.adl.specs.Held.{held, tree_of}
use Rattle.adl_theorems.proofs.Standing.{operators_length}
use Rattle.model.specs.Lists.{gather}
use Rattle.model.specs.Settling.{round_two}
use Rattle.model.specs.Books.{actions}
use Rattle.book_theorems.specs.Writes.{write_action}
use Rattle.instantiate.specs.Growing.{Grown}
use Rattle.instantiate.proofs.Naming.{fits_at, front_all}
use Rattle.instantiate.proofs.Acting.{counted, appended, one_name_more}
use Rattle.instantiate.proofs.actions.write_operator.Goals as goal

pub fitting-fitting-requires : goal.fitting-fitting-requires
fitting-fitting-requires c =
    let k = c.args.task.now in
    fits_at (tree_of k) c.args.operator c.in_ok-count.count c.deref-objects-items.result.now
    (ap (map (take c.in_ok-count.count)) c.deref-objects-items.ensures.value ∙ c.in_ok-count.ensures.lists c.requires.known)
    c.loop-objects.objects-index _ (omega (arith, operators_length (held k) k.formed, c.requires.known)) c.loop-objects-test.true

pub loop-objects-preserved : goal.loop-objects-preserved
loop-objects-preserved c =
    let t = tree_of c.args.task.now in
    let next = one_name_more t c.args.operator c.in_ok-count.count c.deref-objects-items.result.now c.loop-objects.objects-index _ c.loop-objects-test.true
    _ _ (ap tree_of c.fitting-fitting.ensures.0) c.fitting-fitting.ensures.1 in (
      c.in_ok-more.ensures.most ∙ c.loop-objects.invariant.0,
      c.in_ok-actions.ensures ∙ ap₂ (λ k n. k + n) c.loop-objects.invariant.1 c.in_ok-more.ensures.count ∙ counted _ _ _ next,
      λ es h. subst (λ z. Grown z c.write_one.new.book) (appended es _ _ _ next) (c.in_ok-more.ensures.grown _ (c.loop-objects.invariant.2 es h)),
    )

pub returns-clause-count : goal.returns-clause-count
returns-clause-count c =
    let t = tree_of c.args.task.now in
    let lists = ap (map (take c.in_ok-count.count)) c.deref-objects-items.ensures.value ∙ c.in_ok-count.ensures.lists c.requires.known in
    c.loop-objects.invariant.1
    ∙ ap (λ ms. length (actions t (round_two t) ms)) (front_all t c.args.operator c.in_ok-count.count c.deref-objects-items.result.now lists c.loop-objects.objects-index (omega arith))

pub returns-clause-grown : goal.returns-clause-grown
returns-clause-grown c = λ es h.
    let t = tree_of c.args.task.now in
    let lists = ap (map (take c.in_ok-count.count)) c.deref-objects-items.ensures.value ∙ c.in_ok-count.ensures.lists c.requires.known in
    subst (λ ms. Grown (es ++ gather write_action (actions t (round_two t) ms)) c.loop-objects.book)
    (front_all t c.args.operator c.in_ok-count.count c.deref-objects-items.result.now lists c.loop-objects.objects-index (omega arith))
    (c.loop-objects.invariant.2 es h)
