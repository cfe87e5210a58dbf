use Rattle.std.proofs.Common.{◌++◌, map, take, ap, subst, ◌∙◌, arith}
use Rattle.adl.specs.Held.{held, tree_of}
use Rattle.adl_theorems.proofs.Standing.{operators_length}
use Rattle.model.specs.Lists.{gather}
use Rattle.model.specs.Settling.{reach, round_one}
use Rattle.rising.specs.Items.{items}
use Rattle.instantiate.specs.Listing.{Lists}
use Rattle.instantiate.proofs.Endings.{at_failure}
use Rattle.instantiate.proofs.Naming.{fits_at, front_all}
use Rattle.instantiate.proofs.Gathering.{one_name_more, refused_by_operator}
use Rattle.instantiate.proofs.listing.list_operator.Goals as goal

pub fitting-fitting-requires : goal.fitting-fitting-requires
fitting-fitting-requires c =
    let k = c.args.task.now in
    fits_at (tree_of k) c.args.operator c.in_ok-count.count c.deref-objects-items.result.now
    (ap (map (take c.in_ok-count.count)) c.deref-objects-items.ensures.value ∙ c.in_ok-count.ensures.lists c.requires.known)
    c.loop-objects.objects-index _ (omega (arith, operators_length (held k) k.formed, c.requires.known)) c.loop-objects-test.true

pub returns-in_err-list_one-clause-held : goal.returns-in_err-list_one-clause-held
returns-in_err-list_one-clause-held c = λ ls h.
    let t = tree_of c.args.task.now in
    let lists = ap (map (take c.in_ok-count.count)) c.deref-objects-items.ensures.value ∙ c.in_ok-count.ensures.lists c.requires.known in
    at_failure _ _ _ c.from_residual-in_err-list_one.result c.from_residual-in_err-list_one.ensures.1
    (λ y e. refused_by_operator t c.args.operator c.in_ok-count.count c.deref-objects-items.result.now lists c.loop-objects.objects-index ls _
    (one_name_more t c.args.operator c.in_ok-count.count c.deref-objects-items.result.now c.loop-objects.objects-index _ c.loop-objects-test.true
    _ _ (ap tree_of c.fitting-fitting.ensures.0) c.fitting-fitting.ensures.1 ls)
    _ _ _ y c.loop-objects.invariant.0 e (c.in_err-list_one.ensures.held _ (c.loop-objects.invariant.1 ls h)))

pub loop-objects-preserved : goal.loop-objects-preserved
loop-objects-preserved c = (
  c.in_ok-list_one.ensures.places ∙ c.loop-objects.invariant.0,
  λ ls h.
      subst (λ z. Lists (items c.list_one.new.listed) z)
      (one_name_more (tree_of c.args.task.now) c.args.operator c.in_ok-count.count c.deref-objects-items.result.now c.loop-objects.objects-index _ c.loop-objects-test.true
      _ _ (ap tree_of c.fitting-fitting.ensures.0) c.fitting-fitting.ensures.1 ls)
      (c.in_ok-list_one.ensures.held _ (c.loop-objects.invariant.1 ls h)),
)

pub returns-clause-held : goal.returns-clause-held
returns-clause-held c = λ ls h.
    let t = tree_of c.args.task.now in
    let lists = ap (map (take c.in_ok-count.count)) c.deref-objects-items.ensures.value ∙ c.in_ok-count.ensures.lists c.requires.known in
    subst (λ z. Lists (items c.loop-objects.listed) (ls ++ gather (reach t (round_one t)) z))
    (front_all t c.args.operator c.in_ok-count.count c.deref-objects-items.result.now lists c.loop-objects.objects-index (omega arith))
    (c.loop-objects.invariant.1 ls h)
