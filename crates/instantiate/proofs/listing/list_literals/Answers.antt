use Rattle.std.proofs.Common.{sym, refl, subst, ap, ◌∙◌, arith}
use Rattle.adl.specs.Held.{held, tree_of}
use Rattle.adl_theorems.proofs.Standing.{operators_length}
use Rattle.model.specs.Lists.{below, gather}
use Rattle.rising.specs.Items.{items}
use Rattle.instantiate.specs.Listing.{Lists}
use Rattle.instantiate.specs.Outcome.{literals_of}
use Rattle.instantiate.proofs.Endings.{at_failure}
use Rattle.instantiate.proofs.Listed.{lists_none}
use Rattle.instantiate.proofs.Naming.{gather_below, gather_none}
use Rattle.instantiate.proofs.Gathering.{refused_by_all, literals_by_operator}
use Rattle.instantiate.proofs.listing.list_literals.Goals as goal

pub loop-operator-init : goal.loop-operator-init
loop-operator-init c = (refl, subst (λ z. Lists (items c.args.listed.now) z) (sym (gather_none (literals_of (tree_of c.args.task.now)))) (lists_none _ c.requires.empty))

pub returns-in_err-list_operator-clause-held : goal.returns-in_err-list_operator-clause-held
returns-in_err-list_operator-clause-held c =
    let k = c.args.task.now in
    at_failure _ _ _ c.from_residual.result c.from_residual.ensures.1
    (λ y e. refused_by_all (tree_of k) c.loop-operator.operator (omega (arith, operators_length (held k) k.formed)) _ _ _ y c.loop-operator.invariant.0 e
    (c.in_err-list_operator.ensures.held _ c.loop-operator.invariant.1))

pub loop-operator-preserved : goal.loop-operator-preserved
loop-operator-preserved c = (
  c.in_ok-list_operator.ensures.places ∙ c.loop-operator.invariant.0,
  subst (λ z. Lists (items c.list_operator.new.listed) z) (sym (gather_below (literals_of (tree_of c.args.task.now)) c.loop-operator.operator))
      (c.in_ok-list_operator.ensures.held _ c.loop-operator.invariant.1),
)

pub returns-clause-held : goal.returns-clause-held
returns-clause-held c =
    let k = c.args.task.now in
    subst (λ z. Lists (items c.loop-operator.listed) z)
    (ap (λ n. gather (literals_of (tree_of k)) (below n)) (omega (arith, operators_length (held k) k.formed)) ∙ sym (literals_by_operator (tree_of k)))
    c.loop-operator.invariant.1
