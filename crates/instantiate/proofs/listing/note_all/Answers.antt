use Rattle.std.proofs.Common.{◌++◌, ◌<◌, map, subst, ◌∙◌, arith, refl}
use Rattle.std.proofs.lemmas.List.{take_all}
use Rattle.rising.specs.Items.{items, room}
use Rattle.runs.specs.Effects.{meant}
use Rattle.instantiate.specs.Listing.{Lists, different}
use Rattle.instantiate.proofs.Endings.{at_failure}
use Rattle.instantiate.proofs.Listed.{noted_next, overfull_next}
use Rattle.instantiate.proofs.listing.note_all.Goals as goal

pub returns-in_err-insert-clause-held : goal.returns-in_err-insert-clause-held
returns-in_err-insert-clause-held c = λ ls h. at_failure _ _ _ c.from_residual.result c.from_residual.ensures.1
    (λ y _. subst (λ n. n < different (ls ++ map meant c.args.literals.now)) c.loop-literal.invariant.0
    (overfull_next _ _ _ ls c.args.literals.now _ _ _ c.loop-literal-test.true refl (c.loop-literal.invariant.1 ls h) _ c.in_err-insert.ensures.held))

pub loop-literal-preserved : goal.loop-literal-preserved
loop-literal-preserved c = (
  c.in_ok-insert.ensures.places ∙ c.loop-literal.invariant.0,
  λ ls h. noted_next _ _ (room c.loop-literal.listed) ls c.args.literals.now _ _ _ c.loop-literal-test.true refl (c.loop-literal.invariant.1 ls h) _ c.in_ok-insert.ensures.held,
)

pub returns-clause-held : goal.returns-clause-held
returns-clause-held c = λ ls h. subst (λ z. Lists (items c.loop-literal.listed) (ls ++ map meant z)) (take_all c.loop-literal.literal-index c.args.literals.now (omega arith)) (c.loop-literal.invariant.1 ls h)
