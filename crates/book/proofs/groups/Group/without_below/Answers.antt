use Rattle.std.proofs.Common.{sym, ap, ◌∙◌, arith}
use Rattle.std.proofs.lemmas.List.{take_rest}
use Rattle.model.specs.Lists.{has}
use Rattle.book.proofs.Atoms.{has_nowhere, has_past}
use Rattle.book.proofs.groups.Group.without_below.Goals as goal

pub returns-then-found-atom-clause-kept : goal.returns-then-found-atom-clause-kept
returns-then-found-atom-clause-kept c =
    let xs = c.args.self.atoms.now in
    λ x l. ap (has x) (take_rest xs c.loop-place.place) ∙ has_past xs x c.loop-place.place (λ k h. omega (arith, c.loop-place.invariant k h))

pub returns-clause-kept : goal.returns-clause-kept
returns-clause-kept c = λ x l. sym (has_nowhere c.args.self.atoms.now x (λ k h e. omega (arith, c.loop-place.invariant k (omega arith), e)))
