use Rattle.std.proofs.Common.{rules, ◌++◌, length, ap, sym, subst, ◌∙◌}
use Rattle.std.proofs.lemmas.List.{append-nil}
use Rattle.adl.specs.Held.{held, tree_of}
use Rattle.adl_theorems.proofs.WellFormed.{loaded_tasks_are_well_formed}
use Rattle.model.specs.Lists.{gather}
use Rattle.book_theorems.specs.Writes.{write_action}
use Rattle.instantiate.specs.Growing.{Grown}
use Rattle.instantiate.proofs.Endings.{at_failure}
use Rattle.instantiate.proofs.Clashes.{stopped_in_two}
use Rattle.instantiate.proofs.Acting.{dropped, one, drafted}
use Rattle.instantiate.proofs.actions.write_one.Goals as goal

pub returns-in_err-write_action-clause-memory : goal.returns-in_err-write_action-clause-memory
returns-in_err-write_action-clause-memory c =
    let f = c.args.fitting.now in
    at_failure _ _ _ c.from_residual.result c.from_residual.ensures.1
    (λ y e. e ∙ stopped_in_two (tree_of f.task.now) (loaded_tasks_are_well_formed (held f.task.now) f.task.now.formed) _ _ f.fits c.requires _ c.in_err-write_action.ensures.stopped)

pub returns-then-not-branch-clause-count : goal.returns-then-not-branch-clause-count
returns-then-not-branch-clause-count c =
    let none = dropped _ _ c.requires _ _ c.in_ok-write_action.ensures.told c.if-not-branch.true in
    ap length (sym none)

pub returns-then-not-branch-clause-grown : goal.returns-then-not-branch-clause-grown
returns-then-not-branch-clause-grown c = λ es h.
    let none = dropped _ _ c.requires _ _ c.in_ok-write_action.ensures.told c.if-not-branch.true in
    subst (λ z. Grown z c.args.book.now) (sym (ap (λ z. es ++ gather write_action z) none ∙ append-nil es)) h

pub returns-clause-count : goal.returns-clause-count
returns-clause-count c = sym (one _ _ c.requires _ _ c.in_ok-write_action.ensures.told c.if-not-branch.false)

pub returns-clause-grown : goal.returns-clause-grown
returns-clause-grown c = λ es h.
    subst (λ z. Grown (es ++ z) c.add.new.self)
    (drafted _ _ c.requires _ _ c.in_ok-write_action.ensures.told c.if-not-branch.false _ _ c.in_ok-write_action.ensures.wrote (search rules) _ c.deref.ensures.value)
    (c.in_ok-add.ensures.grown es h)
