use Rattle.std.proofs.Common.{length, Ok, Err, ap, ◌∙◌, inr, arith}
use Rattle.std.proofs.lemmas.Result.{err_from_is_err_and}
use Rattle.adl.specs.Held.{held, tree_of}
use Rattle.adl_theorems.proofs.Sound.{records_within_limits}
use Rattle.adl_theorems.proofs.WellFormed.{loaded_tasks_are_well_formed}
use Rattle.instantiate.proofs.Unclashing.{nothing_clashes}
use Rattle.instantiate.proofs.Answering.{list_too_short, book_too_long, book_told, refused_as}
use Rattle.instantiate.proofs.Opened.{opened}
use Rattle.instantiate.proofs.instantiating.instantiate.Goals as goal

pub returns-in_err-verdicts-clause-answers : goal.returns-in_err-verdicts-clause-answers
returns-in_err-verdicts-clause-answers c =
    let p = err_from_is_err_and c.from_residual.result c.from_residual.ensures.1 in
    refused_as _ _ _ _ (p.1 ∙ ap Err p.2) c.in_err-verdicts.ensures (list_too_short (tree_of c.args.task.now) _ (length c.args.kinds.now) (length c.args.operands.now) _)

pub returns-in_err-sizes-clause-answers : goal.returns-in_err-sizes-clause-answers
returns-in_err-sizes-clause-answers c =
    let k = c.args.task.now in
    let p = err_from_is_err_and c.from_residual-in_err-sizes.result c.from_residual-in_err-sizes.ensures.1 in
    refused_as _ _ _ _ (p.1 ∙ ap Err p.2) c.in_err-sizes.ensures.composed (λ w.
    book_too_long (tree_of k) _ _ _ c.in_ok-verdicts.ensures.1 (nothing_clashes (tree_of k) (loaded_tasks_are_well_formed (held k) k.formed)) _
    (w.0, omega (arith, w.1, c.min-most.ensures, c.min.ensures, c.new-book.ensures.most)))

pub returns-clause-answers : goal.returns-clause-answers
returns-clause-answers c =
    let k = c.args.task.now in
    let w = c.in_ok-sizes.ensures.composed in
    inr (ap Ok w.0 ∙ book_told (tree_of k) _ (length c.args.kinds.now) (length c.args.operands.now) c.in_ok-verdicts.ensures.1 (nothing_clashes (tree_of k) (loaded_tasks_are_well_formed (held k) k.formed))
    (omega (arith, w.2, c.min-most.ensures, c.min.ensures, c.new-book.ensures.most)))

pub returns-clause-opens : goal.returns-clause-opens
returns-clause-opens c =
    let k = c.args.task.now in
    let w = c.in_ok-sizes.ensures.composed in
    opened (tree_of k) (loaded_tasks_are_well_formed (held k) k.formed) (records_within_limits k) c.in_ok-sizes.sizes w.0 _ _ c.deref-2.ensures.value w.1 _ _ _ _
    c.copy_to_front.ensures.kinds c.copy_to_front.ensures.operands (omega (arith, w.2, c.min-most.ensures, c.min.ensures, c.new-book.ensures.most))
