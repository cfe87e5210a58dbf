use Rattle.table.proofs.Lengths.{operands_long}
use Rattle.std.proofs.Common.{Err, ap, ◌∙◌}
use Rattle.std.proofs.lemmas.Result.{err_from_is_err_and}
use Rattle.book.specs.Views.{table}
use Rattle.book.proofs.Whole.{all_refused, starts_refused, relevant_fit, relevant_rise, always_in_refused, goal_refused, actions_refused, left_over, all_read}
use Rattle.book.proofs.opening.check_entries.Goals as goal

pub returns-in_err-always_at : goal.returns-in_err-always_at
returns-in_err-always_at c =
    let t = table c.args.table.now in
    let p = err_from_is_err_and c.from_residual.result c.from_residual.ensures.1 in
    let w = all_refused t c.from_residual.result c.in_err-always_at.field-0.0 (p.1 ∙ ap Err p.2) (starts_refused t c.in_err-always_at.field-0.0 c.in_err-always_at.ensures) in
    record { same = w.same; placed = w.placed }

pub check_always-requires : goal.check_always-requires
check_always-requires c =
    let t = table c.args.table.now in
    let i = c.in_ok-always_at.always_at in
    let e = c.in_ok-always_at.ensures in
    record { long = relevant_fit t i e (operands_long c.args.table.now.entries c.args.table.now.whole); rising = relevant_rise t i e (operands_long c.args.table.now.entries c.args.table.now.whole) }

pub returns-in_err-goal_at : goal.returns-in_err-goal_at
returns-in_err-goal_at c =
    let t = table c.args.table.now in
    let i = c.in_ok-always_at.always_at in
    let p = err_from_is_err_and c.from_residual-in_err-goal_at.result c.from_residual-in_err-goal_at.ensures.1 in
    let w = all_refused t c.from_residual-in_err-goal_at.result c.in_err-goal_at.field-0.0 (p.1 ∙ ap Err p.2) (always_in_refused t i c.in_ok-always_at.ensures c.in_err-goal_at.field-0.0 c.in_err-goal_at.ensures) in
    record { same = w.same; placed = w.placed }

pub returns-in_err-actions_at : goal.returns-in_err-actions_at
returns-in_err-actions_at c =
    let t = table c.args.table.now in
    let i = c.in_ok-always_at.always_at in
    let j = c.in_ok-goal_at.goal_at in
    let p = err_from_is_err_and c.from_residual-in_err-actions_at.result c.from_residual-in_err-actions_at.ensures.1 in
    let w = all_refused t c.from_residual-in_err-actions_at.result c.in_err-actions_at.field-0.0 (p.1 ∙ ap Err p.2) (goal_refused t i c.in_ok-always_at.ensures j c.in_ok-goal_at.ensures c.in_err-actions_at.field-0.0 c.in_err-actions_at.ensures) in
    record { same = w.same; placed = w.placed }

pub returns-in_err-end : goal.returns-in_err-end
returns-in_err-end c =
    let t = table c.args.table.now in
    let i = c.in_ok-always_at.always_at in
    let j = c.in_ok-goal_at.goal_at in
    let k = c.in_ok-actions_at.actions_at in
    let p = err_from_is_err_and c.from_residual-in_err-end.result c.from_residual-in_err-end.ensures.1 in
    let w = all_refused t c.from_residual-in_err-end.result c.in_err-end.field-0.0 (p.1 ∙ ap Err p.2) (actions_refused t i c.in_ok-always_at.ensures j c.in_ok-goal_at.ensures k c.in_ok-actions_at.ensures c.in_err-end.field-0.0 c.in_err-end.ensures) in
    record { same = w.same; placed = w.placed }

pub returns-then-end-table : goal.returns-then-end-table
returns-then-end-table c =
    let t = table c.args.table.now in
    let i = c.in_ok-always_at.always_at in
    let j = c.in_ok-goal_at.goal_at in
    let k = c.in_ok-actions_at.actions_at in
    let w = all_refused t _ _ (ap Err c.new.ensures) (left_over t i c.in_ok-always_at.ensures j c.in_ok-goal_at.ensures k c.in_ok-actions_at.ensures c.in_ok-end.end c.in_ok-end.ensures c.if-end-table.true) in
    record { same = w.same; placed = w.placed }

pub returns : goal.returns
returns c =
    let t = table c.args.table.now in
    let i = c.in_ok-always_at.always_at in
    let j = c.in_ok-goal_at.goal_at in
    let k = c.in_ok-actions_at.actions_at in
    let w = all_read t i c.in_ok-always_at.ensures j c.in_ok-goal_at.ensures k c.in_ok-actions_at.ensures c.in_ok-end.end c.in_ok-end.ensures c.if-end-table.false in
    record { same = w.same; placed = w.placed }
