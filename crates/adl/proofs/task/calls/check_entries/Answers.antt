use Rattle.std.proofs.Common.{◌≡◌, Ok, Err, refl, ap, ◌∙◌}
use Rattle.std.proofs.lemmas.Result.{err_from_is_err_and}
use Rattle.adl.specs.Tables.{outermost}
use Rattle.adl.specs.Reads.{formula}
use Rattle.adl.specs.Views.{table, answer}
use Rattle.adl.proofs.Heads.{alike}
use Rattle.adl.proofs.Whole.{all_refused, types_refused, predicates_refused, facts_refused, goal_refused, operators_refused, left_over, all_read}
use Rattle.adl.proofs.task.calls.check_entries.Goals as goal

pub returns-in_err-predicates_at : goal.returns-in_err-predicates_at
returns-in_err-predicates_at c =
    let t = table c.args.table.now in
    let p = err_from_is_err_and c.from_residual.result c.from_residual.ensures.1 in
    let w = all_refused t c.from_residual.result c.in_err-predicates_at.field-0.0 (p.1 ∙ ap Err p.2) (types_refused t c.in_err-predicates_at.field-0.0 c.in_err-predicates_at.ensures) in
    record { same = w.same; placed = w.placed }

pub returns-in_err-predicates : goal.returns-in_err-predicates
returns-in_err-predicates c =
    let t = table c.args.table.now in
    let p = err_from_is_err_and c.from_residual-in_err-predicates.result c.from_residual-in_err-predicates.ensures.1 in
    let w = all_refused t c.from_residual-in_err-predicates.result c.in_err-predicates.field-0.0 (p.1 ∙ ap Err p.2) (predicates_refused t c.in_ok-predicates_at.predicates_at c.in_ok-predicates_at.ensures c.in_err-predicates.field-0.0 c.in_err-predicates.ensures.same) in
    record { same = w.same; placed = w.placed }

pub returns-in_err-goal_at : goal.returns-in_err-goal_at
returns-in_err-goal_at c =
    let t = table c.args.table.now in
    let p = err_from_is_err_and c.from_residual-in_err-goal_at.result c.from_residual-in_err-goal_at.ensures.1 in
    let w = all_refused t c.from_residual-in_err-goal_at.result c.in_err-goal_at.field-0.0 (p.1 ∙ ap Err p.2) (facts_refused t c.in_ok-predicates_at.predicates_at c.in_ok-predicates_at.ensures c.in_ok-predicates.predicates.end c.in_ok-predicates.ensures.same c.in_err-goal_at.field-0.0 c.in_err-goal_at.ensures) in
    record { same = w.same; placed = w.placed }

pub returns-in_err-operators_at : goal.returns-in_err-operators_at
returns-in_err-operators_at c =
    let t = table c.args.table.now in
    let k = c.in_ok-goal_at.goal_at in
    let goal : Err c.in_err-operators_at.field-0.0 ≡ answer (formula t 256 (outermost 0 k) k) = c.in_err-operators_at.ensures ∙ alike (λ t a. answer (formula t 256 a k)) c.outermost.ensures.table c.outermost.ensures.around in
    let p = err_from_is_err_and c.from_residual-in_err-operators_at.result c.from_residual-in_err-operators_at.ensures.1 in
    let w = all_refused t c.from_residual-in_err-operators_at.result c.in_err-operators_at.field-0.0 (p.1 ∙ ap Err p.2) (goal_refused t c.in_ok-predicates_at.predicates_at c.in_ok-predicates_at.ensures c.in_ok-predicates.predicates.end c.in_ok-predicates.ensures.same k c.in_ok-goal_at.ensures c.in_err-operators_at.field-0.0 goal) in
    record { same = w.same; placed = w.placed }

pub returns-in_err-operators : goal.returns-in_err-operators
returns-in_err-operators c =
    let t = table c.args.table.now in
    let k = c.in_ok-goal_at.goal_at in
    let goal : Ok c.in_ok-operators_at.operators_at ≡ answer (formula t 256 (outermost 0 k) k) = c.in_ok-operators_at.ensures ∙ alike (λ t a. answer (formula t 256 a k)) c.outermost.ensures.table c.outermost.ensures.around in
    let p = err_from_is_err_and c.from_residual-in_err-operators.result c.from_residual-in_err-operators.ensures.1 in
    let w = all_refused t c.from_residual-in_err-operators.result c.in_err-operators.field-0.0 (p.1 ∙ ap Err p.2) (operators_refused t c.in_ok-predicates_at.predicates_at c.in_ok-predicates_at.ensures c.in_ok-predicates.predicates.end c.in_ok-predicates.ensures.same k c.in_ok-goal_at.ensures c.in_ok-operators_at.operators_at goal c.in_err-operators.field-0.0 c.in_err-operators.ensures.same) in
    record { same = w.same; placed = w.placed }

pub returns-then-operators-table : goal.returns-then-operators-table
returns-then-operators-table c =
    let t = table c.args.table.now in
    let k = c.in_ok-goal_at.goal_at in
    let goal : Ok c.in_ok-operators_at.operators_at ≡ answer (formula t 256 (outermost 0 k) k) = c.in_ok-operators_at.ensures ∙ alike (λ t a. answer (formula t 256 a k)) c.outermost.ensures.table c.outermost.ensures.around in
    let w = all_refused t _ _ (ap Err c.new.ensures) (left_over t c.in_ok-predicates_at.predicates_at c.in_ok-predicates_at.ensures c.in_ok-predicates.predicates.end c.in_ok-predicates.ensures.same k c.in_ok-goal_at.ensures c.in_ok-operators_at.operators_at goal c.in_ok-operators.operators.end c.in_ok-operators.ensures.same c.if-operators-table.true) in
    record { same = w.same; placed = w.placed }

pub returns : goal.returns
returns c =
    let t = table c.args.table.now in
    let k = c.in_ok-goal_at.goal_at in
    let goal : Ok c.in_ok-operators_at.operators_at ≡ answer (formula t 256 (outermost 0 k) k) = c.in_ok-operators_at.ensures ∙ alike (λ t a. answer (formula t 256 a k)) c.outermost.ensures.table c.outermost.ensures.around in
    let ops = c.in_ok-operators.operators in
    let w = all_read t c.in_ok-predicates_at.predicates_at c.in_ok-predicates_at.ensures c.in_ok-predicates.predicates.end c.in_ok-predicates.ensures.same k c.in_ok-goal_at.ensures c.in_ok-operators_at.operators_at goal c.in_ok-operators.operators.end c.in_ok-operators.ensures.same (record { atoms = c.in_ok-predicates.predicates.atoms; goal_at = k; operators = ops }) c.if-operators-table.false c.in_ok-predicates.ensures.counted refl c.in_ok-operators.ensures.places in
    record { same = w.same; placed = w.placed }
