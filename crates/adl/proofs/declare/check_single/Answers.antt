use Rattle.std.proofs.Common.{Err, ap, ◌∙◌}
use Rattle.std.proofs.lemmas.Result.{err_from_is_err_and}
use Rattle.table.specs.Reading.{good}
use Rattle.adl.specs.Tables.{outermost, head}
use Rattle.adl.specs.Views.{table, heading}
use Rattle.table.specs.Entries.{coded}
use Rattle.fault.specs.declared.Layer.TheVariants as layer
use Rattle.table.proofs.Answering.{head_refused}
use Rattle.adl.proofs.Heads.{alike, head_goes}
use Rattle.adl.proofs.declare.check_single.Goals as goal

pub returns-in_err-head_at : goal.returns-in_err-head_at
returns-in_err-head_at c =
    let i = c.args.at in
    let p = err_from_is_err_and c.from_residual.result c.from_residual.ensures.1 in
    let e = c.in_err-head_at.ensures.same ∙ alike (λ t a. heading (head t c.args.place a i)) c.outermost.ensures.table c.outermost.ensures.around in
    p.1 ∙ ap Err p.2
    ∙ head_refused layer.Task (head (table c.args.table.now) c.args.place (outermost 0 i) i) (λ x j. good x.operand j) c.in_err-head_at.field-0.0 e

pub returns : goal.returns
returns c =
    let i = c.args.at in
    let e = c.in_ok-head_at.ensures.same ∙ alike (λ t a. heading (head t c.args.place a i)) c.outermost.ensures.table c.outermost.ensures.around in
    head_goes (table c.args.table.now) c.args.place (outermost 0 i) i (coded c.in_ok-head_at.field-0) (λ x j. good x.operand j) e
