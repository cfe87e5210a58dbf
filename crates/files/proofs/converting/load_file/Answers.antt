use Rattle.std.proofs.Common.{Err, sym, ap, ◌∙◌}
use Rattle.std.proofs.lemmas.Result.{err_from_is_err_and}
use Rattle.table.specs.Answers.{whether}
use Rattle.adl.specs.Loads.{task_of}
use Rattle.files.proofs.Loaded.{loaded_as, task_loaded}
use Rattle.files.proofs.converting.load_file.Goals as goal

pub returns-in_err-load-clause-answers : goal.returns-in_err-load-clause-answers
returns-in_err-load-clause-answers c =
    let (kinds, operands) = c.in_ok-sizes.ensures.filled in
    let p = err_from_is_err_and c.from_residual-in_err-load.result c.from_residual-in_err-load.ensures.1 in
    ap whether p.1 ∙ ap Err p.2
    ∙ loaded_as c.args.input.now c.args.kinds.now c.args.operands.now _ _ c.in_ok-sizes.sizes (sym c.in_ok-sizes.ensures.answers) c.in_ok-sizes.ensures.sizes kinds operands _ c.in_err-load.ensures.answers

pub returns-clause-answers : goal.returns-clause-answers
returns-clause-answers c =
    let (kinds, operands) = c.in_ok-sizes.ensures.filled in
    loaded_as c.args.input.now c.args.kinds.now c.args.operands.now _ _ c.in_ok-sizes.sizes (sym c.in_ok-sizes.ensures.answers) c.in_ok-sizes.ensures.sizes kinds operands _ c.in_ok-load.ensures.answers

pub returns-clause-loaded : goal.returns-clause-loaded
returns-clause-loaded c =
    let (kinds, operands) = c.in_ok-sizes.ensures.filled in
    ap task_of c.in_ok-load.ensures.fills ∙ task_loaded c.args.input.now c.args.kinds.now c.args.operands.now _ _ c.in_ok-sizes.sizes (sym c.in_ok-sizes.ensures.answers) c.in_ok-sizes.ensures.sizes kinds operands
