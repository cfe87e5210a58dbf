use Rattle.std.proofs.Common.{sym}
use Rattle.files.proofs.Loaded.{opened_as}
use Rattle.files.proofs.reading.check_book_file.Goals as goal

pub returns-clause-answers : goal.returns-clause-answers
returns-clause-answers c =
    let (kinds, operands) = c.in_ok-sizes.ensures.filled in
    opened_as c.args.input.now c.args.kinds.now c.args.operands.now _ _ c.in_ok-sizes.sizes (sym c.in_ok-sizes.ensures.answers) c.in_ok-sizes.ensures.sizes kinds operands _ c.open.ensures.answers
