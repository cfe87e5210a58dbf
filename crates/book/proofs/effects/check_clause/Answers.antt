use Rattle.std.proofs.Common.{◌∙◌}
use Rattle.book.specs.Views.{table}
use Rattle.book.proofs.Parts.{when_goes}
use Rattle.book.proofs.effects.check_clause.Goals as goal

pub returns-in_ok-literals-in-When : goal.returns-in_ok-literals-in-When
returns-in_ok-literals-in-When c =
    let h = c.in_ok-head.head in
    c.check_literals.ensures
    ∙ when_goes (table c.args.table.now) c.args.at h.kind h.operand c.in_ok-head.ensures.same c.in-When.is c.in_ok-literals-in-When.literals c.in_ok-literals-in-When.ensures
