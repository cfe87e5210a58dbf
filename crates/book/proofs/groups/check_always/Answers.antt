use Rattle.std.proofs.Common.{◌∙◌}
use Rattle.book.specs.Views.{table}
use Rattle.book.proofs.Atoms.{always_answer}
use Rattle.book.proofs.groups.check_always.Goals as goal

pub returns : goal.returns
returns c = c.check_members.ensures ∙ always_answer (table c.args.table.now) c.args.from
