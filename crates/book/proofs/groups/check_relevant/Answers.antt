use Rattle.std.proofs.Common.{◌∙◌}
use Rattle.book.specs.Views.{table}
use Rattle.book.proofs.Atoms.{relevant_answer}
use Rattle.book.proofs.groups.check_relevant.Goals as goal

pub returns : goal.returns
returns c = c.check_members.ensures ∙ relevant_answer (table c.args.table.now)
