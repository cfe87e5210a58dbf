use Rattle.std.proofs.Common.{sym, ◌∙◌}
use Rattle.book_runs.proofs.Opened.{start_inside, starts_by_kind}
use Rattle.book_runs.proofs.starts.starts_true.Goals as goal

pub is_kind-requires : goal.is_kind-requires
is_kind-requires c = start_inside c.args.book.now c.args.fact c.requires

pub returns : goal.returns
returns c = c.is_kind.ensures ∙ sym (starts_by_kind c.args.book.now c.args.fact c.requires)
