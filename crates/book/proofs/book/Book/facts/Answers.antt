use Rattle.table.proofs.Lengths.{operands_long}
use Rattle.std.proofs.Common.{sym}
use Rattle.book.specs.Held.{held}
use Rattle.book.proofs.Standing.{opened}
use Rattle.book.proofs.book.Book.facts.Goals as goal

pub returns : goal.returns
returns c = let b = c.args.self.now in sym (opened (held b) b.formed (operands_long b.table.entries b.table.whole)).relevant
