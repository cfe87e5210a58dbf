use Rattle.table.proofs.Lengths.{operands_long}
use Rattle.std.proofs.Common.{◌≡◌}
use Rattle.protocol.specs.Names.{name_of}
use Rattle.book.specs.Finds.{action_place}
use Rattle.book.specs.Held.{held}
use Rattle.book.proofs.Searching.{Passed}
use Rattle.book.proofs.book.Book.find.Given as goal

-- here the next action begins, and the names before it come before the one sought
abbrev pub invariant-loop-k : goal.invariant-loop-k
invariant-loop-k l =
    (l.at ≡ action_place (held l.self) l.k)
    × Passed (held l.self) l.self.formed (operands_long l.self.table.entries l.self.table.whole) (name_of l.name) l.k
