use Rattle.std.proofs.Common.{◌≡◌}
use Rattle.book.specs.Finds.{action_place}
use Rattle.book.specs.Held.{held}
use Rattle.book.proofs.book.Book.action_at.Given as goal

-- here the next action begins
abbrev pub invariant-loop : goal.invariant-loop
invariant-loop l = l.at ≡ action_place (held l.self) l.counter
