use Rattle.std.proofs.Common.{◌≡◌, ◌-◌}
use Rattle.table.specs.Reading.{many}
use Rattle.book.specs.Reads.{ground}
use Rattle.book.specs.Views.{table, answer}
use Rattle.book.proofs.check.+check_ground.Given as goal

abbrev pub decreases-check_ground : goal.decreases-check_ground
decreases-check_ground l = l.levels

-- the parts that are left, read from here, answer as all parts do
abbrev pub invariant-loop : goal.invariant-loop
invariant-loop l =
    answer (many (ground (table l.table) (l.levels - 1)) (l.end - l.counter) l.next)
    ≡ answer (many (ground (table l.table) (l.levels - 1)) l.end l.initial.next)
