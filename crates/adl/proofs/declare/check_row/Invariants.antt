use Rattle.std.proofs.Common.{◌≡◌, ◌-◌}
use Rattle.table.specs.Reading.{many}
use Rattle.adl.specs.Reads.{operand_at}
use Rattle.adl.specs.Views.{table, answer}
use Rattle.adl.proofs.declare.check_row.Given as goal

-- the entries that are left, read from here, answer as all do
abbrev pub invariant-loop : goal.invariant-loop
invariant-loop l =
    answer (many (operand_at (table l.table) l.place) (l.count - l.counter) l.next)
    ≡ answer (many (operand_at (table l.table) l.place) l.count l.at)
