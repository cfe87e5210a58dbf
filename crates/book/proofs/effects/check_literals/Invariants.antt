use Rattle.std.proofs.Common.{◌≡◌, ◌-◌}
use Rattle.table.specs.Reading.{many}
use Rattle.book.specs.Reads.{literal}
use Rattle.book.specs.Views.{table, answer}
use Rattle.book.proofs.effects.check_literals.Given as goal

-- the literals that are left, read from here, answer as all literals do
abbrev pub invariant-loop : goal.invariant-loop
invariant-loop l =
    answer (many (literal (table l.table)) (l.end - l.counter) l.next)
    ≡ answer (many (literal (table l.table)) l.end l.initial.next)
