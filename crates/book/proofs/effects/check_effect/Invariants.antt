use Rattle.std.proofs.Common.{◌≡◌, ◌-◌}
use Rattle.table.specs.Reading.{many}
use Rattle.book.specs.Reads.{clause}
use Rattle.book.specs.Views.{table, answer}
use Rattle.book.proofs.effects.check_effect.Given as goal

-- the parts that are left, read from here, answer as all parts do
abbrev pub invariant-loop : goal.invariant-loop
invariant-loop l =
    answer (many (clause (table l.table)) (l.end - l.counter) l.next)
    ≡ answer (many (clause (table l.table)) l.end l.initial.next)
