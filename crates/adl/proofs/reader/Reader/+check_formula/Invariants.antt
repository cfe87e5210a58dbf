use Rattle.std.proofs.Common.{◌≡◌, ◌-◌}
use Rattle.table.specs.Reading.{many}
use Rattle.adl.specs.Reads.{formula}
use Rattle.adl.specs.Views.{table, around, answer}
use Rattle.adl.proofs.reader.Reader.+check_formula.Given as goal

abbrev pub decreases-check_formula : goal.decreases-check_formula
decreases-check_formula l = l.room

-- the parts that are left, read from here, answer as all parts do
abbrev pub invariant-loop : goal.invariant-loop
invariant-loop l =
    answer (many (formula (table l.self.table.now) (l.room - 1) (around l.self)) (l.end - l.counter) l.next)
    ≡ answer (many (formula (table l.self.table.now) (l.room - 1) (around l.self)) l.end l.initial.next)
