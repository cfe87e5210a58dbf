use Rattle.std.proofs.Common.{◌≡◌, ◌-◌}
use Rattle.table.specs.Reading.{many}
use Rattle.adl.specs.Reads.{effect}
use Rattle.adl.specs.Views.{table, around, answer}
use Rattle.adl.proofs.reader.Reader.+check_effect.Given as goal

abbrev pub decreases-check_effect : goal.decreases-check_effect
decreases-check_effect l = l.room

-- the parts that are left, read from here, answer as all parts do
abbrev pub invariant-loop : goal.invariant-loop
invariant-loop l =
    answer (many (effect (table l.self.table.now) (l.room - 1) (around l.self)) (l.end - l.counter) l.next)
    ≡ answer (many (effect (table l.self.table.now) (l.room - 1) (around l.self)) l.end l.initial.next)
