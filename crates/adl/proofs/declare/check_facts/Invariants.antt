use Rattle.std.proofs.Common.{◌≡◌, ◌-◌}
use Rattle.table.specs.Reading.{many}
use Rattle.adl.specs.Reads.{fact}
use Rattle.adl.specs.Views.{table, answer}
use Rattle.adl.proofs.declare.check_facts.Given as goal

-- the facts that are left, read from here, answer as all facts do
abbrev pub invariant-loop : goal.invariant-loop
invariant-loop l =
    answer (many (fact (table l.table)) (l.table.sizes.facts - l.counter) l.next)
    ≡ answer (many (fact (table l.table)) l.table.sizes.facts l.at)
