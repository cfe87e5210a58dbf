use Rattle.std.proofs.Common.{◌≡◌, ◌-◌, ◌≤◌}
use Rattle.table.specs.Reading.{series}
use Rattle.adl.specs.Reads.{predicate, with_atoms}
use Rattle.adl.specs.Views.{table, answer}
use Rattle.adl.proofs.Declared.{Counts}
use Rattle.adl.proofs.declare.check_predicates.Given as goal

-- the predicates that are left, read from here, answer as all predicates do, and with the atoms so far they make the whole
abbrev pub invariant-loop : goal.invariant-loop
invariant-loop l =
    (l.so_far.atoms ≤ 65536)
    × (answer (series (predicate (table l.table)) (with_atoms (table l.table)) (l.table.sizes.predicates - l.counter) l.so_far.atoms l.so_far.end)
    ≡ answer (series (predicate (table l.table)) (with_atoms (table l.table)) l.table.sizes.predicates 0 l.at))
    × Counts (table l.table) (l.table.sizes.predicates - l.counter) l.so_far.atoms l.so_far.end (series (predicate (table l.table)) (with_atoms (table l.table)) l.table.sizes.predicates 0 l.at)
