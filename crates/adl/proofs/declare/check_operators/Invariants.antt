use Rattle.std.proofs.Common.{◌≡◌, ◌-◌, ◌++◌, map, length, take}
use Rattle.table.specs.Reading.{many, starts}
use Rattle.adl.specs.Reads.{operator}
use Rattle.adl.specs.Kept.{places_from}
use Rattle.adl.specs.Views.{table, answer}
use Rattle.adl.proofs.declare.check_operators.Given as goal

-- the operators that are left, read from here, answer as all operators do; the places so far and theirs are all places
abbrev pub invariant-loop-i : goal.invariant-loop-i
invariant-loop-i l =
    (answer (many (operator (table l.table)) (l.table.sizes.operators - l.i) l.all.end)
    ≡ answer (many (operator (table l.table)) l.table.sizes.operators l.at))
    × (take l.i l.all.places ++ map (places_from (table l.table)) (starts (operator (table l.table)) (l.table.sizes.operators - l.i) l.all.end)
    ≡ map (places_from (table l.table)) (starts (operator (table l.table)) l.table.sizes.operators l.at))
    × (length l.all.places ≡ 32)
