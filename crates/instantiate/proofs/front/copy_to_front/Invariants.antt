use Rattle.std.proofs.Common.{◌≡◌, map, take}
use Rattle.table.specs.Entries.{coded}
use Rattle.instantiate.specs.Growing.{over}
use Rattle.instantiate.specs.Outcome.{kinds_of, operands_of}
use Rattle.instantiate.proofs.front.copy_to_front.Given as goal

-- the entries so far stand at the front
abbrev pub invariant-loop-i : goal.invariant-loop-i
invariant-loop-i l = record {
  kinds : l.kinds ≡ over (kinds_of (map coded (take l.i l.entries))) l.initial.kinds;
  operands : l.operands ≡ over (operands_of (map coded (take l.i l.entries))) l.initial.operands;
}
