use Rattle.std.proofs.Common.{◌≡◌, ◌≤◌, ◌++◌, map, length}
use Rattle.table.specs.Entries.{coded}
use Rattle.table.specs.Reading.{entry}
use Rattle.instantiate.specs.Verdicts.{always_of}
use Rattle.instantiate.proofs.preface.write_always.Given as goal

-- those of the atoms so far that are always true were written
abbrev pub invariant-loop-atom : goal.invariant-loop-atom
invariant-loop-atom l = record {
  wrote : map coded l.out.items ≡ map coded l.initial.out.items ++ map (entry 21) (always_of l.verdicts l.atom);
  count : l.count ≡ length (always_of l.verdicts l.atom);
  few : l.count ≤ l.atom;
}
