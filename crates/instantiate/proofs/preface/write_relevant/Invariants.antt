use Rattle.std.proofs.Common.{◌≡◌, ◌≤◌, ◌++◌, map, length}
use Rattle.store.specs.Packed.{facts_of}
use Rattle.table.specs.Entries.{coded}
use Rattle.book_theorems.specs.Writes.{write_start}
use Rattle.instantiate.specs.Verdicts.{starts_of}
use Rattle.instantiate.proofs.preface.write_relevant.Given as goal

-- the relevant ones of the atoms so far were written
abbrev pub invariant-loop-atom : goal.invariant-loop-atom
invariant-loop-atom l = record {
  wrote : map coded l.out.items ≡ map coded l.initial.out.items ++ map write_start (starts_of (facts_of l.facts) l.verdicts l.atom);
  count : l.count ≡ length (starts_of (facts_of l.facts) l.verdicts l.atom);
  few : l.count ≤ l.atom;
}
