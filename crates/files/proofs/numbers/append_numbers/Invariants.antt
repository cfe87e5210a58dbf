use Rattle.std.proofs.Common.{◌≡◌, ◌*◌, ◌+◌, ℕ, List, ◌++◌, length, take}
use Rattle.instantiate.specs.Growing.{over}
use Rattle.files.specs.Formats.{bytes_of}
use Rattle.files.proofs.numbers.append_numbers.Given as goal

-- the numbers so far are written
abbrev pub invariant-loop-number : goal.invariant-loop-number
invariant-loop-number l = record {
  next : l.next ≡ l.at + 4 * l.number-index;
  long : length l.output ≡ length l.initial.output;
  wrote : (written before : List ℕ) → length written ≡ l.at → l.initial.output ≡ over written before → l.output ≡ over (written ++ bytes_of (take l.number-index l.numbers)) before;
}
