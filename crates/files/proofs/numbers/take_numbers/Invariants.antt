use Rattle.std.proofs.Common.{◌≡◌, ◌*◌, ◌≤◌, length, drop}
use Rattle.instantiate.specs.Growing.{over}
use Rattle.files.specs.Formats.{numbers as numbers_in}
use Rattle.files.proofs.numbers.take_numbers.Given as goal

-- the numbers so far are taken
abbrev pub invariant-loop-number : goal.invariant-loop-number
invariant-loop-number l = record {
  rest : l.rest ≡ drop (4 * l.number-index) l.bytes;
  inside : 4 * l.number-index ≤ length l.bytes;
  taken : l.numbers ≡ over (numbers_in l.number-index l.bytes) l.initial.numbers;
}
