-- A book that grows, and numbers at the front of an array.
use Rattle.std.specs.Prelude.{◌≡◌, ℕ, ◌≤◌, ◌++◌, List, map, length, drop}
use Rattle.table.specs.Entries.{coded}
use Rattle.table.specs.Reading.{Entry}
use Rattle.instantiate.specs.declared.growing.Growing.{Growing}

-- these entries were appended: they are counted, and they are there as long as they are no more than there is room for
pub record Grown (es : List Entry) (g : Growing) : Type 0 where
  pub total : g.total ≡ length es
  pub kept : g.total ≤ g.most → map coded g.entries.items ≡ es

-- these numbers stand at the front, and past them the array is as it was
abbrev pub over : List ℕ → List ℕ → List ℕ
over xs old = xs ++ drop (length xs) old
