-- Lists of entries that begin with what they held before.
use Rattle.std.specs.Prelude.{◌≡◌, ◌++◌, List, map}
use Rattle.table.specs.Entries.{coded}
use Rattle.table.specs.Reading.{Entry}
use Rattle.table.specs.declared.arrays.Head.{Head}

-- some entries may have been appended
pub record Extends (before after : List Head) : Type 0 where
  pub more : List Entry
  pub entries : map coded after ≡ map coded before ++ more
