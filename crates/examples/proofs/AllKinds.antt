-- The lamps, by computing.
use Rattle.std.proofs.Common.{refl}
use Rattle.model.specs.Lists.{below}
use Rattle.adl.specs.Reads.{task, formula, effect, consequent}
use Rattle.adl_theorems.proofs.Sound.{what_loads_was_written}
use Rattle.book.specs.Reads.{book, ground, objects}
use Rattle.book_theorems.proofs.Sound.{what_opens_was_written}
use Rattle.book_theorems.specs.Writes.{write_book}
use Rattle.book_of_task.specs.Places.{first_clash}
use Rattle.worked.proofs.Rooms.{task_tells, book_tells}
use Rattle.examples.specs.Lamps.{LampsByExample, lamps, lamps_table, lamps_book, lamps_book_table, story, told_so}

pub all_kinds : LampsByExample
unfolding task formula effect consequent below book ground objects write_book first_clash
all_kinds = record {
  loads = refl;
  stands = refl;
  written = what_loads_was_written lamps_table.sizes lamps_table.kinds lamps_table.operands refl;
  becomes = refl;
  kinds = refl;
  operands = refl;
  opens = refl;
  book_stands = refl;
  book_written = what_opens_was_written lamps_book_table.sizes lamps_book_table.kinds lamps_book_table.operands refl;
  literals = refl;
  sizes = refl;
  on = refl;
  out = refl;
  cut = refl;
  clash = refl;
  in_task = task_tells lamps story told_so (λ s. refl);
  in_book = book_tells lamps_book story told_so (λ s. refl);
}
