-- What comes out where a worked task is loaded, its book written and opened, and its calls played on both.
use Rattle.std.specs.Prelude.{◌≡◌, length, take}
use Rattle.worked.specs.declared.case.Case.{Case}
use Rattle.worked.specs.Tables.{book_table}
use Rattle.worked.specs.Calls.{calls, in_task, in_book}
use Rattle.worked_tasks.specs.declared.outcome.Outcome.{Outcome}

-- the book is the one that is written down, and both runs answer as is written down
pub record CameOut (c : Case) (o : Outcome) : Type 0 where
  pub sizes : o.sizes ≡ (book_table c).sizes
  pub kinds : take (book_table c).sizes.entries o.kinds ≡ (book_table c).kinds
  pub operands : take (book_table c).sizes.entries o.operands ≡ (book_table c).operands
  pub of_task : take (length (calls c)) o.of_task ≡ in_task c
  pub of_book : take (length (calls c)) o.of_book ≡ in_book c
