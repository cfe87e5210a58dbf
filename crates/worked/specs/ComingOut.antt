-- What the worked tasks come out as, through every call: loading, instantiating, opening, and the runs of the task and of its book.
use Rattle.std.specs.Prelude.{◌≡◌, ℕ, ◌≤◌, List, map, length, Ok}
use Rattle.model.specs.Trees.{Task, atoms}
use Rattle.model.specs.Meaning.{State}
use Rattle.model.specs.Books.{Book, book}
use Rattle.adl.specs.Loads.{loads, given, task_of}
use Rattle.book.specs.Opens.{opens, book_of}
use Rattle.book.specs.Opens as books
use Rattle.instantiate.specs.Outcome.{instantiates, book_entries, literals_needed, kinds_of, operands_of}
use Rattle.protocol.specs.Machines.{unbegun, answers}
use Rattle.protocol.specs.TaskCalls.{task_machine}
use Rattle.protocol.specs.BookCalls.{facts, book_machine}
use Rattle.protocol.specs.declared.calls.Call as code
use Rattle.agreement.specs.Agreement.{call_of}
use Rattle.worked.specs.declared.case.Case.{Case}
use Rattle.worked.specs.Tables.{task_table, book_table}
use Rattle.worked.specs.Calls.{calls, in_task, in_book}

-- the task that stands in its table, and the book that stands in its book's table
abbrev pub the_task : Case → Task
the_task c = task_of (given (task_table c).sizes (task_table c).kinds (task_table c).operands)

abbrev pub the_book : Case → Book
the_book c = book_of (books.given (book_table c).sizes (book_table c).kinds (book_table c).operands)

pub record ComesOut (c : Case) : Type 0 where
  -- the task's table loads
  pub loads : loads (task_table c).sizes (task_table c).kinds (task_table c).operands ≡ Ok tt
  -- with room in the list and in the arrays, instantiating answers the sizes of the book's table, and writes its arrays
  pub sizes : (room kinds operands : ℕ) → literals_needed (the_task c) ≤ room → (book_table c).sizes.entries ≤ kinds → (book_table c).sizes.entries ≤ operands
      → instantiates (the_task c) room kinds operands ≡ Ok (book_table c).sizes
  pub kinds : kinds_of (book_entries (the_task c)) ≡ (book_table c).kinds
  pub operands : operands_of (book_entries (the_task c)) ≡ (book_table c).operands
  -- the book's table opens, and the book of the task stands in it
  pub opens : opens (book_table c).sizes (book_table c).kinds (book_table c).operands ≡ Ok tt
  pub stands : the_book c ≡ book (the_task c)
  -- over a store and an image that are large enough, whatever they hold at first, each call is answered as it should be, in the task's run
  -- and in the book's
  pub task_answers : (size : ℕ) (s : State) (im : List ℕ) → atoms (the_task c) ≤ size → atoms (the_task c) ≤ length im
      → (cs : List code.Call) → map call_of cs ≡ calls c → answers (task_machine (the_task c) size) (unbegun s im) cs ≡ in_task c
  pub book_answers : (size : ℕ) (s : State) (im : List ℕ) → facts (the_book c) ≤ size → facts (the_book c) ≤ length im
      → (cs : List code.Call) → map call_of cs ≡ calls c → answers (book_machine (the_book c) size) (unbegun s im) cs ≡ in_book c

-- every worked task does
abbrev pub WorkedTasksComeOut : Type 0
WorkedTasksComeOut = (c : Case) → ComesOut c
