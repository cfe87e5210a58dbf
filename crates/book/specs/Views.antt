-- What the values of the code stand for.
use Rattle.std.specs.Prelude.{ℕ, Result}
use Rattle.fault.specs.declared.Fault.{Fault}
use Rattle.fault.specs.declared.Layer.TheVariants as layer
use Rattle.table.specs.Reading.{Entry, Out}
use Rattle.table.specs.Answers as read
use Rattle.book.specs.Tables as spec
use Rattle.book.specs.Opens.{given}
use Rattle.book.specs.declared.book_table.BookTable.{BookTable}

-- the table of a record
abbrev pub table : BookTable → spec.Table
table t = given t.sizes t.entries.kinds.now t.entries.operands.now

-- the place after what was read, or the fault
abbrev pub answer : {A : Type 0} → Out A → Result ℕ Fault
answer = read.answer layer.Book

-- the entry that was read, or the fault
abbrev pub heading : Out Entry → Result Entry Fault
heading = read.heading layer.Book
