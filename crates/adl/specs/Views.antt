-- What the values of the code stand for.
use Rattle.std.specs.Prelude.{ℕ, Result}
use Rattle.fault.specs.declared.Fault.{Fault}
use Rattle.fault.specs.declared.Layer.TheVariants as layer
use Rattle.table.specs.Reading.{Entry, Out}
use Rattle.table.specs.Answers as read
use Rattle.adl.specs.Tables as spec
use Rattle.adl.specs.Loads.{given}
use Rattle.adl.specs.declared.task_table.TaskTable.{TaskTable}
use Rattle.adl.specs.declared.reader.Reader.{Reader}

-- the table of a record
abbrev pub table : TaskTable → spec.Table
table t = given t.sizes t.entries.kinds.now t.entries.operands.now

-- the table that a reader reads
abbrev pub table_read : Reader → spec.Table
table_read r = table r.table.now

-- what is known around the place of a reader
abbrev pub around : Reader → spec.Around
around r = record { variables = r.variables; quantifiers = r.quantifiers; start = r.start }

-- the place after what was read, or the fault
abbrev pub answer : {A : Type 0} → Out A → Result ℕ Fault
answer = read.answer layer.Task

-- the entry that was read, or the fault
abbrev pub heading : Out Entry → Result Entry Fault
heading = read.heading layer.Task
