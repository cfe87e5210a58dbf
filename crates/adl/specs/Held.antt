-- What a loaded record holds.
use Rattle.model.specs.Trees as tree
use Rattle.adl.specs.Tables.{Table}
use Rattle.adl.specs.Loads.{task_of}
use Rattle.adl.specs.Views.{table}
use Rattle.adl.specs.declared.task.Task.{Task}

-- the table
abbrev pub held : Task → Table
held t = table t.table

-- the task
abbrev pub tree_of : Task → tree.Task
tree_of t = task_of (held t)
