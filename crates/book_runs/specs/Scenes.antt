-- What a scene stands for.
use Rattle.model.specs.Meaning.{State}
use Rattle.book.specs.Tables.{Table}
use Rattle.book.specs.Views.{table}
use Rattle.protocol.specs.Shown.{shown}
use Rattle.book_runs.specs.declared.scene.Scene.{Scene}

-- the table of its book
abbrev pub table_in : Scene → Table
table_in s = table s.table.now

-- the state that its image shows
abbrev pub state_in : Scene → State
state_in s = shown s.image.now
