-- The action of a name in a book.
use Rattle.std.specs.Prelude.{List, [], ◌∷◌}
use Rattle.model.specs.Trees.{Task, Name}
use Rattle.model.specs.Settling.{round_two}
use Rattle.model.specs.Books as tree
use Rattle.model.specs.Books.{actions}

-- the action of a name, or none if its precondition is FALSE
abbrev pub actions_by : Task → Name → List tree.Action
actions_by t m = actions t (round_two t) (m ∷ [])
