-- The tables of the worked tasks, and of their books.
use Rattle.std.specs.Prelude.{ℕ, List, [], ◌∷◌}
use Rattle.adl.specs.declared.sizes.Sizes as task
use Rattle.book.specs.declared.sizes.Sizes as book
use Rattle.worked.specs.declared.case.Case.{Case}
use Rattle.worked.specs.declared.case.Case.TheVariants.{CellPainted, GoalTrue, ForallOfNone, ExistsOfNone, OrOfNothing, AndOfNothing, NotOfNot, ObjectTwice, DeletedAndAdded}

-- the sizes and the two arrays of a table
pub record Table (S : Type 0) : Type 0 where
  pub sizes : S
  pub kinds : List ℕ
  pub operands : List ℕ

-- the sizes of a task's table, and those of a book's, in their order
abbrev pub task_sizes : ℕ → ℕ → ℕ → ℕ → ℕ → ℕ → task.Sizes
task_sizes objects types predicates facts operators entries =
    record { objects = objects; types = types; predicates = predicates; facts = facts; operators = operators; entries = entries }

abbrev pub book_sizes : ℕ → ℕ → ℕ → ℕ → ℕ → book.Sizes
book_sizes atoms relevant always actions entries =
    record { atoms = atoms; relevant = relevant; always = always; actions = actions; entries = entries }

-- the task
abbrev pub task_table : Case → Table task.Sizes
task_table CellPainted = record {
  sizes = task_sizes 2 1 2 1 1 18;
  kinds = 14 ∷ 15 ∷ 15 ∷ 2 ∷ 10 ∷ 2 ∷ 10 ∷ 16 ∷ 17 ∷ 5 ∷ 2 ∷ 11 ∷ 4 ∷ 9 ∷ 2 ∷ 11 ∷ 2 ∷ 11 ∷ [];
  operands = 3 ∷ 1 ∷ 1 ∷ 1 ∷ 0 ∷ 0 ∷ 0 ∷ 1 ∷ 0 ∷ 2 ∷ 1 ∷ 0 ∷ 0 ∷ 0 ∷ 0 ∷ 1 ∷ 0 ∷ 0 ∷ [];
}
task_table GoalTrue = record { sizes = task_sizes 1 0 0 0 0 1; kinds = 0 ∷ []; operands = 0 ∷ [] }
task_table ForallOfNone = record { sizes = task_sizes 1 1 0 0 0 3; kinds = 14 ∷ 8 ∷ 1 ∷ []; operands = 0 ∷ 0 ∷ 0 ∷ [] }
task_table ExistsOfNone = record { sizes = task_sizes 1 1 0 0 0 3; kinds = 14 ∷ 9 ∷ 0 ∷ []; operands = 0 ∷ 0 ∷ 0 ∷ [] }
task_table OrOfNothing = record { sizes = task_sizes 1 0 0 0 0 1; kinds = 6 ∷ []; operands = 0 ∷ [] }
task_table AndOfNothing = record { sizes = task_sizes 1 0 0 0 0 1; kinds = 5 ∷ []; operands = 0 ∷ [] }
task_table NotOfNot = record {
  sizes = task_sizes 1 0 1 0 1 7;
  kinds = 15 ∷ 4 ∷ 4 ∷ 2 ∷ 16 ∷ 0 ∷ 2 ∷ [];
  operands = 0 ∷ 0 ∷ 0 ∷ 0 ∷ 0 ∷ 0 ∷ 0 ∷ [];
}
task_table ObjectTwice = record {
  sizes = task_sizes 2 1 0 0 1 7;
  kinds = 14 ∷ 0 ∷ 16 ∷ 17 ∷ 17 ∷ 0 ∷ 5 ∷ [];
  operands = 3 ∷ 0 ∷ 2 ∷ 0 ∷ 0 ∷ 0 ∷ 0 ∷ [];
}
task_table DeletedAndAdded = record {
  sizes = task_sizes 1 0 1 0 1 8;
  kinds = 15 ∷ 2 ∷ 16 ∷ 0 ∷ 5 ∷ 2 ∷ 4 ∷ 2 ∷ [];
  operands = 0 ∷ 0 ∷ 0 ∷ 0 ∷ 2 ∷ 0 ∷ 0 ∷ 0 ∷ [];
}

-- its book
abbrev pub book_table : Case → Table book.Sizes
book_table CellPainted = record {
  sizes = book_sizes 4 1 1 1 9;
  kinds = 20 ∷ 21 ∷ 13 ∷ 18 ∷ 10 ∷ 4 ∷ 13 ∷ 5 ∷ 13 ∷ [];
  operands = 0 ∷ 2 ∷ 0 ∷ 0 ∷ 0 ∷ 0 ∷ 0 ∷ 1 ∷ 0 ∷ [];
}
book_table GoalTrue = record { sizes = book_sizes 0 0 0 0 1; kinds = 0 ∷ []; operands = 0 ∷ [] }
book_table ForallOfNone = record { sizes = book_sizes 0 0 0 0 1; kinds = 0 ∷ []; operands = 0 ∷ [] }
book_table ExistsOfNone = record { sizes = book_sizes 0 0 0 0 1; kinds = 1 ∷ []; operands = 0 ∷ [] }
book_table OrOfNothing = record { sizes = book_sizes 0 0 0 0 1; kinds = 1 ∷ []; operands = 0 ∷ [] }
book_table AndOfNothing = record { sizes = book_sizes 0 0 0 0 1; kinds = 0 ∷ []; operands = 0 ∷ [] }
book_table NotOfNot = record {
  sizes = book_sizes 1 1 0 1 8;
  kinds = 20 ∷ 4 ∷ 4 ∷ 13 ∷ 18 ∷ 0 ∷ 5 ∷ 13 ∷ [];
  operands = 0 ∷ 0 ∷ 0 ∷ 0 ∷ 0 ∷ 0 ∷ 1 ∷ 0 ∷ [];
}
book_table ObjectTwice = record {
  sizes = book_sizes 0 0 0 2 11;
  kinds = 0 ∷ 18 ∷ 10 ∷ 10 ∷ 0 ∷ 5 ∷ 18 ∷ 10 ∷ 10 ∷ 0 ∷ 5 ∷ [];
  operands = 0 ∷ 0 ∷ 0 ∷ 1 ∷ 0 ∷ 0 ∷ 0 ∷ 1 ∷ 0 ∷ 0 ∷ 0 ∷ [];
}
book_table DeletedAndAdded = record {
  sizes = book_sizes 1 1 0 1 8;
  kinds = 20 ∷ 13 ∷ 18 ∷ 0 ∷ 5 ∷ 13 ∷ 4 ∷ 13 ∷ [];
  operands = 0 ∷ 0 ∷ 0 ∷ 0 ∷ 2 ∷ 0 ∷ 0 ∷ 0 ∷ [];
}
