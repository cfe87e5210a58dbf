-- Loading: a table for each number that it refuses with, what a table that loads is, and tasks that are in no table.
use Rattle.std.specs.Prelude.{◌≡◌, ℕ, false, true, [], ◌∷◌, replicate, Ok, Err}
use Rattle.fault.specs.declared.Layer.TheVariants as layer
use Rattle.fault.specs.Faults.{refusal}
use Rattle.table.specs.Answers.{Answer}
use Rattle.model.specs.Trees.{Task, constant, atom, Operator}
use Rattle.model.specs.Forming.{WellFormed}
use Rattle.model.specs.Meaning.{nothing}
use Rattle.adl.specs.Held.{held, tree_of}
use Rattle.adl.specs.Kept.{places_from}
use Rattle.adl.specs.Loads.{loads, given, accepted, blank}
use Rattle.adl.specs.Reads.{goal_place, operator_places}
use Rattle.adl.specs.Tables.{Table, arity}
use Rattle.adl.specs.declared.task.Task.{Task as Record}
use Rattle.adl_theorems.specs.Writes.{WithinLimits}
use Rattle.adl_theorems.specs.Theorems.{WasWritten}
use Rattle.worked.specs.declared.case.Case.{Case}
use Rattle.worked.specs.ComingOut.{the_task}
use Rattle.worked.specs.declared.case.Case.TheVariants.{CellPainted, GoalTrue}
use Rattle.worked.specs.Tables.{task_sizes, task_table}

-- a task that is refused so
abbrev pub refused : ℕ → ℕ → Answer
refused n p = Err (refusal n layer.Task p)

pub record LoadingByExample : Type 0 where
  -- TRUE alone is a task
  pub good : loads (task_sizes 1 0 0 0 0 1) (0 ∷ []) (0 ∷ []) ≡ Ok tt
  -- 1: no object; no entry
  pub no_object : loads (task_sizes 0 0 0 0 0 1) (0 ∷ []) (0 ∷ []) ≡ refused 1 0
  pub no_entry : loads (task_sizes 1 0 0 0 0 0) [] [] ≡ refused 1 5
  -- 2: an array is too short
  pub kinds_short : loads (task_sizes 1 0 0 0 0 1) [] (0 ∷ []) ≡ refused 2 0
  -- 3: the goal is WHEN
  pub not_permitted : loads (task_sizes 1 0 0 0 0 1) (12 ∷ []) (0 ∷ []) ≡ refused 3 0
  -- 4: NOT of nothing; an entry is left over
  pub too_few : loads (task_sizes 1 0 0 0 0 1) (4 ∷ []) (0 ∷ []) ≡ refused 4 1
  pub too_many : loads (task_sizes 1 0 0 0 0 2) (0 ∷ 0 ∷ []) (0 ∷ 0 ∷ []) ≡ refused 4 1
  -- 5: one object, and a type with a bit for a second one; an atom of a predicate that there is not
  pub bit_too_high : loads (task_sizes 1 1 0 0 0 2) (14 ∷ 0 ∷ []) (2 ∷ 0 ∷ []) ≡ refused 5 0
  pub no_predicate : loads (task_sizes 1 0 0 0 0 1) (2 ∷ []) (0 ∷ []) ≡ refused 5 0
  -- 6: four quantifiers inside one another; three may be
  pub too_deep : loads (task_sizes 1 1 0 0 0 6) (14 ∷ 8 ∷ 8 ∷ 8 ∷ 8 ∷ 0 ∷ []) (1 ∷ 0 ∷ 0 ∷ 0 ∷ 0 ∷ 0 ∷ []) ≡ refused 6 4
  pub deep_enough : loads (task_sizes 1 1 0 0 0 5) (14 ∷ 8 ∷ 8 ∷ 8 ∷ 0 ∷ []) (1 ∷ 0 ∷ 0 ∷ 0 ∷ 0 ∷ []) ≡ Ok tt
  -- and a formula of 257 entries; 256 may be
  pub too_long : loads (task_sizes 1 0 0 0 0 257) (5 ∷ replicate 256 0) (256 ∷ replicate 256 0) ≡ refused 6 256
  pub short_enough : loads (task_sizes 1 0 0 0 0 256) (5 ∷ replicate 255 0) (255 ∷ replicate 255 0) ≡ Ok tt
  -- 7: 32 objects have 32,768 atoms of a predicate with three arguments; two such predicates may be, and no other beside them
  pub too_many_atoms : loads (task_sizes 32 0 3 0 0 4) (15 ∷ 15 ∷ 15 ∷ 0 ∷ []) (3 ∷ 3 ∷ 0 ∷ 0 ∷ []) ≡ refused 7 2
  pub atoms_enough : loads (task_sizes 32 0 2 0 0 3) (15 ∷ 15 ∷ 0 ∷ []) (3 ∷ 3 ∷ 0 ∷ []) ≡ Ok tt
  -- each worked task is written in its table, well formed and within the limits
  pub written : (c : Case) → WasWritten (task_table c).sizes (task_table c).kinds (task_table c).operands

-- where the parts of a task begin in its table: of two cells, one of which can be painted
abbrev pub cells_table : Table
cells_table = given (task_table CellPainted).sizes (task_table CellPainted).kinds (task_table CellPainted).operands

pub record PartsByExample : Type 0 where
  -- a task stands in it, and none in a table whose one entry is NOT
  pub stands : accepted cells_table ≡ true
  pub stands_not : accepted (given (task_sizes 1 0 0 0 0 1) (4 ∷ []) (0 ∷ [])) ≡ false
  -- where none does, one object and the goal TRUE are taken to stand
  pub blank_task : the_task GoalTrue ≡ blank
  -- its second predicate has one argument; its goal begins at 5, its operator at 7, and that operator's effect at 16
  pub argument : arity cells_table 1 ≡ 1
  pub goal : goal_place cells_table ≡ 5
  pub operators : operator_places cells_table ≡ 7 ∷ []
  pub places : places_from cells_table 7 ≡ record { start = 7; effect = 16 }
  -- a record that holds it
  pub held_task : (t : Record) → held t ≡ cells_table → tree_of t ≡ the_task CellPainted

-- a task without objects; one whose operator has five parameters; one whose goal is an atom of a predicate that there is not
abbrev pub without_objects : Task
without_objects = record { objects = 0; types = []; arities = []; facts = []; goal = constant true; operators = [] }

abbrev pub five_parameters : Operator
five_parameters = record { parameters = 0 ∷ 0 ∷ 0 ∷ 0 ∷ 0 ∷ []; precondition = nothing.precondition; effect = nothing.effect }

abbrev pub too_wide : Task
too_wide = record { objects = 1; types = 1 ∷ []; arities = []; facts = []; goal = constant true; operators = five_parameters ∷ [] }

abbrev pub unknown_atom : Task
unknown_atom = record { objects = 1; types = []; arities = []; facts = []; goal = atom 0 []; operators = [] }

pub record TasksInNoTable : Type 0 where
  pub objects : WithinLimits without_objects → ⊥
  pub parameters : WithinLimits too_wide → ⊥
  pub predicate : WellFormed unknown_atom → ⊥
