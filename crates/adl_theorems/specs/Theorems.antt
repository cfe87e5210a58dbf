-- What is shown of loading.
use Rattle.std.specs.Prelude.{◌≡◌, ℕ, ◌≤◌, List, length, Ok}
use Rattle.model.specs.Forming.{WellFormed}
use Rattle.model.specs.Trees.{Task}
use Rattle.adl.specs.Loads.{loads, given, task_of}
use Rattle.adl_theorems.specs.Writes.{Writes, WithinLimits}
use Rattle.adl.specs.Held.{tree_of}
use Rattle.adl.specs.declared.sizes.Sizes.{Sizes}
use Rattle.adl.specs.declared.task.Task.{Task as Record}

-- every well-formed task within the limits, written out in arrays that are long enough, loads, and it is that task that stands there
abbrev pub WhatIsWrittenLoads : Type 0
WhatIsWrittenLoads =
    (x : Task) → WellFormed x → WithinLimits x → (z : Sizes) (ks os : List ℕ) → Writes x (given z ks os) → z.entries ≤ length ks → z.entries ≤ length os
    → (loads z ks os ≡ Ok tt) × (task_of (given z ks os) ≡ x)

-- a table that loads is a task written out, one that is well formed and within the limits
pub record WasWritten (z : Sizes) (ks os : List ℕ) : Type 0 where
  pub written : Writes (task_of (given z ks os)) (given z ks os)
  pub formed : WellFormed (task_of (given z ks os))
  pub limits : WithinLimits (task_of (given z ks os))
  -- and of no other such task
  pub only : (x : Task) → WellFormed x → WithinLimits x → Writes x (given z ks os) → x ≡ task_of (given z ks os)

abbrev pub WhatLoadsWasWritten : Type 0
WhatLoadsWasWritten = (z : Sizes) (ks os : List ℕ) → loads z ks os ≡ Ok tt → WasWritten z ks os

-- a record that exists holds a well-formed task
abbrev pub RecordsHoldWellFormedTasks : Type 0
RecordsHoldWellFormedTasks = (r : Record) → WellFormed (tree_of r)

-- and one within the limits
abbrev pub RecordsHoldTasksWithinLimits : Type 0
RecordsHoldTasksWithinLimits = (r : Record) → WithinLimits (tree_of r)
