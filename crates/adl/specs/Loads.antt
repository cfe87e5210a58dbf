-- What loading answers, and the task that a record holds.
use Rattle.std.specs.Prelude.{ℕ, Bool, true, ◌||◌, List, [], Ok, ◌==◌, nat_lt}
use Rattle.fault.specs.declared.Fault.{Fault}
use Rattle.fault.specs.declared.Layer.TheVariants as layer
use Rattle.fault.specs.Faults.{refusal}
use Rattle.table.specs.Reading.{Out, bad, good}
use Rattle.table.specs.Answers as read
use Rattle.table.specs.Answers.{Answer, and_then, is_good}
use Rattle.model.specs.Trees as tree
use Rattle.model.specs.Trees.{constant}
use Rattle.adl.specs.Tables.{Table}
use Rattle.adl.specs.Reads.{task}
use Rattle.adl.specs.declared.sizes.Sizes.{Sizes}

-- a fault of a table
abbrev pub faulty : ℕ → ℕ → Fault
faulty n p = refusal n layer.Task p

-- if the test passes, the fault with number n at place p
abbrev pub refuse_if : Bool → ℕ → ℕ → Answer → Answer
refuse_if = read.refuse_if layer.Task

-- the sizes, first to last: each outside its limits is refused by its position
abbrev pub sizes_fit : Sizes → Answer
sizes_fit z =
    refuse_if (z.objects == 0 || nat_lt 32 z.objects) 1 0
    (refuse_if (nat_lt 32 z.types) 1 1
    (refuse_if (nat_lt 32 z.predicates) 1 2
    (refuse_if (nat_lt 4096 z.facts) 1 3
    (refuse_if (nat_lt 32 z.operators) 1 4
    (refuse_if (z.entries == 0 || nat_lt 16384 z.entries) 1 5
    (Ok tt))))))

-- each array has at least as many places as there are entries, kinds first
abbrev pub lengths_fit : ℕ → List ℕ → List ℕ → Answer
lengths_fit = read.lengths_fit layer.Task

-- the table that these sizes and arrays make
abbrev pub given : Sizes → List ℕ → List ℕ → Table
given z ks os = record {
  objects = z.objects;
  types = z.types;
  predicates = z.predicates;
  facts = z.facts;
  operators = z.operators;
  entries = z.entries;
  kinds = ks;
  operands = os;
}

-- a reading as an answer
abbrev pub done : {A : Type 0} → Out A → Answer
done = read.done layer.Task

-- what loading answers: the first fault of the sizes, of the arrays, of the entries
abbrev pub loads : Sizes → List ℕ → List ℕ → Answer
loads z ks os = and_then (sizes_fit z) (and_then (lengths_fit z.entries ks os) (done (task (given z ks os))))

-- a task stands in the table
abbrev pub accepted : Table → Bool
accepted t = is_good (task t)

-- one object and the goal TRUE, with nothing else
abbrev pub blank : tree.Task
blank = record { objects = 1; types = []; arities = []; facts = []; goal = constant true; operators = [] }

abbrev pub task_in : Out tree.Task → tree.Task
task_in (bad n p) = blank
task_in (good x j) = x

-- the task that stands in the table
abbrev pub task_of : Table → tree.Task
task_of t = task_in (task t)
