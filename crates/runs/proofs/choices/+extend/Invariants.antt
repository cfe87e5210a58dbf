use Rattle.std.proofs.Common.{◌≡◌, ℕ, ◌+◌, ◌-◌, List, ◌++◌, map, take}
use Rattle.std.specs.List.{All}
use Rattle.table.specs.Reading.{good, many}
use Rattle.model.specs.Trees.{in_set}
use Rattle.adl.specs.Held.{held, tree_of}
use Rattle.adl.specs.Reads.{parameter}
use Rattle.runs.specs.Chosen.{chosen, Unused}
use Rattle.runs.proofs.Choosing.{gone_below}
use Rattle.runs.proofs.choices.+extend.Given as goal

abbrev pub decreases-extend : goal.decreases-extend
decreases-extend l = l.left

-- the lists that go on with the members so far stand behind the lists that were there
abbrev pub invariant-loop-o : goal.invariant-loop-o
invariant-loop-o l =
    ((rest : List ℕ) (j : ℕ) → many (parameter (held l.task)) (l.left - 1) (l.at + 1) ≡ good rest j →
    map (chosen (l.count + l.left)) l.out.items ≡ map (chosen (l.count + l.left)) l.initial.out.items ++ gone_below (tree_of l.task) (in_set l.members) (take l.count l.begun) rest l.o-counter)
    × (All (Unused (l.count + l.left)) l.initial.out.items → All (Unused (l.count + l.left)) l.out.items)
