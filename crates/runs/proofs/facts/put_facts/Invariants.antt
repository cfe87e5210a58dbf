use Rattle.std.proofs.Common.{◌≡◌, ◌-◌, drop}
use Rattle.table.specs.Reading.{good, many}
use Rattle.adl.specs.Held.{held, tree_of}
use Rattle.adl.specs.Reads.{fact, goal_place}
use Rattle.protocol.specs.Steps.{put_numbers}
use Rattle.runs.proofs.FactPuts.{numbered}
use Rattle.runs.proofs.facts.put_facts.Given as goal

abbrev pub invariant-loop-k : goal.invariant-loop-k
invariant-loop-k g l =
    let m = g.S.Store in
    let t = tree_of l.task in
    (m.extent l.store ≡ m.extent l.initial.store)
    × (many (fact (held l.task)) (l.task.table.sizes.facts - l._k) l.at ≡ good (drop l._k t.facts) (goal_place (held l.task)))
    × (put_numbers (m.extent l.initial.store) (numbered t (drop l._k t.facts)) (m.facts l.store) ≡ put_numbers (m.extent l.initial.store) (numbered t t.facts) (m.facts l.initial.store))
