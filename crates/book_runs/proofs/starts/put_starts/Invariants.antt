use Rattle.std.proofs.Common.{◌≡◌}
use Rattle.model.specs.Books.{first_facts}
use Rattle.model.specs.Lists.{below, keep}
use Rattle.book.specs.Held.{tree_of}
use Rattle.protocol.specs.Steps.{put_numbers}
use Rattle.book_runs.proofs.starts.put_starts.Given as goal

-- those among the facts so far are put
abbrev pub invariant-loop-fact : goal.invariant-loop-fact
invariant-loop-fact g l =
    let m = g.S.Store in
    (m.extent l.store ≡ m.extent l.initial.store)
    × (m.facts l.store ≡ put_numbers (m.extent l.initial.store) (keep (first_facts (tree_of l.book)) (below l.fact)) (m.facts l.initial.store))
