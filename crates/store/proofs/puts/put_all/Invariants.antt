use Rattle.std.proofs.Common.{◌≡◌, drop}
use Rattle.store.specs.Sets.{put_all, answered_all}
use Rattle.store.proofs.puts.put_all.Given as goal

abbrev pub invariant-loop-k : goal.invariant-loop-k
invariant-loop-k g l =
    let m = g.S.Store in
    let n = m.extent l.initial.store in
    (m.extent l.store ≡ n)
    × (put_all n (m.facts l.store) (drop l.k-index l.numbers) ≡ put_all n (m.facts l.initial.store) l.numbers)
    × (answered_all n (drop l.k-index l.numbers) ≡ answered_all n l.numbers)
