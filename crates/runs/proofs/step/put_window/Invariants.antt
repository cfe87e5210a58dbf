use Rattle.std.proofs.Common.{◌≡◌}
use Rattle.protocol.specs.Steps.{put_literals}
use Rattle.runs.proofs.Puts.{front}
use Rattle.runs.proofs.step.put_window.Given as goal

abbrev pub invariant-loop-literal : goal.invariant-loop-literal
invariant-loop-literal g l =
    let m = g.S.Store in
    (m.extent l.store ≡ m.extent l.initial.store)
    × (m.facts l.store ≡ put_literals (m.extent l.initial.store) l.adds (front l.literal-index l.literal-items) (m.facts l.initial.store))
