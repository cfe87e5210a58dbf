use Rattle.std.proofs.Common.{◌≡◌, IfSome}
use Rattle.std.specs.Option.{option_map}
use Rattle.protocol.specs.Machines.{unbegun}
use Rattle.protocol.proofs.Played.{PlayedSoFar}
use Rattle.play.proofs.playing.play.Given as goal

-- the run is one of the subject, the store keeps its size, and the calls so far are played
abbrev pub invariant-loop-i : goal.invariant-loop-i
invariant-loop-i g l =
    let m = g.S.Store in
    let r = g.R.Run in
    record {
      subject : IfSome l.run (λ x. r.of x ≡ l.subject);
      size : m.extent l.store ≡ m.extent l.initial.store;
      played : PlayedSoFar (r.machine l.subject (m.extent l.initial.store)) (unbegun (m.facts l.initial.store) l.initial.image) l.calls l.initial.answers l.i
          (option_map r.steps l.run) (m.facts l.store) l.image l.answers;
    }
