use Rattle.std.proofs.Common.{ℕ, get_or, ap, ◌∙◌, arith}
use Rattle.std.specs.Option.{option_map}
use Rattle.protocol.specs.Machines.{unbegun, turn_from}
use Rattle.protocol.specs.declared.calls.Call.TheVariants.{Begin}
use Rattle.protocol.proofs.Played.{played_more}
use Rattle.play.proofs.playing.play.Goals as goal

pub loop-i-preserved : goal.loop-i-preserved
loop-i-preserved g c =
    let m = g.S.Store in
    let machine = g.R.Run.machine c.args.subject in
    let steps = option_map g.R.Run.steps c.loop-i.run in
    let call = get_or c.args.calls.now c.loop-i.i Begin in
    let turn = c.call_any.ensures.turn ∙ ap (λ (n : ℕ). turn_from (machine n) steps (m.facts c.loop-i.store) c.loop-i.image call) c.loop-i.invariant.size in
    record {
      subject = c.call_any.ensures.subject;
      size = c.call_any.ensures.size ∙ c.loop-i.invariant.size;
      played =
          played_more (machine (m.extent c.args.store.now)) (unbegun (m.facts c.args.store.now) c.args.image.now) c.args.calls.now c.args.answers.now
          c.loop-i.i steps (m.facts c.loop-i.store) c.loop-i.image c.loop-i.answers _
          c.loop-i-test.true (omega arith) c.loop-i.invariant.played turn;
    }
