use Rattle.std.proofs.Common.{◌<◌, Bool, length, take, sym, ap, ◌∙◌, arith}
use mathlib.Core.Bool.{beq}
use Rattle.runs.proofs.Puts.{turn_taken, turn_left}
use Rattle.runs.proofs.step.put_window.Goals as goal
use Rattle.runs.proofs.step.put_window.Goals.{then-adds, else-adds}

pub loop-literal-preserved : goal.loop-literal-preserved
loop-literal-preserved g c =
    let m = g.S.Store in
    let xs = take c.args.window.now.len c.args.window.now.items in
    let h : c.loop-literal.literal-index < length xs = omega arith in
    elim c.if-adds.branch [
      | then-adds w ↦ (
        ap m.extent w.store-is ∙ w.put.ensures.size ∙ c.loop-literal.invariant.0,
        ap m.facts w.store-is ∙ turn_taken _ _ xs c.loop-literal.literal-index _ _ _ _ _ h (ap (λ (b : Bool). beq b c.args.adds) (sym c.adds.ensures) ∙ w.if-adds.true) c.loop-literal.invariant.0 c.loop-literal.invariant.1 w.put.ensures.set,
      )
      | else-adds w ↦ (
        ap m.extent w.store-is ∙ c.loop-literal.invariant.0,
        ap m.facts w.store-is ∙ turn_left _ _ xs c.loop-literal.literal-index _ _ _ h (ap (λ (b : Bool). beq b c.args.adds) (sym c.adds.ensures) ∙ w.if-adds.false) c.loop-literal.invariant.1,
      )
    ]
