use Rattle.std.proofs.Common.{arith, refl}
use Rattle.instantiate.proofs.Copying.{one_over}
use Rattle.instantiate.proofs.front.copy_to_front.Goals as goal

pub loop-i-preserved : goal.loop-i-preserved
loop-i-preserved c = record {
  kinds = one_over (λ e. e.kind) c.args.entries.now c.args.kinds.now c.loop-i.kinds c.loop-i.i _ _ (omega arith) c.requires.kinds c.loop-i.invariant.kinds c.from.ensures;
  operands = one_over (λ e. e.operand) c.args.entries.now c.args.operands.now c.loop-i.operands c.loop-i.i _ _ (omega arith) c.requires.operands c.loop-i.invariant.operands refl;
}
