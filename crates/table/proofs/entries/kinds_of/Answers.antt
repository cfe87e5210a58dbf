use Rattle.std.proofs.Common.{get_or, ◌∙◌, arith, length-set}
use lib.ListN.{length-replicate}
use Rattle.table.specs.Kinds.{code_of}
use Rattle.table.specs.declared.kind.Kind.TheVariants.{True}
use Rattle.table.proofs.Filling.{one_more_filled}
use Rattle.table.proofs.entries.kinds_of.Goals as goal

pub loop-i-init : goal.loop-i-init
loop-i-init g c = (length-replicate g.row.N 0, λ k l. let z : ⊥ = omega arith in absurd z)

pub loop-i-preserved : goal.loop-i-preserved
loop-i-preserved g c = (
  length-set _ _ _ ∙ c.loop-i.invariant.0,
  one_more_filled c.loop-i.kinds c.loop-i.i _ (λ k. code_of (get_or c.args.entries.now k (True, 0)).0) (omega (arith, c.loop-i.invariant.0)) c.loop-i.invariant.1 c.from.ensures,
)
