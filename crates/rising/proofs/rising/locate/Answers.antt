use Rattle.std.proofs.Common.{◌+◌, ◌-◌, ◌/◌, ◌<◌, length, subst, arith}
use Rattle.rising.specs.Ascent.{Spot}
use Rattle.rising.proofs.Ascents.{spot_at, below_more, above_more}
use Rattle.rising.proofs.rising.locate.Goals as goal

pub loop-low-init : goal.loop-low-init
loop-low-init g c = (omega arith, omega arith, λ up. ((λ j d h. absurd (let no : ⊥ = omega arith in no)), (λ j d le lt. absurd (let no : ⊥ = omega arith in no))))

pub loop-low-preserved-in-Less : goal.loop-low-preserved-in-Less
loop-low-preserved-in-Less g c =
    let keys = c.args.keys.now in
    let mid = c.loop-low.low + (c.loop-low.high - c.loop-low.low) / 2 in
    let lt : mid < length keys = omega arith in
    let spot = spot_at keys mid c.index-keys-mid.result lt c.index-keys-mid.is in
    (omega arith, omega arith, λ up. (below_more g.K.Key.before g.met.K.Key.chain keys _ _ mid up spot c.in-Less.ensures, (c.loop-low.invariant.2 up).1))

pub returns-in-Equal : goal.returns-in-Equal
returns-in-Equal g c =
    let keys = c.args.keys.now in
    let mid = c.loop-low.low + (c.loop-low.high - c.loop-low.low) / 2 in
    let lt : mid < length keys = omega arith in
    let spot = spot_at keys mid c.index-keys-mid.result lt c.index-keys-mid.is in
    record { within = lt; found = λ up. subst (λ k. Spot keys k mid) c.in-Equal.ensures spot }

pub loop-low-preserved : goal.loop-low-preserved
loop-low-preserved g c =
    let keys = c.args.keys.now in
    let mid = c.loop-low.low + (c.loop-low.high - c.loop-low.low) / 2 in
    let lt : mid < length keys = omega arith in
    let spot = spot_at keys mid c.index-keys-mid.result lt c.index-keys-mid.is in
    (omega arith, omega arith, λ up. ((c.loop-low.invariant.2 up).0, above_more g.K.Key.before g.met.K.Key.chain keys _ _ mid up spot c.in-Greater.ensures))
