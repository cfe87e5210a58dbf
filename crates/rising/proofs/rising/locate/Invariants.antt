use Rattle.std.proofs.Common.{◌-◌, ◌≤◌, length}
use Rattle.rising.specs.Ascent.{Rises, Below, Above}
use Rattle.rising.proofs.rising.locate.Given as goal

abbrev pub invariant-loop-low : goal.invariant-loop-low
invariant-loop-low g l =
    let L = g.K.Key.before in
    (l.high ≤ length l.keys) × (l.low ≤ l.high) × (Rises L l.keys → Below L l.keys l.key l.low × Above L l.keys l.key l.high)

abbrev pub decreases-loop-low : goal.decreases-loop-low
decreases-loop-low g l = l.high - l.low
