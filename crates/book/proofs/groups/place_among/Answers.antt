use Rattle.std.proofs.Common.{◌+◌, ◌-◌, ◌/◌, arith}
use Rattle.book.proofs.Atoms.{found_at, not_found}
use Rattle.book.proofs.groups.place_among.Goals as goal

pub returns-then-found-atom : goal.returns-then-found-atom
returns-then-found-atom c =
    let m = c.loop-low.low + (c.loop-low.high - c.loop-low.low) / 2 in
    found_at c.args.atoms.now c.requires c.args.atom m (omega (arith, c.loop-low.invariant.1)) c.if-found-atom.true

pub returns : goal.returns
returns c = not_found c.args.atoms.now c.args.atom c.loop-low.low c.loop-low.invariant.2 (λ k l h. c.loop-low.invariant.3 k (omega (arith, c.loop-low-test.false)) h)
