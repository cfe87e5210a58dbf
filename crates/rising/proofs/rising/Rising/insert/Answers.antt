use Rattle.std.proofs.Common.{◌+◌, ◌≤◌, take, set, refl, arith, length-take}
use Rattle.rising.specs.Items.{items}
use Rattle.rising.proofs.Ascents.{Insertion, gap_missing, insertion_from_moved, inserted_rises, inserted_with}
use Rattle.rising.proofs.rising.Rising.insert.Goals as goal

pub returns-then-n-places-clause-held : goal.returns-then-n-places-clause-held
returns-then-n-places-clause-held g c = λ up.
    (gap_missing g.K.Key.before g.met.K.Key.never (items c.args.self.now) _ _ (c.in-Err.ensures.found up), omega (arith, c.count-n.ensures), refl)

pub returns-clause-held : goal.returns-clause-held
returns-clause-held g c = λ up.
    let L = g.K.Key.before in
    let slots = c.args.self.now.slots.now in
    let xs = items c.args.self.now in
    let zs = c.copy_within.new.self in
    let at = c.in-Err.at in
    let n = c.count-n.result in
    let k = c.args.key in
    let le : at ≤ n = omega (arith, c.in-Err.ensures.within, c.count-n.ensures) in
    let ins : Insertion xs (take (n + 1) (set zs at k)) k at = insertion_from_moved slots zs c.args.self.now.len n at c.count-n.ensures c.copy_within.ensures.len k le (omega (arith, c.count-n.ensures, length-take c.args.self.now.len slots)) c.copy_within.ensures.by_index in
    let gap = c.in-Err.ensures.found up in
    (gap_missing g.K.Key.before g.met.K.Key.never xs k at gap, inserted_rises L xs _ k at up gap ins, inserted_with xs _ k at gap.within ins, ins.len)
