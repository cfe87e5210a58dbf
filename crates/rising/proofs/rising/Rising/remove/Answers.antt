use Rattle.std.proofs.Common.{◌-◌, ◌<◌, take, refl, arith}
use Rattle.rising.specs.Items.{items}
use Rattle.rising.proofs.Ascents.{Deletion, gap_missing, deletion_from_moved, deleted_rises, deleted_without}
use Rattle.rising.proofs.rising.Rising.remove.Goals as goal

pub returns-in_default-clause-held : goal.returns-in_default-clause-held
returns-in_default-clause-held g c = λ up. (gap_missing g.K.Key.before g.met.K.Key.never (items c.args.self.now) _ _ (c.in_default.ensures.found up), refl)

pub returns-clause-held : goal.returns-clause-held
returns-clause-held g c = λ up.
    let slots = c.args.self.now.slots.now in
    let xs = items c.args.self.now in
    let zs = c.copy_within.new.self in
    let at = c.in-Ok.at in
    let n = c.count-n.result in
    let lt : at < n = omega (arith, c.in-Ok.ensures.within, c.count-n.ensures) in
    let del : Deletion xs (take (n - 1) zs) at = deletion_from_moved slots zs c.args.self.now.len n at c.count-n.ensures c.copy_within.ensures.len lt c.copy_within.ensures.by_index in
    let spot = c.in-Ok.ensures.found up in
    ((at, spot.within, spot.is), deleted_rises g.K.Key.before xs _ at up del, deleted_without g.K.Key.before g.met.K.Key.never xs _ _ at up spot del, del.len)
