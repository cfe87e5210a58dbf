use Rattle.std.proofs.Common.{◌<◌, length, set, sym, ap, ◌∙◌, arith}
use Rattle.store.proofs.Pictures.{pictured_more, answered_is, room_from_ok}
use Rattle.store.proofs.images.copy.Goals as goal

pub loop-k-preserved : goal.loop-k-preserved
loop-k-preserved g c =
    let m = g.S.Store in
    let s = c.args.store.now in
    let k = c.loop-k.k in
    let b = c.unwrap.result in
    let room = room_from_ok (m.extent s) (length c.args.image.now) c.args.n _ c.in_ok-room_for.ensures in
    let lt : k < m.extent s = omega (arith, room.0) in
    let inside : k < length c.args.image.now = omega (arith, room.1) in
    ap (λ l. set l k c.into.result) c.loop-k.invariant ∙ ap (set _ k) c.into.ensures ∙ pictured_more (m.facts s) c.args.image.now k b inside (answered_is (m.extent s) k (m.facts s k) b lt (sym c.unwrap.ensures ∙ c.has.ensures))
