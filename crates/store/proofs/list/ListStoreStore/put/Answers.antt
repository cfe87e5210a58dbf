use Rattle.std.proofs.Common.{◌≡◌, ◌<◌, min, sym, ap, ◌∙◌, subst, arith}
use Rattle.rising.specs.Items.{items, room}
use Rattle.store.specs.Listed.{list_size}
use Rattle.store.specs.Members.{Under, listed}
use Rattle.store.specs.Sets.{with_fact}
use Rattle.store.proofs.Calls.{put_in}
use Rattle.store.proofs.Listings.{rises_from_climbs, insert_sound, insert_fits, insert_set, remove_sound, remove_set}
use Rattle.store.proofs.list.ListStoreStore.put.Goals as goal

pub invariant_of-self : goal.invariant_of-self
invariant_of-self c =
    let s = c.args.self.now in
    let xs = items s.list in
    let ys = items c.insert.new.self in
    let lt : c.args.k < list_size s.list = omega (arith, c.in_ok-inside.ensures.below) in
    let sound = insert_sound xs ys c.args.k (list_size s.list) s.rising s.below (room s.list) c.insert.result lt (c.insert.ensures.held (rises_from_climbs xs s.rising)) in
    record { rising = sound.0; below = subst (λ m. Under (min m 65536) ys) (sym c.insert.ensures.places) sound.1 }

pub unwrap-requires : goal.unwrap-requires
unwrap-requires c =
    let s = c.args.self.now in
    let xs = items s.list in
    let lt : c.args.k < list_size s.list = omega (arith, c.in_ok-inside.ensures.below) in
    insert_fits xs (items c.insert.new.self) c.args.k (list_size s.list) s.rising s.below (room s.list) _ lt (omega arith) (c.insert.ensures.held (rises_from_climbs xs s.rising))

pub invariant_of-self-else-present : goal.invariant_of-self-else-present
invariant_of-self-else-present c =
    let s = c.args.self.now in
    let xs = items s.list in
    let ys = items c.remove.new.self in
    let sound = remove_sound xs ys c.args.k (list_size s.list) s.rising s.below c.remove.result (c.remove.ensures.held (rises_from_climbs xs s.rising)) in
    record { rising = sound.0; below = subst (λ m. Under (min m 65536) ys) (sym c.remove.ensures.places) sound.1 }

pub returns-then-present-clause-set : goal.returns-then-present-clause-set
returns-then-present-clause-set c =
    let s = c.args.self.now in
    let xs = items s.list in
    let k = c.args.k in
    let held = c.insert.ensures.held (rises_from_climbs xs s.rising) in
    let set : listed (items c.insert.new.self) ≡ with_fact (listed xs) k c.args.present = insert_set xs _ k (list_size s.list) s.rising s.below (room s.list) _ (rw c.unwrap.ensures at held) ∙ ap (with_fact (listed xs) k) (sym c.if-present.true) in
    set ∙ put_in _ (listed xs) k _ (omega (arith, c.in_ok-inside.ensures.below))

pub returns-else-present-clause-set : goal.returns-else-present-clause-set
returns-else-present-clause-set c =
    let s = c.args.self.now in
    let xs = items s.list in
    let k = c.args.k in
    let set : listed (items c.remove.new.self) ≡ with_fact (listed xs) k c.args.present = remove_set xs _ k (list_size s.list) s.rising s.below c.remove.result (c.remove.ensures.held (rises_from_climbs xs s.rising)) ∙ ap (with_fact (listed xs) k) (sym c.if-present.false) in
    set ∙ put_in _ (listed xs) k _ (omega (arith, c.in_ok-inside.ensures.below))
