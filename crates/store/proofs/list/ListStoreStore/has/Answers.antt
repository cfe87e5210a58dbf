use Rattle.std.proofs.Common.{Ok, ap, ◌∙◌, arith}
use Rattle.rising.specs.Items.{items}
use Rattle.store.proofs.Calls.{answered_in}
use Rattle.store.proofs.Listings.{find_listed, rises_from_climbs}
use Rattle.store.proofs.list.ListStoreStore.has.Goals as goal

pub returns : goal.returns
returns c =
    let s = c.args.self.now in
    let xs = items s.list in
    ap Ok (c.is_ok.ensures.value ∙ find_listed xs c.args.k c.find.result (c.find.ensures.found (rises_from_climbs xs s.rising))) ∙ answered_in _ _ _ (omega (arith, c.in_ok-inside.ensures.below))
