use Rattle.std.proofs.Common.{◌/◌, ◌%◌, refl, ◌∙◌, arith}
use Rattle.std.proofs.lemmas.Nat.{mod_below}
use Rattle.std.proofs.lemmas.List.{drop-set-lt}
use Rattle.store.proofs.Calls.{put_in}
use Rattle.store.proofs.Packing.{facts_put, changed_or, changed_and}
use Rattle.store.proofs.bits.BitsStore.put.Goals as goal

pub returns-then-present-clause-set : goal.returns-then-present-clause-set
returns-then-present-clause-set c =
    let lt = c.in_ok-inside.ensures.below in
    facts_put c.args.self.now.bytes.now c.args.k _ c.args.present (omega (arith, lt)) (omega (arith, lt)) (changed_or _ (c.args.k % 8) _ _ c.if-present.true (mod_below c.args.k 8 (omega arith)) refl) ∙ put_in _ _ c.args.k _ (omega (arith, lt))

pub returns-then-present-clause-rest : goal.returns-then-present-clause-rest
returns-then-present-clause-rest c = drop-set-lt 8192 c.args.self.now.bytes.now (c.args.k / 8) _ (omega (arith, c.in_ok-inside.ensures.below))

pub returns-else-present-clause-set : goal.returns-else-present-clause-set
returns-else-present-clause-set c =
    let lt = c.in_ok-inside.ensures.below in
    facts_put c.args.self.now.bytes.now c.args.k _ c.args.present (omega (arith, lt)) (omega (arith, lt)) (changed_and _ (c.args.k % 8) _ _ c.if-present.false (mod_below c.args.k 8 (omega arith)) refl) ∙ put_in _ _ c.args.k _ (omega (arith, lt))

pub returns-else-present-clause-rest : goal.returns-else-present-clause-rest
returns-else-present-clause-rest c = drop-set-lt 8192 c.args.self.now.bytes.now (c.args.k / 8) _ (omega (arith, c.in_ok-inside.ensures.below))
