use Rattle.std.proofs.Common.{◌<◌, false, arith}
use Rattle.std.proofs.lemmas.List.{get_or-replicate}
use Rattle.runs.proofs.Touching.{effect_kept, operator_touched, all_added, all_deleted}
use Rattle.runs.proofs.touched.Touched.by.Goals as goal

pub note_effect-requires : goal.note_effect-requires
note_effect-requires c =
    let k = c.args.task.now in
    let h : c.loop-places.places-index < k.table.sizes.operators = omega arith in
    (_, _, _, effect_kept k c.loop-places.places-index h)

pub loop-places-preserved : goal.loop-places-preserved
loop-places-preserved c =
    let k = c.args.task.now in
    let o = c.loop-places.places-index in
    let h : o < k.table.sizes.operators = omega arith in
    operator_touched k o h _ c.loop-places.touched c.note_effect.new.self c.loop-places.invariant (c.note_effect.ensures _ _ _ (effect_kept k o h)).0

pub returns-clause-added : goal.returns-clause-added
returns-clause-added c p l =
    all_added c.args.task.now _ c.loop-places.touched c.loop-places.places-index (omega arith) c.loop-places.invariant p l
    (get_or-replicate 32 p false false l)

pub returns-clause-deleted : goal.returns-clause-deleted
returns-clause-deleted c p l =
    all_deleted c.args.task.now _ c.loop-places.touched c.loop-places.places-index (omega arith) c.loop-places.invariant p l
    (get_or-replicate 32 p false false l)
