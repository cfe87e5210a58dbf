use Rattle.table.proofs.Lengths.{operands_long}
use Rattle.std.proofs.Common.{ap, ◌+◌, ◌≡◌, ◌-◌, sym, ◌∙◌, arith}
use Rattle.table.specs.declared.kind.Kind.TheVariants.{And}
use Rattle.model.specs.Trees.{outcomes_of, all_outcomes}
use Rattle.adl.specs.Reads.{consequents_of}
use Rattle.table.proofs.Codes.{other_code}
use Rattle.runs.proofs.EffectShapes.{no_consequent, consequent_begins, consequent_kind, consequent_ends_after, at_outcomes, at_outcome, first_consequent}
use Rattle.runs.proofs.Touching.{touched_as, none_touched, touched_after}
use Rattle.runs.proofs.touched.Touched.+noting_consequents.Goals as goal

pub note_consequent-kind_at-requires : goal.note_consequent-kind_at-requires
note_consequent-kind_at-requires t c = record { within = consequent_begins c.requires.3; known = consequent_kind c.requires.3 }

pub note_consequent-overflow_add-at : goal.note_consequent-overflow_add-at
note_consequent-overflow_add-at t c = omega (arith, consequent_begins c.requires.3, c.args.task.now.table.short)

pub note_consequent-offset_bounds-task-at : goal.note_consequent-offset_bounds-task-at
note_consequent-offset_bounds-task-at t c = omega (arith, consequent_begins c.requires.3, c.args.task.now.table.short)

pub note_consequent-bounds-task-at : goal.note_consequent-bounds-task-at
note_consequent-bounds-task-at t c = omega (arith, consequent_begins c.requires.3, (operands_long c.args.task.now.table.entries c.args.task.now.table.whole))

pub note_consequent-note_consequents-requires : goal.note_consequent-note_consequents-requires
note_consequent-note_consequents-requires t c =
    let p = c.requires in
    let x = at_outcomes p.3 (sym c.in-And.ensures) in
    (omega (arith, consequent_begins p.3), (p.0, x.0, p.2, x.2))

pub note_consequent-note_change-requires : goal.note_consequent-note_change-requires
note_consequent-note_change-requires t c =
    let p = c.requires in
    let x = at_outcome p.3 (λ q. other_code c.kind_at.result And c.in_default.not-And (c.kind_at.ensures ∙ q)) in
    (p.0, x.0, p.2, x.2)

pub note_consequent-returns-in-And : goal.note_consequent-returns-in-And
note_consequent-returns-in-And t c v d j s =
    let x = at_outcomes s (sym c.in-And.ensures) in
    let n = c.note_consequents.ensures v x.0 j x.2 in
    (touched_as _ _ _ _ (ap outcomes_of x.1) n.0, n.1)

pub note_consequent-returns-in_default : goal.note_consequent-returns-in_default
note_consequent-returns-in_default t c v d j s =
    let x = at_outcome s (λ q. other_code c.kind_at.result And c.in_default.not-And (c.kind_at.ensures ∙ q)) in
    let n = c.note_change.ensures v x.0 j x.2 in
    (touched_as _ _ _ _ (ap outcomes_of x.1) n.0, n.1)

pub note_consequents-loop-k-init : goal.note_consequents-loop-k-init
note_consequents-loop-k-init t c =
    let n : c.args.count - 0 ≡ c.args.count = omega arith in
    (omega arith, λ v xs j s. (xs, rw n s, λ z t. t))

pub note_consequents-note_consequent-next-requires : goal.note_consequents-note_consequent-next-requires
note_consequents-note_consequent-next-requires t c =
    let p = c.requires in
    let i = c.loop-k.invariant in
    let m = first_consequent (i.1 p.0 p.1 p.2 p.3).1 (c.args.count - (c.loop-k._k + 1)) (omega arith) in
    (omega (arith, i.0), (p.0, m.0, m.1, m.4))

pub note_consequents-loop-k-preserved : goal.note_consequents-loop-k-preserved
note_consequents-loop-k-preserved t c =
    let p = c.requires in
    let i = c.loop-k.invariant in
    let r = c.args.count - (c.loop-k._k + 1) in
    let m = first_consequent (i.1 p.0 p.1 p.2 p.3).1 r (omega arith) in (
      omega (arith, i.0, consequent_ends_after m.4, (c.note_consequent-next.ensures p.0 m.0 m.1 m.4).1),
      λ v xs j s.
          let w = i.1 v xs j s in
          let m = first_consequent w.1 r (omega arith) in
          let n = c.note_consequent-next.ensures v m.0 m.1 m.4 in
          let e = n.1 in
          (m.2, rw e m.5, λ z t. w.2 z (touched_after _ _ z _ _ _ (ap (λ ys. all_outcomes (consequents_of ys)) m.3) n.0 t)),
    )

pub note_consequents-returns : goal.note_consequents-returns
note_consequents-returns t c v xs j s =
    let w = c.loop-k.invariant.1 v xs j s in
    let m = no_consequent w.1 (omega (arith, c.loop-k-test.false)) in
    (w.2 c.loop-k.self (none_touched _ _ (ap (λ ys. all_outcomes (consequents_of ys)) m.0)), sym m.1)
