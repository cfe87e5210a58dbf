use Rattle.table.proofs.Lengths.{operands_long}
use Rattle.std.proofs.Common.{ap, ◌≡◌, ◌-◌, ◌+◌, sym, ◌∙◌, arith}
use Rattle.table.specs.declared.kind.Kind.TheVariants.{And, Forall, When}
use Rattle.model.specs.Trees.{changes_in, all_changes}
use Rattle.adl.specs.Reads.{effects_of}
use Rattle.table.proofs.Codes.{other_code}
use Rattle.runs.proofs.EffectShapes.{no_effect_left, effect_begins, effect_kind, effect_ends_after, at_conjunction, at_for_each, at_when, at_change, first_effect}
use Rattle.runs.proofs.Touching.{touched_as, none_touched, touched_after}
use Rattle.runs.proofs.touched.Touched.+noting_effects.Goals as goal

pub note_effect-kind_at-requires : goal.note_effect-kind_at-requires
note_effect-kind_at-requires t c = record { within = effect_begins c.requires.3; known = effect_kind c.requires.3 }

pub note_effect-overflow_add-at : goal.note_effect-overflow_add-at
note_effect-overflow_add-at t c = omega (arith, effect_begins c.requires.3, c.args.task.now.table.short)

pub note_effect-offset_bounds-task-at : goal.note_effect-offset_bounds-task-at
note_effect-offset_bounds-task-at t c = omega (arith, effect_begins c.requires.3, c.args.task.now.table.short)

pub note_effect-bounds-task-at : goal.note_effect-bounds-task-at
note_effect-bounds-task-at t c = omega (arith, effect_begins c.requires.3, (operands_long c.args.task.now.table.entries c.args.task.now.table.whole))

pub note_effect-note_effects-requires : goal.note_effect-note_effects-requires
note_effect-note_effects-requires t c =
    let p = c.requires in
    let x = at_conjunction p.3 (sym c.in-And.ensures) in
    (omega (arith, effect_begins p.3), (p.0, x.0, p.2, x.2))

pub note_effect-overflow_add-at-in-Forall : goal.note_effect-overflow_add-at-in-Forall
note_effect-overflow_add-at-in-Forall t c = omega (arith, effect_begins c.requires.3, c.args.task.now.table.short)

pub note_effect-note_effect-requires : goal.note_effect-note_effect-requires
note_effect-note_effect-requires t c =
    let p = c.requires in
    let x = at_for_each p.3 (sym c.in-Forall.ensures) in
    (omega (arith, effect_begins p.3), (p.0 + 1, x.0, p.2, x.2))

pub note_effect-overflow_add-at-in-When : goal.note_effect-overflow_add-at-in-When
note_effect-overflow_add-at-in-When t c = omega (arith, effect_begins c.requires.3, c.args.task.now.table.short)

pub note_effect-skip-consequent-requires : goal.note_effect-skip-consequent-requires
note_effect-skip-consequent-requires t c =
    let p = c.requires in
    let x = at_when p.3 (sym c.in-When.ensures) in
    (p.0, x.0, x.2, x.4)

pub note_effect-note_consequent-requires : goal.note_effect-note_consequent-requires
note_effect-note_consequent-requires t c =
    let p = c.requires in
    let x = at_when p.3 (sym c.in-When.ensures) in
    let e = c.skip-consequent.ensures p.0 x.0 x.2 x.4 in
    (p.0, x.1, p.2, rw e x.5)

pub note_effect-note_change-requires : goal.note_effect-note_change-requires
note_effect-note_change-requires t c =
    let p = c.requires in
    let k = c.kind_at.result in
    let x = at_change p.3 (λ q. other_code k And c.in_default.not-And (c.kind_at.ensures ∙ q)) (λ q. other_code k Forall c.in_default.not-Forall (c.kind_at.ensures ∙ q)) (λ q. other_code k When c.in_default.not-When (c.kind_at.ensures ∙ q)) in
    (p.0, x.0, p.2, x.2)

pub note_effect-returns-in-And : goal.note_effect-returns-in-And
note_effect-returns-in-And t c v e j s =
    let x = at_conjunction s (sym c.in-And.ensures) in
    let n = c.note_effects.ensures v x.0 j x.2 in
    (touched_as _ _ _ _ (ap changes_in x.1) n.0, n.1)

pub note_effect-returns-in-Forall : goal.note_effect-returns-in-Forall
note_effect-returns-in-Forall t c v e j s =
    let x = at_for_each s (sym c.in-Forall.ensures) in
    let n = c.note_effect.ensures (v + 1) x.0 j x.2 in
    (touched_as _ _ _ _ (ap changes_in x.1) n.0, n.1)

pub note_effect-returns-in-When : goal.note_effect-returns-in-When
note_effect-returns-in-When t c v e j s =
    let x = at_when s (sym c.in-When.ensures) in
    let q = c.skip-consequent.ensures v x.0 x.2 x.4 in
    let n = c.note_consequent.ensures v x.1 j (rw q x.5) in
    (touched_as _ _ _ _ (ap changes_in x.3) n.0, n.1)

pub note_effect-returns-in_default : goal.note_effect-returns-in_default
note_effect-returns-in_default t c v e j s =
    let k = c.kind_at.result in
    let x = at_change s (λ q. other_code k And c.in_default.not-And (c.kind_at.ensures ∙ q)) (λ q. other_code k Forall c.in_default.not-Forall (c.kind_at.ensures ∙ q)) (λ q. other_code k When c.in_default.not-When (c.kind_at.ensures ∙ q)) in
    let n = c.note_change.ensures v x.0 j x.2 in
    (touched_as _ _ _ _ (ap changes_in x.1) n.0, n.1)

pub note_effects-loop-k-init : goal.note_effects-loop-k-init
note_effects-loop-k-init t c =
    let n : c.args.count - 0 ≡ c.args.count = omega arith in
    (omega arith, λ v xs j s. (xs, rw n s, λ z t. t))

pub note_effects-note_effect-next-requires : goal.note_effects-note_effect-next-requires
note_effects-note_effect-next-requires t c =
    let p = c.requires in
    let i = c.loop-k.invariant in
    let m = first_effect (i.1 p.0 p.1 p.2 p.3).1 (c.args.count - (c.loop-k._k + 1)) (omega arith) in
    (omega (arith, i.0), (p.0, m.0, m.1, m.4))

pub note_effects-loop-k-preserved : goal.note_effects-loop-k-preserved
note_effects-loop-k-preserved t c =
    let p = c.requires in
    let i = c.loop-k.invariant in
    let r = c.args.count - (c.loop-k._k + 1) in
    let m = first_effect (i.1 p.0 p.1 p.2 p.3).1 r (omega arith) in (
      omega (arith, i.0, effect_ends_after m.4, (c.note_effect-next.ensures p.0 m.0 m.1 m.4).1),
      λ v xs j s.
          let w = i.1 v xs j s in
          let m = first_effect w.1 r (omega arith) in
          let n = c.note_effect-next.ensures v m.0 m.1 m.4 in
          let e = n.1 in
          (m.2, rw e m.5, λ z t. w.2 z (touched_after _ _ z _ _ _ (ap (λ ys. all_changes (effects_of ys)) m.3) n.0 t)),
    )

pub note_effects-returns : goal.note_effects-returns
note_effects-returns t c v xs j s =
    let w = c.loop-k.invariant.1 v xs j s in
    let m = no_effect_left w.1 (omega (arith, c.loop-k-test.false)) in
    (w.2 c.loop-k.self (none_touched _ _ (ap (λ ys. all_changes (effects_of ys)) m.0)), sym m.1)
