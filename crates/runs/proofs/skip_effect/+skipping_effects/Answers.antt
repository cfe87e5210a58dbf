use Rattle.table.proofs.Lengths.{operands_long}
use Rattle.std.proofs.Common.{◌≡◌, ◌-◌, ◌+◌, sym, ◌∙◌, arith}
use Rattle.table.specs.declared.kind.Kind.TheVariants.{And, Forall, When}
use Rattle.table.proofs.Codes.{other_code}
use Rattle.runs.proofs.EffectShapes.{no_effect_left, effect_begins, effect_kind, effect_ends_after, at_conjunction, at_for_each, at_when, at_change, first_effect}
use Rattle.runs.proofs.skip_effect.+skipping_effects.Goals as goal

pub skip_effect-kind_at-requires : goal.skip_effect-kind_at-requires
skip_effect-kind_at-requires t c = record { within = effect_begins c.requires.3; known = effect_kind c.requires.3 }

pub skip_effect-overflow_add-at : goal.skip_effect-overflow_add-at
skip_effect-overflow_add-at t c = omega (arith, effect_begins c.requires.3, c.args.task.now.table.short)

pub skip_effect-offset_bounds-task-at : goal.skip_effect-offset_bounds-task-at
skip_effect-offset_bounds-task-at t c = omega (arith, effect_begins c.requires.3, c.args.task.now.table.short)

pub skip_effect-bounds-task-at : goal.skip_effect-bounds-task-at
skip_effect-bounds-task-at t c = omega (arith, effect_begins c.requires.3, (operands_long c.args.task.now.table.entries c.args.task.now.table.whole))

pub skip_effect-skip_effects-requires : goal.skip_effect-skip_effects-requires
skip_effect-skip_effects-requires t c =
    let p = c.requires in
    let x = at_conjunction p.3 (sym c.in-And.ensures) in
    (omega (arith, effect_begins p.3), (p.0, x.0, p.2, x.2))

pub skip_effect-overflow_add-at-in-Forall : goal.skip_effect-overflow_add-at-in-Forall
skip_effect-overflow_add-at-in-Forall t c = omega (arith, effect_begins c.requires.3, c.args.task.now.table.short)

pub skip_effect-skip_effect-requires : goal.skip_effect-skip_effect-requires
skip_effect-skip_effect-requires t c =
    let p = c.requires in
    let x = at_for_each p.3 (sym c.in-Forall.ensures) in
    (omega (arith, effect_begins p.3), (p.0 + 1, x.0, p.2, x.2))

pub skip_effect-overflow_add-at-in-When : goal.skip_effect-overflow_add-at-in-When
skip_effect-overflow_add-at-in-When t c = omega (arith, effect_begins c.requires.3, c.args.task.now.table.short)

pub skip_effect-skip-consequent-requires : goal.skip_effect-skip-consequent-requires
skip_effect-skip-consequent-requires t c =
    let p = c.requires in
    let x = at_when p.3 (sym c.in-When.ensures) in
    (p.0, x.0, x.2, x.4)

pub skip_effect-skip_consequent-requires :
    goal.skip_effect-skip_consequent-requires
skip_effect-skip_consequent-requires t c =
    let p = c.requires in
    let x = at_when p.3 (sym c.in-When.ensures) in
    let e = c.skip-consequent.ensures p.0 x.0 x.2 x.4 in
    (p.0, x.1, p.2, rw e x.5)

pub skip_effect-skip_change-requires : goal.skip_effect-skip_change-requires
skip_effect-skip_change-requires t c =
    let p = c.requires in
    let k = c.kind_at.result in
    let x = at_change p.3 (λ q. other_code k And c.in_default.not-And (c.kind_at.ensures ∙ q)) (λ q. other_code k Forall c.in_default.not-Forall (c.kind_at.ensures ∙ q)) (λ q. other_code k When c.in_default.not-When (c.kind_at.ensures ∙ q)) in
    (p.0, x.0, p.2, x.2)

pub skip_effect-returns-in-And : goal.skip_effect-returns-in-And
skip_effect-returns-in-And t c v e j s =
    let x = at_conjunction s (sym c.in-And.ensures) in
    c.skip_effects.ensures v x.0 j x.2

pub skip_effect-returns-in-Forall : goal.skip_effect-returns-in-Forall
skip_effect-returns-in-Forall t c v e j s =
    let x = at_for_each s (sym c.in-Forall.ensures) in
    c.skip_effect.ensures (v + 1) x.0 j x.2

pub skip_effect-returns-in-When : goal.skip_effect-returns-in-When
skip_effect-returns-in-When t c v e j s =
    let x = at_when s (sym c.in-When.ensures) in
    let q = c.skip-consequent.ensures v x.0 x.2 x.4 in
    c.skip_consequent.ensures v x.1 j (rw q x.5)

pub skip_effect-returns-in_default : goal.skip_effect-returns-in_default
skip_effect-returns-in_default t c v e j s =
    let k = c.kind_at.result in
    let x = at_change s (λ q. other_code k And c.in_default.not-And (c.kind_at.ensures ∙ q)) (λ q. other_code k Forall c.in_default.not-Forall (c.kind_at.ensures ∙ q)) (λ q. other_code k When c.in_default.not-When (c.kind_at.ensures ∙ q)) in
    c.skip_change.ensures v x.0 j x.2

pub skip_effects-loop-k-init : goal.skip_effects-loop-k-init
skip_effects-loop-k-init t c =
    let n : c.args.count - 0 ≡ c.args.count = omega arith in
    (omega arith, λ v xs j s. (xs, rw n s))

pub skip_effects-skip_effect-next-requires : goal.skip_effects-skip_effect-next-requires
skip_effects-skip_effect-next-requires t c =
    let p = c.requires in
    let i = c.loop-k.invariant in
    let m = first_effect (i.1 p.0 p.1 p.2 p.3).1 (c.args.count - (c.loop-k._k + 1)) (omega arith) in
    (omega (arith, i.0), (p.0, m.0, m.1, m.4))

pub skip_effects-loop-k-preserved : goal.skip_effects-loop-k-preserved
skip_effects-loop-k-preserved t c =
    let p = c.requires in
    let i = c.loop-k.invariant in
    let r = c.args.count - (c.loop-k._k + 1) in
    let m = first_effect (i.1 p.0 p.1 p.2 p.3).1 r (omega arith) in (
      omega (arith, i.0, effect_ends_after m.4, c.skip_effect-next.ensures p.0 m.0 m.1 m.4),
      λ v xs j s.
          let m = first_effect (i.1 v xs j s).1 r (omega arith) in
          let e = c.skip_effect-next.ensures v m.0 m.1 m.4 in
          (m.2, rw e m.5),
    )

pub skip_effects-returns : goal.skip_effects-returns
skip_effects-returns t c v xs j s = sym (no_effect_left (c.loop-k.invariant.1 v xs j s).1 (omega (arith, c.loop-k-test.false))).1
