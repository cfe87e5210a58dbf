use Rattle.table.proofs.Lengths.{operands_long}
use Rattle.std.proofs.Common.{◌+◌, ◌≡◌, ◌-◌, sym, ◌∙◌, arith}
use Rattle.table.specs.declared.kind.Kind.TheVariants.{And}
use Rattle.table.proofs.Codes.{other_code}
use Rattle.runs.proofs.EffectShapes.{no_consequent, consequent_begins, consequent_kind, consequent_ends_after, at_outcomes, at_outcome, first_consequent}
use Rattle.runs.proofs.skip_effect.+skipping_consequents.Goals as goal

pub skip_consequent-kind_at-requires : goal.skip_consequent-kind_at-requires
skip_consequent-kind_at-requires t c = record { within = consequent_begins c.requires.3; known = consequent_kind c.requires.3 }

pub skip_consequent-overflow_add-at : goal.skip_consequent-overflow_add-at
skip_consequent-overflow_add-at t c = omega (arith, consequent_begins c.requires.3, c.args.task.now.table.short)

pub skip_consequent-offset_bounds-task-at : goal.skip_consequent-offset_bounds-task-at
skip_consequent-offset_bounds-task-at t c = omega (arith, consequent_begins c.requires.3, c.args.task.now.table.short)

pub skip_consequent-bounds-task-at : goal.skip_consequent-bounds-task-at
skip_consequent-bounds-task-at t c = omega (arith, consequent_begins c.requires.3, (operands_long c.args.task.now.table.entries c.args.task.now.table.whole))

pub skip_consequent-skip_consequents-requires : goal.skip_consequent-skip_consequents-requires
skip_consequent-skip_consequents-requires t c =
    let p = c.requires in
    let x = at_outcomes p.3 (sym c.in-And.ensures) in
    (omega (arith, consequent_begins p.3), (p.0, x.0, p.2, x.2))

pub skip_consequent-skip_change-requires : goal.skip_consequent-skip_change-requires
skip_consequent-skip_change-requires t c =
    let p = c.requires in
    let x = at_outcome p.3 (λ q. other_code c.kind_at.result And c.in_default.not-And (c.kind_at.ensures ∙ q)) in
    (p.0, x.0, p.2, x.2)

pub skip_consequent-returns-in-And : goal.skip_consequent-returns-in-And
skip_consequent-returns-in-And t c v d j s =
    let x = at_outcomes s (sym c.in-And.ensures) in
    c.skip_consequents.ensures v x.0 j x.2

pub skip_consequent-returns-in_default : goal.skip_consequent-returns-in_default
skip_consequent-returns-in_default t c v d j s =
    let x = at_outcome s (λ q. other_code c.kind_at.result And c.in_default.not-And (c.kind_at.ensures ∙ q)) in
    c.skip_change.ensures v x.0 j x.2

pub skip_consequents-loop-k-init : goal.skip_consequents-loop-k-init
skip_consequents-loop-k-init t c =
    let n : c.args.count - 0 ≡ c.args.count = omega arith in
    (omega arith, λ v xs j s. (xs, rw n s))

pub skip_consequents-skip_consequent-next-requires : goal.skip_consequents-skip_consequent-next-requires
skip_consequents-skip_consequent-next-requires t c =
    let p = c.requires in
    let i = c.loop-k.invariant in
    let m = first_consequent (i.1 p.0 p.1 p.2 p.3).1 (c.args.count - (c.loop-k._k + 1)) (omega arith) in
    (omega (arith, i.0), (p.0, m.0, m.1, m.4))

pub skip_consequents-loop-k-preserved : goal.skip_consequents-loop-k-preserved
skip_consequents-loop-k-preserved t c =
    let p = c.requires in
    let i = c.loop-k.invariant in
    let r = c.args.count - (c.loop-k._k + 1) in
    let m = first_consequent (i.1 p.0 p.1 p.2 p.3).1 r (omega arith) in (
      omega (arith, i.0, consequent_ends_after m.4, c.skip_consequent-next.ensures p.0 m.0 m.1 m.4),
      λ v xs j s.
          let m = first_consequent (i.1 v xs j s).1 r (omega arith) in
          let e = c.skip_consequent-next.ensures v m.0 m.1 m.4 in
          (m.2, rw e m.5),
    )

pub skip_consequents-returns : goal.skip_consequents-returns
skip_consequents-returns t c v xs j s = sym (no_consequent (c.loop-k.invariant.1 v xs j s).1 (omega (arith, c.loop-k-test.false))).1
