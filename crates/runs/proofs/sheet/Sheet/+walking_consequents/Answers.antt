use Rattle.table.proofs.Lengths.{operands_long}
use Rattle.std.proofs.Common.{◌≡◌, ◌+◌, ◌-◌, List, fold, refl, sym, ap, ◌∙◌, arith}
use Rattle.model.specs.Trees.{Consequent, outcome, outcomes}
use Rattle.table.specs.declared.kind.Kind.TheVariants.{And}
use Rattle.adl.specs.Held.{tree_of}
use Rattle.runs.specs.Shown.{bound}
use Rattle.adl.specs.Reads.{consequents_of}
use Rattle.table.proofs.Codes.{other_code}
use Rattle.runs.specs.Effects.{consequents_literals}
use Rattle.runs.specs.Windows.{offered}
use Rattle.runs.proofs.EffectShapes.{no_consequent, consequent_begins, consequent_kind, consequent_ends_after, at_outcomes, at_outcome, first_consequent}
use Rattle.runs.proofs.Walks.{from_consequent, first_and_rest}
use Rattle.runs.proofs.sheet.Sheet.+walking_consequents.Goals as goal

pub walk_consequent-kind_at-requires : goal.walk_consequent-kind_at-requires
walk_consequent-kind_at-requires t c = record { within = consequent_begins c.requires.2; known = consequent_kind c.requires.2 }

pub walk_consequent-overflow_add-at : goal.walk_consequent-overflow_add-at
walk_consequent-overflow_add-at t c = omega (arith, consequent_begins c.requires.2, c.args.self.now.task.now.table.short)

pub walk_consequent-offset_bounds-task-at : goal.walk_consequent-offset_bounds-task-at
walk_consequent-offset_bounds-task-at t c = omega (arith, consequent_begins c.requires.2, c.args.self.now.task.now.table.short)

pub walk_consequent-bounds-task-at : goal.walk_consequent-bounds-task-at
walk_consequent-bounds-task-at t c = omega (arith, consequent_begins c.requires.2, (operands_long c.args.self.now.task.now.table.entries c.args.self.now.task.now.table.whole))

pub walk_consequent-walk_consequents-requires : goal.walk_consequent-walk_consequents-requires
walk_consequent-walk_consequents-requires t c =
    let p = c.requires in
    let x = at_outcomes p.2 (sym c.in-And.ensures) in
    (omega (arith, consequent_begins p.2), (x.0, p.1, x.2))

pub walk_consequent-change-next-requires : goal.walk_consequent-change-next-requires
walk_consequent-change-next-requires t c =
    let p = c.requires in
    let x = at_outcome p.2 (λ q. other_code c.kind_at.result And c.in_default.not-And (c.kind_at.ensures ∙ q)) in
    (x.0, p.1, x.2)

pub walk_consequent-returns-in-And : goal.walk_consequent-returns-in-And
walk_consequent-returns-in-And t c d j s =
    let x = at_outcomes s (sym c.in-And.ensures) in
    let e = c.walk_consequents.ensures x.0 j x.2 in
    (from_consequent offered (tree_of c.args.self.now.task.now) (bound c.args.self.now) _ _ d (outcomes (consequents_of x.0)) x.1 e.0, e.1)

pub walk_consequent-returns-in_default : goal.walk_consequent-returns-in_default
walk_consequent-returns-in_default t c d j s =
    let x = at_outcome s (λ q. other_code c.kind_at.result And c.in_default.not-And (c.kind_at.ensures ∙ q)) in
    let e = c.change-next.ensures x.0 j x.2 in (
      from_consequent offered (tree_of c.args.self.now.task.now) (bound c.args.self.now) _ _ d (outcome x.0) x.1
          (c.offer.ensures ∙ ap (offered c.args.window.now) e.0),
      e.1,
    )

pub walk_consequents-loop-k-init : goal.walk_consequents-loop-k-init
walk_consequents-loop-k-init t c =
    let n : c.args.count - 0 ≡ c.args.count = omega arith in
    (omega arith, λ cs j s. (cs, rw n s, refl))

pub walk_consequents-walk_consequent-next-requires : goal.walk_consequents-walk_consequent-next-requires
walk_consequents-walk_consequent-next-requires t c =
    let p = c.requires in
    let i = c.loop-k.invariant in
    let m = first_consequent (i.1 p.0 p.1 p.2).1 (c.args.count - (c.loop-k._k + 1)) (omega arith) in
    (omega (arith, i.0), (m.0, m.1, m.4))

pub walk_consequents-loop-k-preserved : goal.walk_consequents-loop-k-preserved
walk_consequents-loop-k-preserved t c =
    let p = c.requires in
    let i = c.loop-k.invariant in
    let r = c.args.count - (c.loop-k._k + 1) in
    let m = first_consequent (i.1 p.0 p.1 p.2).1 r (omega arith) in (
      omega (arith, i.0, consequent_ends_after m.4, (c.walk_consequent-next.ensures m.0 m.1 m.4).1),
      λ cs j s.
          let w = i.1 cs j s in
          let m = first_consequent w.1 r (omega arith) in
          let e = c.walk_consequent-next.ensures m.0 m.1 m.4 in
          let q = e.1 in
          (m.2, rw q m.5, first_and_rest offered (tree_of c.args.self.now.task.now) (bound c.args.self.now) c.loop-k.window _ m.0 m.2 w.0 c.walk_consequent-next.new.window m.3 e.0 refl ∙ w.2),
    )

pub walk_consequents-returns : goal.walk_consequents-returns
walk_consequents-returns t c cs j s =
    let w = c.loop-k.invariant.1 cs j s in
    let e = no_consequent w.1 (omega (arith, c.loop-k-test.false)) in
    (sym (ap (λ (ds : List Consequent). fold offered c.loop-k.window (consequents_literals (tree_of c.args.self.now.task.now) (bound c.args.self.now) ds)) e.0) ∙ w.2, sym e.1)
