use Rattle.table.proofs.Lengths.{operands_long}
use Rattle.std.proofs.Common.{◌≡◌, ◌+◌, ◌-◌, List, [], ◌∷◌, ◌++◌, length, get_or, refl, sym, ap, ◌∙◌, arith}
use Rattle.std.proofs.lemmas.List.{append-nil}
use Rattle.std.proofs.lemmas.Result.{err_from_is_err_and}
use Rattle.table.specs.declared.kind.Kind.TheVariants.{And}
use Rattle.table.proofs.Codes.{other_code}
use Rattle.model.specs.Meaning.{Literal, ground}
use Rattle.model.specs.Trees.{Change}
use Rattle.runs.specs.declared.settling.Settling.{Settling}
use Rattle.runs.specs.Effects.{ChangeIn, ConsequentIn, ConsequentsIn}
use Rattle.adl.specs.Held.{tree_of}
use Rattle.adl.specs.Reads.{consequents_of}
use Rattle.adl_theorems.specs.Writes.{write_consequent}
use Rattle.book_of_task.specs.Places.{outcome_places, all_outcome_places, clash_in}
use Rattle.runs.specs.Clauses.{LiteralsWritten, consequent_clash, consequents_clash, task_in, round_in, literals_of, all_literals_of}
use Rattle.runs.specs.Shown.{bound}
use Rattle.runs.proofs.Appending.{longer, consequent_first, no_literals, literals_after, literals_as, explained, Turned, wrote_as, stopped_as}
use Rattle.runs.proofs.Extending.{draft_after, draft_so}
use Rattle.runs.proofs.Clashing.{first_inside, as_many_more, literals_placed}
use Rattle.runs.proofs.EffectPlaces.{consequent_ends}
use Rattle.runs.proofs.EffectShapes.{no_consequent, consequent_begins, consequent_kind, consequent_ends_after, at_outcomes, at_outcome, first_consequent}
use Rattle.runs.proofs.settling.Settling.+writing_consequents.Goals as goal

-- the literal of an atom that is added or deleted, as a list
abbrev literal_of : Settling → Change → List Literal
literal_of s c = ground (task_in s) (bound s.sheet) c ∷ []

pub write_consequent-kind_at-requires : goal.write_consequent-kind_at-requires
write_consequent-kind_at-requires t c = record { within = consequent_begins c.requires.2; known = consequent_kind c.requires.2 }

pub write_consequent-overflow_add-at : goal.write_consequent-overflow_add-at
write_consequent-overflow_add-at t c = omega (arith, consequent_begins c.requires.2, c.args.self.now.sheet.task.now.table.short)

pub write_consequent-offset_bounds-task-at : goal.write_consequent-offset_bounds-task-at
write_consequent-offset_bounds-task-at t c = omega (arith, consequent_begins c.requires.2, c.args.self.now.sheet.task.now.table.short)

pub write_consequent-bounds-task-at : goal.write_consequent-bounds-task-at
write_consequent-bounds-task-at t c = omega (arith, consequent_begins c.requires.2, (operands_long c.args.self.now.sheet.task.now.table.entries c.args.self.now.sheet.task.now.table.whole))

pub write_consequent-write_consequents-requires : goal.write_consequent-write_consequents-requires
write_consequent-write_consequents-requires t c =
    let p = c.requires in
    let x = at_outcomes p.2 (sym c.in-And.ensures) in
    (omega (arith, consequent_begins p.2), (x.0, p.1, x.2))

pub write_consequent-write_literal-requires : goal.write_consequent-write_literal-requires
write_consequent-write_literal-requires t c =
    let p = c.requires in
    let x = at_outcome p.2 (λ q. other_code c.kind_at.result And c.in_default.not-And (c.kind_at.ensures ∙ q)) in
    (x.0, p.1, x.2)

pub write_consequent-returns-in-And : goal.write_consequent-returns-in-And
write_consequent-returns-in-And t c =
    let A = c.args.self.now in
    let i = c.args.at in
    let m = get_or A.sheet.task.now.table.entries.operands.now i 0 in
    let parts : Turned (ConsequentsIn A.sheet (i + 1) m) (ConsequentIn A.sheet i) (all_literals_of A) (literals_of A) =
    record { one = λ d j s. let x = at_outcomes s (sym c.in-And.ensures) in (x.0, x.2, ap (literals_of A) x.1) } in
    let spots : Turned (ConsequentsIn A.sheet (i + 1) m) (ConsequentIn A.sheet i) (consequents_clash A (i + 1)) (consequent_clash A i) =
    record { one = λ d j s. let x = at_outcomes s (sym c.in-And.ensures) in (x.0, x.2, ap (consequent_clash A i) x.1) } in
    record {
      wrote = wrote_as parts (λ ls n. LiteralsWritten (round_in A) ls c.args.draft.now c.write_consequents.new.draft n) c.write_consequents.result c.write_consequents.ensures.wrote;
      stopped = stopped_as spots (λ o. o) c.write_consequents.result c.write_consequents.ensures.stopped;
      extends = c.write_consequents.ensures.extends;
    }

pub write_consequent-returns-in_default : goal.write_consequent-returns-in_default
write_consequent-returns-in_default t c =
    let A = c.args.self.now in
    let i = c.args.at in
    let plain : Turned (ChangeIn A.sheet i) (ConsequentIn A.sheet i) (literal_of A) (literals_of A) =
    record { one = λ d j s. let x = at_outcome s (λ q. other_code c.kind_at.result And c.in_default.not-And (c.kind_at.ensures ∙ q)) in (x.0, x.2, ap (literals_of A) x.1) } in
    let spots : Turned (ChangeIn A.sheet i) (ConsequentIn A.sheet i) (λ d. clash_in (round_in A) (literal_of A d) (i ∷ [])) (consequent_clash A i) =
    record { one = λ d j s. let x = at_outcome s (λ q. other_code c.kind_at.result And c.in_default.not-And (c.kind_at.ensures ∙ q)) in (x.0, x.2, ap (consequent_clash A i) x.1) } in
    record {
      wrote = wrote_as plain (λ ls n. LiteralsWritten (round_in A) ls c.args.draft.now c.write_literal.new.draft n) c.write_literal.result c.write_literal.ensures.wrote;
      stopped = stopped_as spots (λ o. o) c.write_literal.result c.write_literal.ensures.stopped;
      extends = c.write_literal.ensures.extends;
    }

pub write_consequents-loop-k-init : goal.write_consequents-loop-k-init
write_consequents-loop-k-init t c =
    let n : c.args.count - 0 ≡ c.args.count = omega arith in
    (omega arith, λ cs j s. ([], cs, rw n s, refl, no_literals (round_in c.args.self.now) c.args.draft.now, [], refl, refl))

pub write_consequents-write_consequent-requires : goal.write_consequents-write_consequent-requires
write_consequents-write_consequent-requires t c =
    let p = c.requires in
    let i = c.loop-k.invariant in
    let m = first_consequent (i.1 p.0 p.1 p.2).2 (c.args.count - (c.loop-k._k + 1)) (omega arith) in
    (omega (arith, i.0), (m.0, m.1, m.4))

pub write_consequents-returns-in_err-more-clause-stopped : goal.write_consequents-returns-in_err-more-clause-stopped
write_consequents-returns-in_err-more-clause-stopped t c =
    let p = err_from_is_err_and c.from_residual.result c.from_residual.ensures.1 in
    let A = c.args.self.now in
    rw (p.1, p.2)
    (λ cs j s.
    let w = c.loop-k.invariant.1 cs j s in
    let m = first_consequent w.2 (c.args.count - (c.loop-k._k + 1)) (omega arith) in
    let first = literals_of A m.0 in
    let rest = all_literals_of A m.2 in
    let at = c.loop-k.next in
    let spots = outcome_places at m.0 in
    let later = all_outcome_places (at + length (write_consequent m.0)) (consequents_of m.2) in
    explained (consequent_clash A at m.0) (consequents_clash A c.args.at cs) c.in_err-more.field-0.0
    (λ p. first_inside (round_in A) p w.0 first rest w.5 spots later (longer w.0 first rest (consequent_first (tree_of A.sheet.task.now) (bound A.sheet) m.0 m.2 w.1 m.3) w.3)
    (longer w.5 spots later (ap (λ ds. all_outcome_places at (consequents_of ds)) m.3) w.7) w.6 w.4.2)
    (c.in_err-more.ensures.stopped m.0 m.1 m.4))

pub write_consequents-returns-in_err-more-clause-extends : goal.write_consequents-returns-in_err-more-clause-extends
write_consequents-returns-in_err-more-clause-extends t c =
    let r = c.requires in
    let p = err_from_is_err_and c.from_residual.result c.from_residual.ensures.1 in
    rw p.1 (draft_after (c.loop-k.invariant.1 r.0 r.1 r.2).4.0 c.in_err-more.ensures.extends)

pub write_consequents-returns-in_err-written-clause-extends : goal.write_consequents-returns-in_err-written-clause-extends
write_consequents-returns-in_err-written-clause-extends t c =
    let r = c.requires in
    let w = c.loop-k.invariant.1 r.0 r.1 r.2 in
    let m = first_consequent w.2 (c.args.count - (c.loop-k._k + 1)) (omega arith) in
    let p = err_from_is_err_and c.from_residual-in_err-written.result c.from_residual-in_err-written.ensures.1 in
    rw p.1 (draft_after w.4.0 (draft_so (c.in_ok-more.ensures.wrote m.0 m.1 m.4).0.0))

pub write_consequents-loop-k-preserved : goal.write_consequents-loop-k-preserved
write_consequents-loop-k-preserved t c =
    let p = c.requires in
    let i = c.loop-k.invariant in
    let A = c.args.self.now in
    let r = c.args.count - (c.loop-k._k + 1) in
    let m = first_consequent (i.1 p.0 p.1 p.2).2 r (omega arith) in (
      omega (arith, i.0, consequent_ends_after {c = m.0} {j = m.1} m.4, (c.in_ok-more.ensures.wrote m.0 m.1 m.4).1),
      λ cs j s.
          let w = i.1 cs j s in
          let m = first_consequent w.2 r (omega arith) in
          let e = c.in_ok-more.ensures.wrote m.0 m.1 m.4 in
          let q = e.1 in
          let first = literals_of A m.0 in
          let at = c.loop-k.next in
          let spots = outcome_places at m.0 in
          let ends = consequent_ends m.4 in (
            w.0 ++ first,
            m.2,
            rw q m.5,
            longer w.0 first (all_literals_of A m.2) (consequent_first (tree_of A.sheet.task.now) (bound A.sheet) m.0 m.2 w.1 m.3) w.3,
            literals_after (round_in A) w.0 first _ _ _ _ _ _ w.4 e.0 c.in_ok-written.ensures,
            w.5 ++ spots,
            as_many_more w.0 first w.5 spots w.6 (literals_placed (task_in A) (bound A.sheet) at m.0),
            longer w.5 spots _ (ap (λ ds. all_outcome_places at (consequents_of ds)) m.3 ∙ ap (λ n. spots ++ all_outcome_places n (consequents_of m.2)) (sym (e.1 ∙ ends))) w.7,
          ),
    )

pub write_consequents-returns-clause-wrote : goal.write_consequents-returns-clause-wrote
write_consequents-returns-clause-wrote t c cs j s =
    let A = c.args.self.now in
    let w = c.loop-k.invariant.1 cs j s in
    let e = no_consequent w.2 (omega (arith, c.loop-k-test.false)) in
    (literals_as (round_in A) w.0 (all_literals_of A cs) _ _ _ (w.3 ∙ ap (λ ds. w.0 ++ all_literals_of A ds) e.0 ∙ append-nil w.0) w.4, sym e.1)
