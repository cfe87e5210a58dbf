use Rattle.std.proofs.Common.{true, false, Some, sym, refl, ap, ◌∙◌, subst, arith}
use Rattle.std.proofs.lemmas.Result.{IfOk-weaker, IfErr-weaker, err_from_is_err_and}
use Rattle.std.proofs.lemmas.List.{append-nil}
use Rattle.model.specs.Settling.{is}
use Rattle.model.specs.Books.{on_facts}
use Rattle.runs.specs.declared.draft.Draft.{Draft}
use Rattle.runs.specs.Clauses.{Explains, consequent_clash, task_in, round_in, literals_of, part_of}
use Rattle.runs.specs.Left.{simplified_in}
use Rattle.runs.proofs.Appending.{one_part, freed_part}
use Rattle.runs.proofs.Whens.{told_known, untold_is, condition_back, when_back, group_inside, when_patched, appended_from, when_dropped, when_bare, when_kept, LiteralsPromised, LiteralsExplained, WhenPromised, WhenExplained, when_explained}
use Rattle.runs.proofs.Extending.{extends_same, extends_from, extends_after, extends_pushed, entries_extend, draft_by, draft_entries}
use Rattle.runs.proofs.settling.Settling.write_when.Goals as goal

pub skip_consequent-requires : goal.skip_consequent-requires
skip_consequent-requires c =
    let p = c.requires in
    let q = (c.in_ok-truth.ensures p.0 p.2 p.4).1 in
    (c.args.self.now.sheet.depth, p.1, p.3, rw q p.5)

pub returns-in-Some-false-clause-wrote : goal.returns-in-Some-false-clause-wrote
returns-in-Some-false-clause-wrote c f d i j sf sc =
    let A = c.args.self.now in
    let old = c.args.draft.now in
    let x = c.in_ok-truth.ensures f i sf in
    let q = x.1 in
    let g = simplified_in A f in
    let ls = literals_of A d in
    let cut = condition_back old.entries.items c.write.new.out.items c.simplify.new.out.items c.in_ok-write.ensures x.0
    c.len-start.result c.truncate-in-Some-false.new.self.items (c.len-start.ensures ∙ old.entries.ok.0) c.truncate-in-Some-false.ensures.items in
    let e = told_known g false (ap Some (sym c.in-Some-false.field-0-test) ∙ sym c.in-Some-false.is ∙ x.0.truth) in (
      one_part (task_in A) (round_in A) (part_of A f d) _ _ 0 (when_dropped (round_in A) g (on_facts (round_in A) ls) ls _ _ e cut refl),
      c.skip_consequent.ensures A.sheet.depth d j (rw q sc),
    )

pub write_consequent-requires : goal.write_consequent-requires
write_consequent-requires c =
    let p = c.requires in
    let q = (c.in_ok-truth.ensures p.0 p.2 p.4).1 in
    (p.1, p.3, rw q p.5)

pub returns-in-Some-true-clause-wrote : goal.returns-in-Some-true-clause-wrote
returns-in-Some-true-clause-wrote c =
    let A = c.args.self.now in
    let old = c.args.draft.now in
    let new = c.write_consequent.new.draft in
    let back : Draft = record { entries = c.truncate.new.self; literals = old.literals } in
    IfOk-weaker c.write_consequent.result (LiteralsPromised A c.in_ok-truth.consequent back new) (WhenPromised A c.args.at old new)
    (λ r h f d i j sf sc.
    let x = c.in_ok-truth.ensures f i sf in
    let q = x.1 in
    let y = h d j (rw q sc) in
    let cut = condition_back old.entries.items c.write.new.out.items c.simplify.new.out.items c.in_ok-write.ensures x.0
    c.len-start.result c.truncate.new.self.items (c.len-start.ensures ∙ old.entries.ok.0) c.truncate.ensures.items in
    let e = told_known (simplified_in A f) true (ap Some (sym c.in-Some-true.field-0-test) ∙ sym c.in-Some-true.is ∙ x.0.truth) in
    (one_part (task_in A) (round_in A) (part_of A f d) old new r.0 (freed_part (round_in A) (simplified_in A f) (literals_of A d) old new r.0 e (appended_from cut refl y.0.0, y.0.1, y.0.2)), y.1))
    c.write_consequent.ensures.wrote

pub returns-in-Some-true-clause-stopped : goal.returns-in-Some-true-clause-stopped
returns-in-Some-true-clause-stopped c =
    let A = c.args.self.now in
    IfErr-weaker c.write_consequent.result (LiteralsExplained A c.in_ok-truth.consequent) (WhenExplained A c.args.at)
    (λ stop h f d i j sf sc.
    let x = c.in_ok-truth.ensures f i sf in
    let q = x.1 in
    let e = told_known (simplified_in A f) true (ap Some (sym c.in-Some-true.field-0-test) ∙ sym c.in-Some-true.is ∙ x.0.truth) in
    when_explained A i f d stop (ap (is false) e) (subst (λ n. Explains (consequent_clash A n d) stop) q (h d j (rw q sc))))
    c.write_consequent.ensures.stopped

pub write_consequent-requires-in-None : goal.write_consequent-requires-in-None
write_consequent-requires-in-None c =
    let p = c.requires in
    let q = (c.in_ok-truth.ensures p.0 p.2 p.4).1 in
    (p.1, p.3, rw q p.5)

pub returns-in_err-written-in-None-clause-stopped : goal.returns-in_err-written-in-None-clause-stopped
returns-in_err-written-in-None-clause-stopped c =
    let p = err_from_is_err_and c.from_residual-in_err-written-in-None.result c.from_residual-in_err-written-in-None.ensures.1 in
    rw (p.1, p.2)
    (λ f d i j sf sc.
    let x = c.in_ok-truth.ensures f i sf in
    let q = x.1 in
    when_explained c.args.self.now i f d c.in_err-written-in-None.field-0.0 (untold_is _ false (sym c.in-None.is ∙ x.0.truth))
    (subst (λ n. Explains (consequent_clash c.args.self.now n d) c.in_err-written-in-None.field-0.0) q (c.in_err-written-in-None.ensures.stopped d j (rw q sc))))

pub returns-then-written-eq0-clause-wrote : goal.returns-then-written-eq0-clause-wrote
returns-then-written-eq0-clause-wrote c f d i j sf sc =
    let A = c.args.self.now in
    let old = c.args.draft.now in
    let x = c.in_ok-truth.ensures f i sf in
    let q = x.1 in
    let y = c.in_ok-written-in-None.ensures.wrote d j (rw q sc) in
    let g = simplified_in A f in
    let ls = literals_of A d in
    let back = when_back old.entries.items c.write.new.out.items c.simplify.new.out.items c.in_ok-write.ensures x.0
    c.write-in-None.new.out.items c.write_consequent-in-None.new.draft.entries.items _ c.in_ok-write-in-None.ensures y.0.0.entries
    c.len-start.result c.truncate-then-written-eq0.new.self.items (c.len-start.ensures ∙ old.entries.ok.0) c.truncate-then-written-eq0.ensures.items in (
      one_part (task_in A) (round_in A) (part_of A f d) _ _ 0
          (when_bare (round_in A) g (on_facts (round_in A) ls) ls _ _ (untold_is g false (sym c.in-None.is ∙ x.0.truth)) y.0.2 (sym c.if-written-eq0.true ∙ y.0.1)
          (record { entries = back ∙ sym (append-nil _); literals = y.0.0.literals })),
      y.1,
    )

pub index_mut-requires : goal.index_mut-requires
index_mut-requires c =
    let p = c.requires in
    let x = c.in_ok-truth.ensures p.0 p.2 p.4 in
    let q = x.1 in
    let y = c.in_ok-written-in-None.ensures.wrote p.1 p.3 (rw q p.5) in
    let new = c.write_consequent-in-None.new.draft.entries in
    let l = group_inside c.args.draft.now.entries.items c.write.new.out.items c.simplify.new.out.items c.in_ok-write.ensures x.0
    c.write-in-None.new.out.items new.items _ c.in_ok-write-in-None.ensures y.0.0.entries
    c.len-group.result (c.len-group.ensures ∙ c.simplify.new.out.ok.0) in
    omega (arith, l, new.ok.0)

pub returns-else-written-eq0-clause-wrote : goal.returns-else-written-eq0-clause-wrote
returns-else-written-eq0-clause-wrote c f d i j sf sc =
    let A = c.args.self.now in
    let old = c.args.draft.now in
    let x = c.in_ok-truth.ensures f i sf in
    let q = x.1 in
    let y = c.in_ok-written-in-None.ensures.wrote d j (rw q sc) in
    let g = simplified_in A f in
    let ls = literals_of A d in
    let t = sym c.in-None.is ∙ x.0.truth in
    let kept = when_patched old.entries.items c.write.new.out.items c.simplify.new.out.items c.in_ok-write.ensures x.0
    c.write-in-None.new.out.items c.write_consequent-in-None.new.draft.entries.items _ c.in_ok-write-in-None.ensures y.0.0.entries
    c.len-group.result c.in_ok-written-in-None.written c.index_mut.result.now (c.len-group.ensures ∙ c.simplify.new.out.ok.0) c.index_mut.ensures.value t in (
      one_part (task_in A) (round_in A) (part_of A f d) _ _ 1
          (when_kept (round_in A) g (on_facts (round_in A) ls) ls _ _ (untold_is g false t) y.0.2 c.in_ok-written-in-None.written c.if-written-eq0.false y.0.1 (untold_is g true t)
          (record { entries = kept; literals = y.0.0.literals })),
      y.1,
    )

pub returns-in_err-write-clause-extends : goal.returns-in_err-write-clause-extends
returns-in_err-write-clause-extends c =
    let p = err_from_is_err_and c.from_residual.result c.from_residual.ensures.1 in
    rw p.1 (draft_entries (extends_same c.in_err-write.ensures) refl)

pub returns-in_err-write-in-None-clause-extends : goal.returns-in_err-write-in-None-clause-extends
returns-in_err-write-in-None-clause-extends c =
    let r = c.requires in
    let x = c.in_ok-truth.ensures r.0 r.2 r.4 in
    let p = err_from_is_err_and c.from_residual-in_err-write-in-None.result c.from_residual-in_err-write-in-None.ensures.1 in
    rw p.1 (draft_entries (extends_pushed _ c.in_ok-write.ensures (extends_after _ x.0.entries (extends_same c.in_err-write-in-None.ensures))) refl)

pub returns-in_err-written-in-None-clause-extends : goal.returns-in_err-written-in-None-clause-extends
returns-in_err-written-in-None-clause-extends c =
    let r = c.requires in
    let x = c.in_ok-truth.ensures r.0 r.2 r.4 in
    let d = c.in_err-written-in-None.ensures.extends in
    let p = err_from_is_err_and c.from_residual-in_err-written-in-None.result c.from_residual-in_err-written-in-None.ensures.1 in
    rw p.1 (draft_by _ (extends_pushed _ c.in_ok-write.ensures (extends_after _ x.0.entries (extends_pushed _ c.in_ok-write-in-None.ensures (entries_extend d)))) d.appends.literals)

pub returns-in-Some-true-clause-extends : goal.returns-in-Some-true-clause-extends
returns-in-Some-true-clause-extends c =
    let r = c.requires in
    let old = c.args.draft.now in
    let x = c.in_ok-truth.ensures r.0 r.2 r.4 in
    let cut = condition_back old.entries.items c.write.new.out.items c.simplify.new.out.items c.in_ok-write.ensures x.0
    c.len-start.result c.truncate.new.self.items (c.len-start.ensures ∙ old.entries.ok.0) c.truncate.ensures.items in
    IfErr-weaker c.write_consequent.result _ _ (λ _ d. draft_by _ (extends_from cut (entries_extend d)) d.appends.literals) c.write_consequent.ensures.extends
