use Rattle.std.proofs.Common.{Bool, cond, [], ◌∷◌, ◌++◌, map, not, sym, refl, ap, ◌∙◌}
use Rattle.std.proofs.lemmas.List.{append-nil, map-append}
use Rattle.std.specs.Bool.{beq}
use Rattle.table.specs.Entries.{coded}
use Rattle.book_theorems.specs.Writes.{write_literal}
use Rattle.rising.specs.Literals.{is_adds}
use Rattle.model.specs.Meaning.{Literal}
use Rattle.std.proofs.Math.Option.{some, none}
use Rattle.book_of_task.specs.Clashes.{clashes}
use Rattle.runs.specs.Clauses.{round_in}
use Rattle.runs.specs.Effects.{meant}
use Rattle.runs.specs.Settled.{round_of}
use Rattle.runs.proofs.Appending.{literals_as, literal_written, changes, literal_clashes}
use Rattle.std.proofs.lemmas.Result.{err_from_is_err_and}
use Rattle.runs.proofs.Extending.{extends_same, draft_by, draft_entries}
use Rattle.runs.proofs.settling.Settling.write_literal.Goals as goal

pub returns-else-truth-adds-clause-wrote : goal.returns-else-truth-adds-clause-wrote
returns-else-truth-adds-clause-wrote c d j s =
    let e = c.change-next.ensures d j s in
    let l = c.change-next.result.0 in (
      literals_as (round_in c.args.self.now) (meant l ∷ []) _ _ _ 0 (ap (λ (m : Literal). m ∷ []) (sym e.0))
          (literal_written c.args.self.now.verdicts.now l _ _ _ 0 c.in-Always.ensures
          (record { entries = sym (append-nil _); literals = ap (map meant) c.in_ok-note.ensures ∙ map-append meant c.args.draft.now.literals.items (l ∷ []) }) refl
          (changes c.args.self.now.verdicts.now l c.in-Always.truth (is_adds l.sign) ∙ ap (λ x. not (beq c.in-Always.truth x)) (sym c.adds-adds.ensures) ∙ c.if-truth-adds.false)),
      e.1,
    )

pub returns-then-truth-adds-clause-stopped : goal.returns-then-truth-adds-clause-stopped
returns-then-truth-adds-clause-stopped c d j s =
    let l = c.change-next.result.0 in
    let vs = c.args.self.now.verdicts.now in
    let e = literal_clashes vs l c.in-Always.truth c.in-Always.ensures (ap (λ x. not (beq c.in-Always.truth x)) (sym c.adds-adds.ensures) ∙ c.if-truth-adds.true) in
    ap (λ (m : Literal). cond (clashes (round_of vs) m) (some c.args.at) none) (sym (c.change-next.ensures d j s).0) ∙ ap (λ (b : Bool). cond b (some c.args.at) none) e

pub returns-in_ok-write_fact-in-Fact-clause-wrote : goal.returns-in_ok-write_fact-in-Fact-clause-wrote
returns-in_ok-write_fact-in-Fact-clause-wrote c d j s =
    let e = c.change-next.ensures d j s in
    let l = c.change-next.result.0 in
    let f : Literal = record { adds = is_adds l.sign; atom = c.in-Fact.fact } in
    let old = c.args.draft.now in (
      literals_as (round_in c.args.self.now) (meant l ∷ []) _ _ _ 1 (ap (λ (m : Literal). m ∷ []) (sym e.0))
          (literal_written c.args.self.now.verdicts.now l _ _ _ 1 c.in-Fact.ensures
          (record {
            entries = c.in_ok-write_fact-in-Fact.ensures
                ∙ ap (λ a. map coded old.entries.items ++ write_literal (record { adds = a; atom = c.in-Fact.fact })) c.adds-adds.ensures
                ∙ ap (λ zs. map coded old.entries.items ++ zs) (sym (append-nil (write_literal f)));
            literals = ap (map meant) c.in_ok-note.ensures ∙ map-append meant old.literals.items (l ∷ []);
          }) refl refl),
      e.1,
    )

pub returns-in_err-note-clause-extends : goal.returns-in_err-note-clause-extends
returns-in_err-note-clause-extends c =
    let p = err_from_is_err_and c.from_residual.result c.from_residual.ensures.1 in
    rw p.1 (draft_entries (extends_same refl) c.in_err-note.ensures)

pub returns-then-truth-adds-clause-extends : goal.returns-then-truth-adds-clause-extends
returns-then-truth-adds-clause-extends c =
    let l = c.change-next.result.0 in
    draft_by _ (extends_same refl) (ap (map meant) c.in_ok-note.ensures ∙ map-append meant c.args.draft.now.literals.items (l ∷ []))

pub returns-in_err-write_fact-in-Fact-clause-extends : goal.returns-in_err-write_fact-in-Fact-clause-extends
returns-in_err-write_fact-in-Fact-clause-extends c =
    let l = c.change-next.result.0 in
    let p = err_from_is_err_and c.from_residual-in_err-write_fact-in-Fact.result c.from_residual-in_err-write_fact-in-Fact.ensures.1 in
    rw p.1 (draft_by _ c.in_err-write_fact-in-Fact.ensures (ap (map meant) c.in_ok-note.ensures ∙ map-append meant c.args.draft.now.literals.items (l ∷ [])))
