use Rattle.std.proofs.Common.{◌≡◌, ℕ, Bool, true, false, cond, List, [], ◌∷◌, ◌++◌, map, Vec, Global, refl, sym, ap, ◌∙◌}
use Rattle.std.proofs.lemmas.List.{append-nil, append_assoc, map-append}
use Rattle.std.proofs.lemmas.Result.{MatchResult-weaker}
use Rattle.table.specs.declared.arrays.Head.{Head}
use Rattle.table.specs.declared.kind.Kind.TheVariants.{Not, Fact}
use Rattle.table.specs.Entries.{coded}
use Rattle.table.specs.Reading.{entry}
use Rattle.book_theorems.specs.Writes.{write_literal}
use Rattle.runs.proofs.Extending.{extends_by}
use Rattle.runs.proofs.draft.write_fact.Goals as goal
use Rattle.runs.proofs.draft.write_fact.Goals.{then-not-adds+in_ok-write, else-not-adds}

-- what stands before FACT
abbrev before_fact : Bool → List Head
before_fact adds = cond adds [] (record { kind = Not; operand = 0 } ∷ [])

both : (adds : Bool) (j : ℕ) → map coded (before_fact adds) ++ (entry 13 j ∷ []) ≡ write_literal (record { adds = adds; atom = j })
both true j = refl
both false j = refl

fact_entries : (adds : Bool) (j : ℕ) (es fs gs : List Head) → fs ≡ es ++ before_fact adds → gs ≡ fs ++ (record { kind = Fact; operand = j } ∷ [])
    → map coded gs ≡ map coded es ++ write_literal (record { adds = adds; atom = j })
fact_entries adds j es fs gs p q =
    ap (map coded) q ∙ map-append coded fs (record { kind = Fact; operand = j } ∷ [])
    ∙ ap (λ zs. zs ++ (entry 13 j ∷ [])) (ap (map coded) p ∙ map-append coded es (before_fact adds))
    ∙ append_assoc (map coded es) (map coded (before_fact adds)) (entry 13 j ∷ []) ∙ ap (λ zs. map coded es ++ zs) (both adds j)

pub returns : goal.returns
returns c =
    let es = c.args.out.now.items in
    let fs = c.if-not-adds.out.items in
    let gs = c.write-2.new.out.items in
    let b = c.args.adds in
    let head : Head = record { kind = Fact; operand = c.args.fact } in
    let first : fs ≡ es ++ before_fact b =
    elim c.if-not-adds.branch [
      | then-not-adds+in_ok-write w ↦ ap (λ (v : Vec Head Global). v.items) w.out-is ∙ w.in_ok-write.ensures ∙ ap (λ a. es ++ before_fact a) (sym w.if-not-adds.true)
      | else-not-adds w ↦ ap (λ (v : Vec Head Global). v.items) w.out-is ∙ sym (append-nil es) ∙ ap (λ a. es ++ before_fact a) (sym w.if-not-adds.false)
    ] in
    MatchResult-weaker c.write-2.result c.write-2.ensures (λ _ q. fact_entries b c.args.fact es fs gs first q)
    (λ _ q. extends_by _ (ap (map coded) q ∙ ap (map coded) first ∙ map-append coded es (before_fact b)))
