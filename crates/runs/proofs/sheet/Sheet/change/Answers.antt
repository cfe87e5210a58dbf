use Rattle.rising.specs.declared.literal.Sign.{Sign}
use Rattle.rising.specs.Literals.{is_adds}
use Rattle.std.proofs.Common.{ℕ, ◌+◌, sym, ap, ◌∙◌, inl, inr}
use Rattle.table.specs.declared.kind.Kind.TheVariants.{Not}
use Rattle.model.specs.Meaning.{Literal, ground}
use Rattle.adl.specs.Held.{tree_of}
use Rattle.runs.specs.Shown.{bound}
use Rattle.table.proofs.Codes.{other_code}
use Rattle.runs.proofs.Shapes.{after_terms}
use Rattle.runs.proofs.EffectShapes.{change_parts}
use Rattle.runs.proofs.sheet.Sheet.change.Goals as goal
use Rattle.runs.proofs.sheet.Sheet.change.Goals.{in-Not, in_default}

pub atom_number-atom-requires : goal.atom_number-atom-requires
atom_number-atom-requires c =
    let p = c.requires in
    let w = change_parts p.2 (is_adds c.match-kind_at.sign.0) c.match-kind_at.sign.1
    (elim c.match-kind_at.branch [
      | in-Not w ↦ inl (sym w.in-Not.ensures, ap (λ (p : Sign × ℕ). is_adds p.0) w.sign-is)
      | in_default w ↦ inr (λ q. other_code c.kind_at.result Not w.in_default.not-Not (c.kind_at.ensures ∙ q), ap (λ (p : Sign × ℕ). is_adds p.0) w.sign-is)
    ])
    (elim c.match-kind_at.branch [ in-Not w ↦ inr (ap (λ (p : Sign × ℕ). is_adds p.0) w.sign-is, ap (λ (p : Sign × ℕ). p.1) w.sign-is) | in_default w ↦ inl (ap (λ (p : Sign × ℕ). is_adds p.0) w.sign-is, ap (λ (p : Sign × ℕ). p.1) w.sign-is) ]) in
    (w.0, p.1, w.2)

pub returns : goal.returns
returns c d j s =
    let w = change_parts s (is_adds c.match-kind_at.sign.0) c.match-kind_at.sign.1
    (elim c.match-kind_at.branch [
      | in-Not w ↦ inl (sym w.in-Not.ensures, ap (λ (p : Sign × ℕ). is_adds p.0) w.sign-is)
      | in_default w ↦ inr (λ q. other_code c.kind_at.result Not w.in_default.not-Not (c.kind_at.ensures ∙ q), ap (λ (p : Sign × ℕ). is_adds p.0) w.sign-is)
    ])
    (elim c.match-kind_at.branch [ in-Not w ↦ inr (ap (λ (p : Sign × ℕ). is_adds p.0) w.sign-is, ap (λ (p : Sign × ℕ). p.1) w.sign-is) | in_default w ↦ inl (ap (λ (p : Sign × ℕ). is_adds p.0) w.sign-is, ap (λ (p : Sign × ℕ). p.1) w.sign-is) ]) in
    let literal : ℕ → Literal = λ n. record { adds = is_adds c.match-kind_at.sign.0; atom = n } in (
      ap literal (c.atom_number-atom.ensures.atom w.0 j w.2) ∙ ap (ground (tree_of c.args.self.now.task.now) (bound c.args.self.now)) (sym w.1),
      ap (λ n. c.match-kind_at.sign.1 + 1 + n) c.arity.ensures ∙ sym (after_terms w.2),
    )
