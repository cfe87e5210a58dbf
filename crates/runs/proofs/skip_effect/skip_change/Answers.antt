use Rattle.std.proofs.Common.{◌+◌, sym, ap, ◌∙◌, inl, inr}
use Rattle.table.specs.declared.kind.Kind.TheVariants.{Not}
use Rattle.table.proofs.Codes.{other_code}
use Rattle.runs.proofs.EffectShapes.{change_ends, not_deleted}
use Rattle.runs.proofs.skip_effect.skip_change.Goals as goal
use Rattle.runs.proofs.skip_effect.skip_change.Goals.{in-Not, in_default}

pub returns : goal.returns
returns c v d j s =
    ap (λ n. c.match-kind_at.atom + 1 + n) c.arity.ensures
    ∙ change_ends s c.match-kind_at.atom
    (elim c.match-kind_at.branch [
      | in-Not w ↦ inl (sym w.in-Not.ensures, w.atom-is)
      | in_default w ↦ inr (not_deleted s (λ q. other_code c.kind_at.result Not w.in_default.not-Not (c.kind_at.ensures ∙ q)), w.atom-is)
    ])
