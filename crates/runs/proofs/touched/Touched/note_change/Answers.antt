use Rattle.std.proofs.Common.{◌≡◌, ℕ, ◌+◌, Bool, length, sym, ap, ◌∙◌, inl, inr, arith, rules}
use Rattle.table.specs.declared.kind.Kind.TheVariants.{Not}
use Rattle.table.proofs.Codes.{other_code}
use Rattle.runs.proofs.Shapes.{after_terms}
use Rattle.runs.proofs.EffectShapes.{change_parts}
use Rattle.runs.proofs.Touching.{one_touched}
use Rattle.runs.proofs.touched.Touched.note_change.Goals as goal
use Rattle.runs.proofs.touched.Touched.note_change.Goals.{in-Not, in_default, then-adds, else-adds}

pub returns : goal.returns
returns c v d j s =
    let x = c.args.self.now in
    let w = change_parts s c.match-kind_at.adds.0 c.match-kind_at.adds.1
    (elim c.match-kind_at.branch [
      | in-Not w ↦ inl (sym w.in-Not.ensures, ap (λ (p : Bool × ℕ). p.0) w.adds-is)
      | in_default w ↦ inr (λ q. other_code c.kind_at.result Not w.in_default.not-Not (c.kind_at.ensures ∙ q), ap (λ (p : Bool × ℕ). p.0) w.adds-is)
    ])
    (elim c.match-kind_at.branch [ in-Not w ↦ inr (ap (λ (p : Bool × ℕ). p.0) w.adds-is, ap (λ (p : Bool × ℕ). p.1) w.adds-is) | in_default w ↦ inl (ap (λ (p : Bool × ℕ). p.0) w.adds-is, ap (λ (p : Bool × ℕ). p.1) w.adds-is) ]) in
    let a : length x.added ≡ 32 = search rules in
    let b : length x.deleted ≡ 32 = search rules in (
      one_touched x c.if-adds.self d c.match-kind_at.adds.0 _ w.0 w.1
          (omega (arith, w.2.predicate, c.args.task.now.table.predicates)) (omega (arith, w.2.predicate, c.args.task.now.table.predicates))
          (elim c.if-adds.branch [ then-adds u ↦ inl (u.if-adds.true, u.self-is) | else-adds u ↦ inr (u.if-adds.false, u.self-is) ]),
      ap (λ n. c.match-kind_at.adds.1 + 1 + n) c.arity.ensures ∙ sym (after_terms w.2),
    )
