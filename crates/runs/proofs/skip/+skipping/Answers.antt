use Rattle.std.proofs.Common.{◌≡◌, ℕ, ◌+◌, ◌-◌, ◌≤◌, ◌⊎◌, List, get_or, sym, subst, inl, inr, ⊎_elim, arith}
use Rattle.table.specs.declared.kind.Kind.TheVariants.{Atom, Equal, Not, And, Or, Imply, Forall, Exists}
use Rattle.table.specs.Kinds.{code_of}
use Rattle.table.specs.declared.kind.Kind.{Kind}
use Rattle.std.proofs.lemmas.Bool.{cases_eq}
use Rattle.model.specs.Trees.{Formula}
use Rattle.adl.specs.Tables.{Table}
use Rattle.adl.specs.Held.{held}
use Rattle.runs.specs.Standing.{FormulaAt, FormulasAt}
use Rattle.table.proofs.Codes.{other_code, code_is}
use Rattle.runs.proofs.Shapes.{begins, no_formula, formula_kind, ends_after, at_atom, at_equal, at_not, at_and, at_or, at_imply, at_forall, at_exists, at_true, at_false, after_terms, first_formula}
use Rattle.runs.proofs.skip.+skipping.Goals as goal

-- the formula that follows a NOT, a FORALL or an EXISTS
single : {t : Table} {v i : ℕ} {f : Formula} {j : ℕ} → FormulaAt t v i f j → (r : Kind) → code_of r ≡ get_or t.kinds i 0 → (r ≡ Not) ⊎ ((r ≡ Forall) ⊎ (r ≡ Exists))
    → (w : ℕ) × (g : Formula) × FormulaAt t w (i + 1) g j
single {v = v} s r e (inl h) = let x = at_not s (code_is r Not _ e h) in (v, x.0, x.2)
single {v = v} s r e (inr (inl h)) = let x = at_forall s (code_is r Forall _ e h) in (v + 1, x.0, x.2)
single {v = v} s r e (inr (inr h)) = let x = at_exists s (code_is r Exists _ e h) in (v + 1, x.0, x.2)

-- the formulas that follow an AND or an OR
listed : {t : Table} {v i : ℕ} {f : Formula} {j : ℕ} → FormulaAt t v i f j → (r : Kind) → code_of r ≡ get_or t.kinds i 0 → (r ≡ And) ⊎ (r ≡ Or)
    → (fs : List Formula) × FormulasAt t v (i + 1) (get_or t.operands i 0) fs j
listed s r e (inl h) = let x = at_and s (code_is r And _ e h) in (x.0, x.2)
listed s r e (inr h) = let x = at_or s (code_is r Or _ e h) in (x.0, x.2)

pub skip-offset_bounds-task-at : goal.skip-offset_bounds-task-at
skip-offset_bounds-task-at t c = omega (arith, begins c.requires.3)

pub skip-bounds-task-at : goal.skip-bounds-task-at
skip-bounds-task-at t c = omega (arith, begins c.requires.3)

pub skip-kind_at-requires : goal.skip-kind_at-requires
skip-kind_at-requires t c = record { within = begins c.requires.3; known = omega (arith, formula_kind c.requires.3) }

pub skip-overflow_add-result : goal.skip-overflow_add-result
skip-overflow_add-result t c = omega (arith, begins c.requires.3)

pub skip-overflow_add-result-in-Atom : goal.skip-overflow_add-result-in-Atom
skip-overflow_add-result-in-Atom t c = omega (arith, begins c.requires.3)

pub skip-overflow_add-result-in-Equal : goal.skip-overflow_add-result-in-Equal
skip-overflow_add-result-in-Equal t c = omega (arith, begins c.requires.3)

pub skip-overflow_add-at : goal.skip-overflow_add-at
skip-overflow_add-at t c = omega (arith, begins c.requires.3)

pub skip-skip-requires : goal.skip-skip-requires
skip-skip-requires t c =
    let p = c.requires in
    let x = single p.3 c.kind_at.result c.kind_at.ensures c.in-Not.is in
    (omega (arith, begins p.3), (x.0, x.1, p.2, x.2))

pub skip-overflow_add-at-in-And : goal.skip-overflow_add-at-in-And
skip-overflow_add-at-in-And t c = omega (arith, begins c.requires.3)

pub skip-skip_all-requires : goal.skip-skip_all-requires
skip-skip_all-requires t c =
    let p = c.requires in
    let x = listed p.3 c.kind_at.result c.kind_at.ensures c.in-And.is in
    (omega (arith, begins p.3), (p.0, x.0, p.2, x.1))

pub skip-overflow_add-at-in-Imply : goal.skip-overflow_add-at-in-Imply
skip-overflow_add-at-in-Imply t c = omega (arith, begins c.requires.3)

pub skip-skip-second-requires : goal.skip-skip-second-requires
skip-skip-second-requires t c =
    let p = c.requires in
    let x = at_imply p.3 c.in-Imply.ensures in
    (omega (arith, begins p.3), (p.0, x.0, x.2, x.4))

pub skip-skip-requires-in-Imply : goal.skip-skip-requires-in-Imply
skip-skip-requires-in-Imply t c =
    let p = c.requires in
    let x = at_imply p.3 c.in-Imply.ensures in
    let e = c.skip-second.ensures p.0 x.0 x.2 x.4 in
    (omega (arith, begins p.3, ends_after x.4, e), (p.0, x.1, p.2, subst (λ n. FormulaAt (held c.args.task.now) p.0 n x.1 p.2) (sym e) x.5))

pub skip-overflow_add-result-in_default : goal.skip-overflow_add-result-in_default
skip-overflow_add-result-in_default t c = omega (arith, begins c.requires.3)

pub skip-returns-in-Atom : goal.skip-returns-in-Atom
skip-returns-in-Atom t c v f j s = let x = at_atom s c.in-Atom.ensures in omega (arith, after_terms x.2, c.arity.ensures)

pub skip-returns-in-Equal : goal.skip-returns-in-Equal
skip-returns-in-Equal t c v f j s = let x = at_equal s c.in-Equal.ensures in sym x.5

pub skip-returns-in-Not : goal.skip-returns-in-Not
skip-returns-in-Not t c v f j s =
    let x = single s c.kind_at.result c.kind_at.ensures c.in-Not.is in
    c.skip.ensures x.0 x.1 j x.2

pub skip-returns-in-And : goal.skip-returns-in-And
skip-returns-in-And t c v f j s =
    let x = listed s c.kind_at.result c.kind_at.ensures c.in-And.is in
    c.skip_all.ensures v x.0 j x.1

pub skip-returns-in-Imply : goal.skip-returns-in-Imply
skip-returns-in-Imply t c v f j s =
    let x = at_imply s c.in-Imply.ensures in
    let e = c.skip-second.ensures v x.0 x.2 x.4 in
    c.skip-in-Imply.ensures v x.1 j (subst (λ n. FormulaAt (held c.args.task.now) v n x.1 j) (sym e) x.5)

pub skip-returns-in_default : goal.skip-returns-in_default
skip-returns-in_default t c v f j s =
    let k = get_or c.args.task.now.table.entries.kinds.now c.args.at 0 in
    let r = c.kind_at.result in
    let h = c.in_default in
    let q : k ≤ 1 = omega (
      arith,
      formula_kind s,
      c.kind_at.ensures,
      other_code r Atom h.not-Atom,
      other_code r Equal h.not-Equal,
      other_code r Not h.not-Not,
      other_code r And h.not-And,
      other_code r Or h.not-Or,
      other_code r Imply h.not-Imply,
      other_code r Forall h.not-Forall,
      other_code r Exists h.not-Exists,
    ) in
    ⊎_elim (λ e. sym (at_true s (sym e)).1) (λ n. let e : ◌≡◌ {A = ℕ} 1 k = omega arith in sym (at_false s e).1) (cases_eq k 0)

pub skip_all-loop-k-init : goal.skip_all-loop-k-init
skip_all-loop-k-init t c =
    let n : c.args.count - 0 ≡ c.args.count = omega arith in
    (omega arith, λ v fs j s. (fs, rw n s))

pub skip_all-skip-next-requires : goal.skip_all-skip-next-requires
skip_all-skip-next-requires t c =
    let p = c.requires in
    let i = c.loop-k.invariant in
    let x = first_formula (i.1 p.0 p.1 p.2 p.3).1 (c.args.count - (c.loop-k._k + 1)) (omega arith) in
    (omega (arith, i.0), (p.0, x.0, x.1, x.4))

pub skip_all-loop-k-preserved : goal.skip_all-loop-k-preserved
skip_all-loop-k-preserved t c =
    let p = c.requires in
    let i = c.loop-k.invariant in
    let r = c.args.count - (c.loop-k._k + 1) in
    let x = first_formula (i.1 p.0 p.1 p.2 p.3).1 r (omega arith) in (
      omega (arith, i.0, ends_after x.4, c.skip-next.ensures p.0 x.0 x.1 x.4),
      λ v fs j s.
          let x = first_formula (i.1 v fs j s).1 r (omega arith) in
          let e = c.skip-next.ensures v x.0 x.1 x.4 in
          (x.2, rw e x.5),
    )

pub skip_all-returns : goal.skip_all-returns
skip_all-returns t c v fs j s = sym (no_formula (c.loop-k.invariant.1 v fs j s).1 (omega (arith, c.loop-k-test.false))).1
