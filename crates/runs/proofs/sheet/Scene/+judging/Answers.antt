use Rattle.protocol.specs.Junctions.{joining}
use Rattle.std.proofs.Common.{List, ◌∷◌, ◌≡◌, ℕ, ◌+◌, ◌-◌, ◌<◌, Bool, true, false, not, ◌||◌, eqb, length, get_or, sym, refl, ap, ◌∙◌, subst, arith, rules, below_more}
use Rattle.std.proofs.lemmas.Bool.{eqb-true, eq-eqb}
use Rattle.table.specs.declared.kind.Kind.TheVariants.{True, False, Atom, Equal, Not, And, Or, Imply, Forall, Exists}
use Rattle.model.specs.Trees.{all, any, Formula, constant, atom, equal, junction, quantifier, in_set, members}
use Rattle.model.specs.Meaning.{object_of, bind, value}
use Rattle.runs.specs.declared.sheet.Scene.{Scene}
use Rattle.adl.specs.Reads.{formulas_of}
use Rattle.adl.specs.Held.{held, tree_of}
use Rattle.protocol.specs.Shown.{shown}
use Rattle.runs.specs.Shown.{bound, OneMore, FormulaIn, FormulasIn, value_in}
use Rattle.runs.specs.Standing.{FormulaAt, FormulasAt}
use Rattle.table.proofs.Codes.{other_code}
use Rattle.adl_theorems.proofs.Standing.{declarations_inside}
use Rattle.runs.proofs.Junctions.{agree, none_left, over_all, over_one, is_member, member_is, from, opposite, implied, decided, left_to}
use Rattle.runs.proofs.Shapes.{begins, no_formula, formula_kind, ends_after, at_true, at_false, at_atom, at_equal, at_not, at_and, at_or, at_imply, at_forall, at_exists, after_terms, first_formula}
use Rattle.runs.proofs.Sheets.{restored, formula_seen, value_seen}
use Rattle.runs.proofs.sheet.Scene.+judging.Goals as goal
use Rattle.runs.proofs.sheet.Scene.+judging.Goals.{judge_each-then-members-o-eq1+else-part-undecided, judge_each-else-members-o-eq1}

-- an implication whose first part is false, or true
first_false : (a b : Bool) → a ≡ false → not a ≡ (not a || b)
first_false true b e = cc
first_false false b e = refl

first_true : (a b : Bool) → a ≡ true → b ≡ (not a || b)
first_true true b e = refl
first_true false b e = cc

-- what judging the formula at a place of a scene tells
abbrev Judged : Scene → ℕ → Bool → ℕ → Type 0
Judged s i v n = (f : Formula) (j : ℕ) → FormulaIn s i f j → (v ≡ value_in s f) × (n ≡ j)

pub judge-offset_bounds-task-at : goal.judge-offset_bounds-task-at
judge-offset_bounds-task-at t c = omega (arith, begins c.requires.2)

pub judge-bounds-task-at : goal.judge-bounds-task-at
judge-bounds-task-at t c = omega (arith, begins c.requires.2)

pub judge-kind_at-requires : goal.judge-kind_at-requires
judge-kind_at-requires t c = let s = c.requires.2 in record { within = begins s; known = omega (arith, formula_kind s) }

pub judge-overflow_add-result : goal.judge-overflow_add-result
judge-overflow_add-result t c = omega (arith, begins c.requires.2)

pub judge-overflow_add-result-in-False : goal.judge-overflow_add-result-in-False
judge-overflow_add-result-in-False t c = omega (arith, begins c.requires.2)

pub judge-overflow_add-at : goal.judge-overflow_add-at
judge-overflow_add-at t c = omega (arith, begins c.requires.2)

pub judge-atom_number-atom-requires : goal.judge-atom_number-atom-requires
judge-atom_number-atom-requires t c =
    let p = c.requires in
    let x = at_atom p.2 c.in-Atom.ensures in
    (x.0, p.1, x.2)

pub judge-overflow_add-result-in-Atom : goal.judge-overflow_add-result-in-Atom
judge-overflow_add-result-in-Atom t c = omega (arith, begins c.requires.2)

pub judge-overflow_add-result-in-Atom-2 : goal.judge-overflow_add-result-in-Atom-2
judge-overflow_add-result-in-Atom-2 t c = omega (arith, begins c.requires.2)

pub judge-overflow_add-at-in-Equal : goal.judge-overflow_add-at-in-Equal
judge-overflow_add-at-in-Equal t c = omega (arith, begins c.requires.2)

pub judge-term-first-requires : goal.judge-term-first-requires
judge-term-first-requires t c =
    let x = at_equal c.requires.2 c.in-Equal.ensures in
    (x.0, x.3)

pub judge-overflow_add-at-in-Equal-2 : goal.judge-overflow_add-at-in-Equal-2
judge-overflow_add-at-in-Equal-2 t c = omega (arith, begins c.requires.2)

pub judge-term-second-requires : goal.judge-term-second-requires
judge-term-second-requires t c =
    let x = at_equal c.requires.2 c.in-Equal.ensures in
    (x.1, x.4)

pub judge-overflow_add-result-in-Equal : goal.judge-overflow_add-result-in-Equal
judge-overflow_add-result-in-Equal t c = omega (arith, begins c.requires.2)

pub judge-overflow_add-at-in-Not : goal.judge-overflow_add-at-in-Not
judge-overflow_add-at-in-Not t c = omega (arith, begins c.requires.2)

pub judge-judge-part-requires : goal.judge-judge-part-requires
judge-judge-part-requires t c =
    let p = c.requires in
    let x = at_not p.2 c.in-Not.ensures in
    (omega (arith, begins p.2), (x.0, p.1, x.2))

pub judge-overflow_add-at-in-And : goal.judge-overflow_add-at-in-And
judge-overflow_add-at-in-And t c = omega (arith, begins c.requires.2)

pub judge-judge_all-requires : goal.judge-judge_all-requires
judge-judge_all-requires t c =
    let p = c.requires in
    let x = at_and p.2 c.in-And.ensures in
    (omega (arith, begins p.2), (x.0, p.1, x.2))

pub judge-overflow_add-at-in-Or : goal.judge-overflow_add-at-in-Or
judge-overflow_add-at-in-Or t c = omega (arith, begins c.requires.2)

pub judge-judge_all-requires-in-Or : goal.judge-judge_all-requires-in-Or
judge-judge_all-requires-in-Or t c =
    let p = c.requires in
    let x = at_or p.2 c.in-Or.ensures in
    (omega (arith, begins p.2), (x.0, p.1, x.2))

pub judge-overflow_add-at-in-Imply : goal.judge-overflow_add-at-in-Imply
judge-overflow_add-at-in-Imply t c = omega (arith, begins c.requires.2)

pub judge-judge-first-requires : goal.judge-judge-first-requires
judge-judge-first-requires t c =
    let p = c.requires in
    let x = at_imply p.2 c.in-Imply.ensures in
    (omega (arith, begins p.2), (x.0, x.2, x.4))

pub judge-judge-second-requires : goal.judge-judge-second-requires
judge-judge-second-requires t c =
    let p = c.requires in
    let x = at_imply p.2 c.in-Imply.ensures in
    let e = (c.judge-first.ensures.value x.0 x.2 x.4).1 in (
      omega (arith, begins p.2, ends_after x.4, e, ap (λ (s : Scene). s.sheet.task.now.table.sizes.entries) c.judge-first.ensures.same),
      (x.1, p.1, subst (λ s. FormulaIn s c.judge-first.result.1 x.1 p.1) (sym c.judge-first.ensures.same) (subst (λ n. FormulaIn c.args.self.now n x.1 p.1) (sym e) x.5)),
    )

pub judge-overflow_add-at-in-Forall : goal.judge-overflow_add-at-in-Forall
judge-overflow_add-at-in-Forall t c = omega (arith, begins c.requires.2)

pub judge-judge_each-every-requires : goal.judge-judge_each-every-requires
judge-judge_each-every-requires t c =
    let p = c.requires in
    let x = at_forall p.2 c.in-Forall.ensures in
    (omega (arith, begins p.2), (x.4, (x.3, (x.0, p.1, x.2))))

pub judge-overflow_add-at-in-Forall-2 : goal.judge-overflow_add-at-in-Forall-2
judge-overflow_add-at-in-Forall-2 t c = omega (arith, begins c.requires.2)

pub judge-skip-requires : goal.judge-skip-requires
judge-skip-requires t c =
    let p = c.requires in
    let x = at_forall p.2 c.in-Forall.ensures in
    (c.args.self.now.sheet.depth + 1, x.0, p.1, x.2)

pub judge-overflow_add-at-in-Exists : goal.judge-overflow_add-at-in-Exists
judge-overflow_add-at-in-Exists t c = omega (arith, begins c.requires.2)

pub judge-judge_each-some-requires : goal.judge-judge_each-some-requires
judge-judge_each-some-requires t c =
    let p = c.requires in
    let x = at_exists p.2 c.in-Exists.ensures in
    (omega (arith, begins p.2), (x.4, (x.3, (x.0, p.1, x.2))))

pub judge-overflow_add-at-in-Exists-2 : goal.judge-overflow_add-at-in-Exists-2
judge-overflow_add-at-in-Exists-2 t c = omega (arith, begins c.requires.2)

pub judge-skip-requires-in-Exists : goal.judge-skip-requires-in-Exists
judge-skip-requires-in-Exists t c =
    let p = c.requires in
    let x = at_exists p.2 c.in-Exists.ensures in
    (c.args.self.now.sheet.depth + 1, x.0, p.1, x.2)

pub judge-unreachable-requires : goal.judge-unreachable-requires
judge-unreachable-requires t c =
    let r = c.kind_at.result in
    let h = c.in_default in
    omega (
      arith,
      formula_kind c.requires.2,
      c.kind_at.ensures,
      other_code r True h.not-True,
      other_code r False h.not-False,
      other_code r Atom h.not-Atom,
      other_code r Equal h.not-Equal,
      other_code r Not h.not-Not,
      other_code r And h.not-And,
      other_code r Or h.not-Or,
      other_code r Imply h.not-Imply,
      other_code r Forall h.not-Forall,
      other_code r Exists h.not-Exists,
    )

pub judge-returns-in-True : goal.judge-returns-in-True
judge-returns-in-True t c =
    record {
      same = refl;
      value = λ f j s.
          let x = at_true s c.in-True.ensures in
          (from (tree_of c.args.self.now.sheet.task.now) (shown c.args.self.now.image.now) (bound c.args.self.now.sheet) f (constant true) true x.0 refl, sym x.1);
    }

pub judge-returns-in-False : goal.judge-returns-in-False
judge-returns-in-False t c =
    record {
      same = refl;
      value = λ f j s.
          let x = at_false s c.in-False.ensures in
          (from (tree_of c.args.self.now.sheet.task.now) (shown c.args.self.now.image.now) (bound c.args.self.now.sheet) f (constant false) false x.0 refl, sym x.1);
    }

pub judge-returns-in-Atom : goal.judge-returns-in-Atom
judge-returns-in-Atom t c =
    record {
      same = refl;
      value = λ f j s.
          let x = at_atom s c.in-Atom.ensures in (
            from (tree_of c.args.self.now.sheet.task.now) (shown c.args.self.now.image.now) (bound c.args.self.now.sheet) f (atom (get_or c.args.self.now.sheet.task.now.table.entries.operands.now c.args.at 0) x.0) _ x.1
                (c.shows.ensures ∙ ap (shown c.args.self.now.image.now) (c.atom_number-atom.ensures.atom x.0 j x.2)),
            omega (arith, after_terms x.2, c.arity.ensures),
          );
    }

pub judge-returns-in-Equal : goal.judge-returns-in-Equal
judge-returns-in-Equal t c =
    record {
      same = refl;
      value = λ f j s.
          let x = at_equal s c.in-Equal.ensures in (
            from (tree_of c.args.self.now.sheet.task.now) (shown c.args.self.now.image.now) (bound c.args.self.now.sheet) f (equal x.0 x.1) _ x.2
                (ap (λ o. eqb o c.term-second.result) (c.term-first.ensures.object x.0 x.3) ∙ ap (eqb (object_of (bound c.args.self.now.sheet) x.0)) (c.term-second.ensures.object x.1 x.4)),
            sym x.5,
          );
    }

pub judge-returns-in-Not : goal.judge-returns-in-Not
judge-returns-in-Not t c =
    record {
      same = c.judge-part.ensures.same;
      value = λ f j s.
          let x = at_not s c.in-Not.ensures in
          let e = c.judge-part.ensures.value x.0 j x.2 in
          (opposite (tree_of c.args.self.now.sheet.task.now) (shown c.args.self.now.image.now) (bound c.args.self.now.sheet) f x.0 c.judge-part.result.0 x.1 e.0, e.1);
    }

pub judge-returns-in-And : goal.judge-returns-in-And
judge-returns-in-And t c =
    record {
      same = c.judge_all.ensures.same;
      value = λ f j s.
          let x = at_and s c.in-And.ensures in
          let e = c.judge_all.ensures.value x.0 j x.2 in
          (from (tree_of c.args.self.now.sheet.task.now) (shown c.args.self.now.image.now) (bound c.args.self.now.sheet) f (junction all (formulas_of x.0)) _ x.1 e.0, e.1);
    }

pub judge-returns-in-Or : goal.judge-returns-in-Or
judge-returns-in-Or t c =
    record {
      same = c.judge_all-in-Or.ensures.same;
      value = λ f j s.
          let x = at_or s c.in-Or.ensures in
          let e = c.judge_all-in-Or.ensures.value x.0 j x.2 in
          (from (tree_of c.args.self.now.sheet.task.now) (shown c.args.self.now.image.now) (bound c.args.self.now.sheet) f (junction any (formulas_of x.0)) _ x.1 e.0, e.1);
    }

pub judge-returns-then-not-first : goal.judge-returns-then-not-first
judge-returns-then-not-first t c =
    let A = c.args.self.now in
    record {
      same = c.judge-second.ensures.same ∙ c.judge-first.ensures.same;
      value = λ f j s.
          let x = at_imply s c.in-Imply.ensures in
          let a = c.judge-first.ensures.value x.0 x.2 x.4 in
          let second = subst (λ s. Judged s c.judge-first.result.1 c.judge-second.result.0 c.judge-second.result.1) c.judge-first.ensures.same c.judge-second.ensures.value in
          let b = second x.1 j (subst (λ n. FormulaIn A n x.1 j) (sym a.1) x.5) in
          (implied (tree_of A.sheet.task.now) (shown A.image.now) (bound A.sheet) f x.0 x.1 c.judge-first.result.0 c.judge-second.result.0 _ x.3 a.0 b.0 (first_false c.judge-first.result.0 c.judge-second.result.0 c.if-not-first.true), b.1);
    }

pub judge-returns-else-not-first : goal.judge-returns-else-not-first
judge-returns-else-not-first t c =
    let A = c.args.self.now in
    record {
      same = c.judge-second.ensures.same ∙ c.judge-first.ensures.same;
      value = λ f j s.
          let x = at_imply s c.in-Imply.ensures in
          let a = c.judge-first.ensures.value x.0 x.2 x.4 in
          let second = subst (λ s. Judged s c.judge-first.result.1 c.judge-second.result.0 c.judge-second.result.1) c.judge-first.ensures.same c.judge-second.ensures.value in
          let b = second x.1 j (subst (λ n. FormulaIn A n x.1 j) (sym a.1) x.5) in
          (implied (tree_of A.sheet.task.now) (shown A.image.now) (bound A.sheet) f x.0 x.1 c.judge-first.result.0 c.judge-second.result.0 _ x.3 a.0 b.0 (first_true c.judge-first.result.0 c.judge-second.result.0 c.if-not-first.false), b.1);
    }

pub judge-returns-in-Forall : goal.judge-returns-in-Forall
judge-returns-in-Forall t c =
    record {
      same = c.judge_each-every.ensures.same;
      value = λ f j s.
          let x = at_forall s c.in-Forall.ensures in (
            from (tree_of c.args.self.now.sheet.task.now) (shown c.args.self.now.image.now) (bound c.args.self.now.sheet) f (quantifier all (get_or c.args.self.now.sheet.task.now.table.entries.operands.now c.args.at 0) x.0) _ x.1
                (c.judge_each-every.ensures.value x.0 j x.2),
            c.skip.ensures (c.args.self.now.sheet.depth + 1) x.0 j x.2,
          );
    }

pub judge-returns-in-Exists : goal.judge-returns-in-Exists
judge-returns-in-Exists t c =
    record {
      same = c.judge_each-some.ensures.same;
      value = λ f j s.
          let x = at_exists s c.in-Exists.ensures in (
            from (tree_of c.args.self.now.sheet.task.now) (shown c.args.self.now.image.now) (bound c.args.self.now.sheet) f (quantifier any (get_or c.args.self.now.sheet.task.now.table.entries.operands.now c.args.at 0) x.0) _ x.1
                (c.judge_each-some.ensures.value x.0 j x.2),
            c.skip-in-Exists.ensures (c.args.self.now.sheet.depth + 1) x.0 j x.2,
          );
    }

-- what a turn of the loop finds: the first formula that is left, its value, and where the others stand
turn : (A L : Scene) (i k m r : ℕ) (v : Bool) (gs : List Formula) (j : ℕ) → L ≡ A → Judged L i v k → m ≡ r + 1 → FormulasIn A i m gs j
    → (f : Formula) × (hs : List Formula) × (gs ≡ f ∷ hs) × (v ≡ value_in A f) × FormulasIn A k r hs j × (i < k)
turn A L i k m r v gs j same d h s =
    let x = first_formula s r h in
    let e = subst (λ a. Judged a i v k) same d x.0 x.1 x.4 in
    (x.0, x.2, x.3, e.0, subst (λ n. FormulasIn A n r x.2 j) (sym e.1) x.5, omega (arith, ends_after x.4, e.1))

-- the value of the formula with one variable more
instance : (A L B : Scene) (o i k : ℕ) (v : Bool) → L ≡ A → OneMore L o B → Judged B i v k → A.sheet.depth < length A.sheet.objects → (f : Formula) (j : ℕ) → FormulaAt (held A.sheet.task.now) (A.sheet.depth + 1) i f j
    → v ≡ value (tree_of A.sheet.task.now) (shown A.image.now) (bind (bound A.sheet) o) f
instance A L B o i k v same m d l f j s = let n = subst (λ a. OneMore a o B) same m in (d f j (formula_seen n s)).0 ∙ value_seen n l f

pub judge_all-loop-k-init : goal.judge_all-loop-k-init
judge_all-loop-k-init t c =
    let n : c.args.count - 0 ≡ c.args.count = omega arith in
    (refl, omega arith, λ fs j s. (fs, rw n s, refl))

pub judge_all-judge-part-requires : goal.judge_all-judge-part-requires
judge_all-judge-part-requires t c =
    let p = c.requires in
    let i = c.loop-k.invariant in
    let x = first_formula (i.2 p.0 p.1 p.2).1 (c.args.count - c.loop-k.k - 1) (omega arith) in
    (omega (arith, i.1, ap (λ (s : Scene). s.sheet.task.now.table.sizes.entries) i.0), (x.0, x.1, subst (λ s. FormulaIn s c.loop-k.next x.0 x.1) (sym i.0) x.4))

pub judge_all-skip_all-requires : goal.judge_all-skip_all-requires
judge_all-skip_all-requires t c =
    let p = c.requires in
    let i = c.loop-k.invariant in
    let A = c.args.self.now in
    let r = c.args.count - c.loop-k.k - 1 in
    let x = turn A c.loop-k.self c.loop-k.next c.judge-part.result.1 (c.args.count - c.loop-k.k) r c.judge-part.result.0 _ p.1 i.0 c.judge-part.ensures.value (omega arith) (i.2 p.0 p.1 p.2).1 in
    (A.sheet.depth, x.1, p.1, subst (λ (s : Scene). FormulasAt (held s.sheet.task.now) A.sheet.depth c.judge-part.result.1 r x.1 p.1) (sym (c.judge-part.ensures.same ∙ i.0)) x.4)

pub judge_all-returns-then-part-undecided : goal.judge_all-returns-then-part-undecided
judge_all-returns-then-part-undecided t c =
    let i = c.loop-k.invariant in
    let A = c.args.self.now in
    let r = c.args.count - c.loop-k.k - 1 in
    let same = c.judge-part.ensures.same ∙ i.0 in
    record {
      same = same;
      value = λ fs j s.
          let w = i.2 fs j s in
          let x = turn A c.loop-k.self c.loop-k.next c.judge-part.result.1 (c.args.count - c.loop-k.k) r c.judge-part.result.0 w.0 j i.0 c.judge-part.ensures.value (omega arith) w.1 in (
            decided (tree_of A.sheet.task.now) (shown A.image.now) (bound A.sheet) (joining c.args.junction) c.of_none-undecided.result c.of_none-undecided.ensures c.judge-part.result.0 x.0 x.1 w.0 x.2 x.3 c.if-part-undecided.true ∙ w.2,
            c.skip_all.ensures A.sheet.depth x.1 j (subst (λ (s : Scene). FormulasAt (held s.sheet.task.now) A.sheet.depth c.judge-part.result.1 r x.1 j) (sym same) x.4),
          );
    }

pub judge_all-loop-k-preserved : goal.judge_all-loop-k-preserved
judge_all-loop-k-preserved t c =
    let p = c.requires in
    let i = c.loop-k.invariant in
    let A = c.args.self.now in
    let r = c.args.count - (c.loop-k.k + 1) in
    let x = turn A c.loop-k.self c.loop-k.next c.judge-part.result.1 (c.args.count - c.loop-k.k) r c.judge-part.result.0 _ p.1 i.0 c.judge-part.ensures.value (omega arith) (i.2 p.0 p.1 p.2).1 in (
      c.judge-part.ensures.same ∙ i.0,
      omega (arith, i.1, x.5),
      λ fs j s.
          let w = i.2 fs j s in
          let x = turn A c.loop-k.self c.loop-k.next c.judge-part.result.1 (c.args.count - c.loop-k.k) r c.judge-part.result.0 w.0 j i.0 c.judge-part.ensures.value (omega arith) w.1 in
          (x.1, x.4, left_to (tree_of A.sheet.task.now) (shown A.image.now) (bound A.sheet) (joining c.args.junction) c.of_none-undecided.result c.of_none-undecided.ensures c.judge-part.result.0 _ x.0 x.1 w.0 x.2 x.3 c.if-part-undecided.false refl ∙ w.2),
    )

pub judge_all-returns : goal.judge_all-returns
judge_all-returns t c =
    let i = c.loop-k.invariant in
    let A = c.args.self.now in
    record {
      same = i.0;
      value = λ fs j s.
          let w = i.2 fs j s in
          let e = no_formula w.1 (omega (arith, c.loop-k-test.false)) in
          (none_left (tree_of A.sheet.task.now) (shown A.image.now) (bound A.sheet) (joining c.args.junction) c.of_none-undecided.result c.of_none-undecided.ensures w.0 e.0 ∙ w.2, sym e.1);
    }

pub judge_each-bounds-task-type_number : goal.judge_each-bounds-task-type_number
judge_each-bounds-task-type_number t c =
    let k = c.args.self.now.sheet.task.now in
    omega (arith, c.requires.known, declarations_inside (held k) k.formed)

pub judge_each-returns-then-part-undecided : goal.judge_each-returns-then-part-undecided
judge_each-returns-then-part-undecided t c =
    let A = c.args.self.now in
    let T = A.sheet.task.now in
    let o = c.loop-o.o in
    let l : A.sheet.depth < length A.sheet.objects = search rules in
    let same = restored c.judge-part.new.self c.bind-before.ensures.bound c.bind-before.ensures.before c.judge-part.ensures.same c.drop-bound.ensures ∙ c.loop-o.invariant.0 in
    record {
      same = same;
      value = λ f j s.
          let v = instance A c.loop-o.self c.bind-before.new.self o c.args.at c.judge-part.result.1 c.judge-part.result.0 c.loop-o.invariant.0 c.bind-before.ensures.bound c.judge-part.ensures.value l f j s in
          sym (over_one (joining c.args.junction) c.of_none-undecided.result c.of_none-undecided.ensures c.judge-part.result.0 (λ o. value (tree_of T) (shown A.image.now) (bind (bound A.sheet) o) f) (members (tree_of T) c.args.type_number) o
          (is_member (held T) T.formed c.args.type_number c.requires.known o (omega arith) (eq-eqb _ _ c.if-members-o-eq1.true))
          (sym v) c.if-part-undecided.true);
    }

pub judge_each-loop-o-preserved : goal.judge_each-loop-o-preserved
judge_each-loop-o-preserved t c =
    let A = c.args.self.now in
    let T = A.sheet.task.now in
    let o = c.loop-o.o in
    let l : A.sheet.depth < length A.sheet.objects = search rules in
    let P : Formula → ℕ → Type 0 = λ f k. in_set (get_or T.table.entries.operands.now c.args.type_number 0) k ≡ true → value (tree_of T) (shown A.image.now) (bind (bound A.sheet) k) f ≡ c.of_none-undecided.result in
    elim c.if-members-o-eq1.branch [
      | judge_each-then-members-o-eq1+else-part-undecided w ↦ (
        w.self-is ∙ restored w.judge-part.new.self w.bind-before.ensures.bound w.bind-before.ensures.before w.judge-part.ensures.same w.drop-bound-then-members-o-eq1.ensures ∙ c.loop-o.invariant.0,
        λ f j s. below_more (P f) o (c.loop-o.invariant.1 f j s)
            (λ h. sym (instance A c.loop-o.self w.bind-before.new.self o c.args.at w.judge-part.result.1 w.judge-part.result.0 c.loop-o.invariant.0 w.bind-before.ensures.bound w.judge-part.ensures.value l f j s) ∙ agree _ _ w.if-part-undecided.false),
      )
      | judge_each-else-members-o-eq1 w ↦ (
        w.self-is ∙ c.loop-o.invariant.0,
        λ f j s. below_more (P f) o (c.loop-o.invariant.1 f j s) (λ h. absurd (w.if-members-o-eq1.false (eqb-true _ _ h))),
      )
    ]

pub judge_each-returns : goal.judge_each-returns
judge_each-returns t c =
    let A = c.args.self.now in
    let T = A.sheet.task.now in
    record {
      same = c.loop-o.invariant.0;
      value = λ f j s. sym (over_all (joining c.args.junction) c.of_none-undecided.result c.of_none-undecided.ensures (λ o. value (tree_of T) (shown A.image.now) (bind (bound A.sheet) o) f) (members (tree_of T) c.args.type_number)
          (λ o i. let m = member_is (held T) T.formed c.args.type_number c.requires.known o i in c.loop-o.invariant.1 f j s o (omega (arith, m.0)) m.1));
    }
