use Rattle.std.proofs.Common.{ap₂, ◌≡◌, ℕ, ◌+◌, ◌-◌, ◌<◌, ◌≤◌, ◌++◌, Bool, true, false, not, cond, eqb, List, [], ◌∷◌, length, get_or, Option, Some, None, is_some, vec_items, sym, refl, ap, ◌∙◌, subst, arith}
use Rattle.std.proofs.lemmas.Bool.{eq-eqb, ne_eqb}
use Rattle.std.proofs.lemmas.Result.{MatchResult-weaker, err_from_is_err_and}
use mathlib.Core.Bool.{beq}
use Rattle.std.specs.Option.{option_eq}
use Rattle.table.specs.declared.arrays.Head.{Head}
use Rattle.table.specs.declared.kind.Kind.TheVariants.{True, False, Atom, Equal, Not, And, Or, Imply, Forall, Exists}
use Rattle.table.proofs.Codes.{other_code}
use Rattle.model.specs.Trees.{any, Formula}
use Rattle.model.specs.Settling.{Grounds, known, settle, opposite, combine, cons, nil}
use Rattle.protocol.specs.Junctions.{joining}
use Rattle.adl.specs.Held.{held}
use Rattle.adl_theorems.proofs.Standing.{declarations_inside}
use Rattle.runs.specs.declared.settling.Settling.{Settling}
use Rattle.runs.specs.Standing.{FormulaAt}
use Rattle.runs.specs.Settled.{at, meaning, fact_in}
use Rattle.runs.specs.Left.{Left, FormulaOf, FormulasOf, simplified_in, all_simplified_in}
use Rattle.runs.proofs.Shapes.{begins, no_formula, formula_kind, ends_after, at_true, at_false, at_atom, at_equal, at_not, at_and, at_or, at_imply, at_forall, at_exists, after_terms, first_formula}
use Rattle.runs.proofs.Extending.{extends_after, extends_pushed}
use Rattle.runs.proofs.Instances.{instance_in, instances_in, instances_more, instances_same, instances_none, all_members, With, instance_stands, instance_is}
use Rattle.runs.proofs.Parts.{known_left, Kept, kept_none, kept_room, kept_same, kept_decided, kept_counted, closed, turned, turned_room}
use Rattle.runs.proofs.settling.Settling.+simplifying.Goals as goal
use Rattle.runs.proofs.settling.Settling.+simplifying.Goals.{simplify_each-then-members-o-eq1+in_ok-truth+else-eq, simplify_each-else-members-o-eq1}

pub simplify-offset_bounds-task-at : goal.simplify-offset_bounds-task-at
simplify-offset_bounds-task-at t c = omega (arith, begins c.requires.2)

pub simplify-bounds-task-at : goal.simplify-bounds-task-at
simplify-bounds-task-at t c = omega (arith, begins c.requires.2)

pub simplify-overflow_add-next : goal.simplify-overflow_add-next
simplify-overflow_add-next t c = omega (arith, begins c.requires.2)

pub simplify-overflow_add-result : goal.simplify-overflow_add-result
simplify-overflow_add-result t c = omega (arith, begins c.requires.2)

pub simplify-overflow_add-at : goal.simplify-overflow_add-at
simplify-overflow_add-at t c = omega (arith, begins c.requires.2)

pub simplify-overflow_add-result-in-Equal : goal.simplify-overflow_add-result-in-Equal
simplify-overflow_add-result-in-Equal t c = omega (arith, begins c.requires.2)

pub simplify-kind_at-requires : goal.simplify-kind_at-requires
simplify-kind_at-requires t c = let s = c.requires.2 in record { within = begins s; known = omega (arith, formula_kind s) }

pub simplify-atom_number-atom-requires : goal.simplify-atom_number-atom-requires
simplify-atom_number-atom-requires t c =
    let p = c.requires in
    let x = at_atom p.2 c.in-Atom.ensures in
    (x.0, p.1, x.2)

pub simplify-term-first-requires : goal.simplify-term-first-requires
simplify-term-first-requires t c =
    let x = at_equal c.requires.2 c.in-Equal.ensures in
    (x.0, x.3)

pub simplify-term-second-requires : goal.simplify-term-second-requires
simplify-term-second-requires t c =
    let x = at_equal c.requires.2 c.in-Equal.ensures in
    (x.1, x.4)

pub simplify-simplify_negation-requires : goal.simplify-simplify_negation-requires
simplify-simplify_negation-requires t c =
    let p = c.requires in
    let x = at_not p.2 c.in-Not.ensures in
    (omega (arith, begins p.2), (x.0, p.1, x.2))

pub simplify-simplify_all-requires : goal.simplify-simplify_all-requires
simplify-simplify_all-requires t c =
    let p = c.requires in
    let x = at_and p.2 c.in-And.ensures in
    (omega (arith, begins p.2), (x.0, p.1, x.2))

pub simplify-simplify_all-requires-in-Or : goal.simplify-simplify_all-requires-in-Or
simplify-simplify_all-requires-in-Or t c =
    let p = c.requires in
    let x = at_or p.2 c.in-Or.ensures in
    (omega (arith, begins p.2), (x.0, p.1, x.2))

pub simplify-simplify_implication-requires : goal.simplify-simplify_implication-requires
simplify-simplify_implication-requires t c =
    let p = c.requires in
    let x = at_imply p.2 c.in-Imply.ensures in
    (omega (arith, begins p.2), (x.0, x.1, x.2, p.1, x.4, x.5))

pub simplify-simplify_each-requires : goal.simplify-simplify_each-requires
simplify-simplify_each-requires t c =
    let p = c.requires in
    let x = at_forall p.2 c.in-Forall.ensures in
    (omega (arith, begins p.2), (x.4, (x.3, (x.0, p.1, x.2))))

pub simplify-skip-requires : goal.simplify-skip-requires
simplify-skip-requires t c =
    let p = c.requires in
    let x = at_forall p.2 c.in-Forall.ensures in
    (c.args.self.now.sheet.depth + 1, x.0, p.1, x.2)

pub simplify-simplify_each-requires-in-Exists : goal.simplify-simplify_each-requires-in-Exists
simplify-simplify_each-requires-in-Exists t c =
    let p = c.requires in
    let x = at_exists p.2 c.in-Exists.ensures in
    (omega (arith, begins p.2), (x.4, (x.3, (x.0, p.1, x.2))))

pub simplify-skip-requires-in-Exists : goal.simplify-skip-requires-in-Exists
simplify-skip-requires-in-Exists t c =
    let p = c.requires in
    let x = at_exists p.2 c.in-Exists.ensures in
    (c.args.self.now.sheet.depth + 1, x.0, p.1, x.2)

pub simplify-unreachable-requires : goal.simplify-unreachable-requires
simplify-unreachable-requires t c =
    let r = c.kind_at.result in
    let h = c.in_default in
    omega (
      arith,
      formula_kind c.requires.2,
      c.kind_at.ensures,
      other_code r True h.not-True,
      other_code r False h.not-False,
      other_code r Atom h.not-Atom,
      other_code r Equal h.not-Equal,
      other_code r Not h.not-Not,
      other_code r And h.not-And,
      other_code r Or h.not-Or,
      other_code r Imply h.not-Imply,
      other_code r Forall h.not-Forall,
      other_code r Exists h.not-Exists,
    )

-- what is left of a formula is left of an equal one
from : (s : Settling) {f g : Formula} {before after : List Head} {told : Option Bool} → f ≡ g → Left (simplified_in s g) before after told → Left (simplified_in s f) before after told
from s {f} {g} {before} {after} {told} e l = subst (λ f. Left (simplified_in s f) before after told) (sym e) l

pub simplify-returns-in-True : goal.simplify-returns-in-True
simplify-returns-in-True t c = λ f j s.
    let x = at_true s c.in-True.ensures in
    (from c.args.self.now x.0 (known_left true c.args.out.now.items c.args.out.now.items refl), sym x.1)

pub simplify-returns-in-False : goal.simplify-returns-in-False
simplify-returns-in-False t c = λ f j s.
    let x = at_false s c.in-False.ensures in
    (from c.args.self.now x.0 (known_left false c.args.out.now.items c.args.out.now.items refl), sym x.1)

pub simplify-returns-in_ok-truth-in-Atom : goal.simplify-returns-in_ok-truth-in-Atom
simplify-returns-in_ok-truth-in-Atom t c = λ f j s.
    let A = c.args.self.now in
    let x = at_atom s c.in-Atom.ensures in
    let v = c.verdict_of.ensures ∙ ap (λ n. at A.verdicts.now n) (c.atom_number-atom.ensures.atom x.0 j x.2) in (
      from A x.1 (subst (λ v. Left (settle (meaning v) (fact_in v)) c.args.out.now.items c.write_atom.new.out.items c.in_ok-truth-in-Atom.truth) v c.in_ok-truth-in-Atom.ensures),
      omega (arith, after_terms x.2, c.arity.ensures),
    )

pub simplify-returns-in-Equal : goal.simplify-returns-in-Equal
simplify-returns-in-Equal t c = λ f j s.
    let A = c.args.self.now in
    let x = at_equal s c.in-Equal.ensures in
    let e = ap₂ eqb (c.term-first.ensures.object x.0 x.3) (c.term-second.ensures.object x.1 x.4) in (
      from A x.2 (subst (λ b. Left (known b) c.args.out.now.items c.args.out.now.items (Some (eqb c.term-first.result c.term-second.result))) e (known_left _ c.args.out.now.items c.args.out.now.items refl)),
      sym x.5,
    )

pub simplify-returns-in-Not : goal.simplify-returns-in-Not
simplify-returns-in-Not t c =
    MatchResult-weaker c.simplify_negation.result c.simplify_negation.ensures
    (λ r h. λ f j s.
    let x = at_not s c.in-Not.ensures in
    let w = h x.0 j x.2 in
    (from c.args.self.now x.1 w.0, w.1))
    (λ _ h. h)

pub simplify-returns-in-And : goal.simplify-returns-in-And
simplify-returns-in-And t c =
    MatchResult-weaker c.simplify_all.result c.simplify_all.ensures
    (λ r h. λ f j s.
    let x = at_and s c.in-And.ensures in
    let w = h x.0 j x.2 in
    (from c.args.self.now x.1 w.0, w.1))
    (λ _ h. h)

pub simplify-returns-in-Or : goal.simplify-returns-in-Or
simplify-returns-in-Or t c =
    MatchResult-weaker c.simplify_all-in-Or.result c.simplify_all-in-Or.ensures
    (λ r h. λ f j s.
    let x = at_or s c.in-Or.ensures in
    let w = h x.0 j x.2 in
    (from c.args.self.now x.1 w.0, w.1))
    (λ _ h. h)

pub simplify-returns-in-Imply : goal.simplify-returns-in-Imply
simplify-returns-in-Imply t c =
    MatchResult-weaker c.simplify_implication.result c.simplify_implication.ensures
    (λ r h. λ f j s.
    let x = at_imply s c.in-Imply.ensures in
    let w = h x.0 x.1 x.2 j x.4 x.5 in
    (from c.args.self.now x.3 w.0, w.1))
    (λ _ h. h)

pub simplify-returns-in_ok-every-in-Forall : goal.simplify-returns-in_ok-every-in-Forall
simplify-returns-in_ok-every-in-Forall t c = λ f j s.
    let x = at_forall s c.in-Forall.ensures in
    (from c.args.self.now x.1 (c.in_ok-every-in-Forall.ensures x.0 j x.2), c.skip.ensures (c.args.self.now.sheet.depth + 1) x.0 j x.2)

pub simplify-returns-in_ok-some-in-Exists : goal.simplify-returns-in_ok-some-in-Exists
simplify-returns-in_ok-some-in-Exists t c = λ f j s.
    let x = at_exists s c.in-Exists.ensures in
    (from c.args.self.now x.1 (c.in_ok-some-in-Exists.ensures x.0 j x.2), c.skip-in-Exists.ensures (c.args.self.now.sheet.depth + 1) x.0 j x.2)

-- what simplifying the formula at a place tells
abbrev Simplified : Settling → ℕ → List Head → List Head → Option Bool → ℕ → Type 0
Simplified s i before after told n = (f : Formula) (j : ℕ) → FormulaOf s i f j → Left (simplified_in s f) before after told × (n ≡ j)

-- what a turn of the loop finds in the formulas that are left: the first, what is left of it, and where the others stand
record Turn (s : Settling) (gs : List Formula) (mid after : List Head) (told : Option Bool) (i k r e : ℕ) : Type 0 where
  first : Formula
  others : List Formula
  both : all_simplified_in s gs ≡ cons (simplified_in s first) (all_simplified_in s others)
  part : Left (simplified_in s first) mid after told
  stands : FormulasOf s k r others e
  onward : i < k

turn : (s : Settling) (r : ℕ) {gs : List Formula} {mid after : List Head} {told : Option Bool} {i k m e : ℕ} → Simplified s i mid after told k → FormulasOf s i m gs e → m ≡ r + 1 → Turn s gs mid after told i k r e
turn s r {gs} {mid} {after} {told} {i} {k} {m} {e} d f h =
    let x = first_formula f r h in
    let w = d x.0 x.1 x.4 in
    record {
      first = x.0;
      others = x.2;
      both = ap (all_simplified_in s) x.3;
      part = w.0;
      stands = subst (λ n. FormulasOf s n r x.2 e) (sym w.1) x.5;
      onward = omega (arith, ends_after x.4, w.1);
    }

-- the truth that decides a junction, by that of none
abbrev decisive : Bool → Option Bool
decisive b = Some (not b)

counts_one : (told : Option Bool) → cond (is_some told) 0 1 ≤ 1
counts_one None = omega arith
counts_one (Some b) = omega arith

pub simplify_all-loop-k-init : goal.simplify_all-loop-k-init
simplify_all-loop-k-init t c =
    let n : c.args.count - 0 ≡ c.args.count = omega arith in
    record { onward = omega arith; few = omega arith; kept = λ fs j s. (fs, rw n s, kept_none _ c.in_ok-write.ensures) }

pub simplify_all-simplify-requires : goal.simplify_all-simplify-requires
simplify_all-simplify-requires t c =
    let p = c.requires in
    let i = c.loop-k.invariant in
    let x = first_formula (i.kept p.0 p.1 p.2).1 (c.args.count - c.loop-k.k - 1) (omega arith) in
    (omega (arith, i.onward), (x.0, x.1, x.4))

pub simplify_all-skip_all-requires : goal.simplify_all-skip_all-requires
simplify_all-skip_all-requires t c =
    let p = c.requires in
    let w = c.loop-k.invariant.kept p.0 p.1 p.2 in
    let x = turn c.args.self.now (c.args.count - c.loop-k.k - 1) c.in_ok-part.ensures w.1 (omega arith) in
    (c.args.self.now.sheet.depth, x.others, p.1, x.stands)

pub simplify_all-returns-then-eq : goal.simplify_all-returns-then-eq
simplify_all-returns-then-eq t c = λ fs j s.
    let w = c.loop-k.invariant.kept fs j s in
    let x = turn c.args.self.now (c.args.count - c.loop-k.k - 1) c.in_ok-part.ensures w.1 (omega arith) in
    let long : c.len-start.result ≡ length c.args.out.now.items = omega (arith, c.len-start.ensures) in (
      kept_decided w.2 x.both x.part (ap decisive c.of_none.ensures) c.if-eq.ensures long c.truncate.ensures.items,
      c.skip_all.ensures c.args.self.now.sheet.depth x.others j x.stands,
    )

pub simplify_all-returns-in_err-part : goal.simplify_all-returns-in_err-part
simplify_all-returns-in_err-part t c =
    let r = c.requires in
    let p = err_from_is_err_and c.from_residual-in_err-part.result c.from_residual-in_err-part.ensures.1 in
    rw p.1 (extends_after _ (c.loop-k.invariant.kept r.0 r.1 r.2).2.entries c.in_err-part.ensures)

pub simplify_all-loop-k-preserved : goal.simplify_all-loop-k-preserved
simplify_all-loop-k-preserved t c =
    let p = c.requires in
    let i = c.loop-k.invariant in
    let next = λ (fs : List Formula) (j : ℕ) (s : FormulasOf c.args.self.now c.args.at c.args.count fs j).
    turn c.args.self.now (c.args.count - (c.loop-k.k + 1)) c.in_ok-part.ensures (i.kept fs j s).1 (omega arith) in
    record {
      onward = omega (arith, i.onward, (next p.0 p.1 p.2).onward);
      few = omega (arith, i.few, counts_one c.in_ok-part.part, c.counted-kept.ensures);
      kept = λ fs j s. let x = next fs j s in (x.others, x.stands, kept_counted (i.kept fs j s).2 x.both x.part (ap decisive c.of_none.ensures) c.if-eq.ensures c.counted-kept.ensures refl refl);
    }

pub simplify_all-close-requires : goal.simplify_all-close-requires
simplify_all-close-requires t c =
    let p = c.requires in
    omega (arith, kept_room (c.loop-k.invariant.kept p.0 p.1 p.2).2, c.len-start.ensures)

pub simplify_all-returns : goal.simplify_all-returns
simplify_all-returns t c = λ fs j s.
    let w = c.loop-k.invariant.kept fs j s in
    let e = no_formula w.1 (omega (arith, c.loop-k-test.false)) in
    let long : c.len-start.result ≡ length c.args.out.now.items = omega (arith, c.len-start.ensures) in
    (closed w.2 long (ap (all_simplified_in c.args.self.now) e.0) c.close.ensures.truth c.close.ensures.entries, sym e.1)

pub simplify_each-bounds-task-type_number : goal.simplify_each-bounds-task-type_number
simplify_each-bounds-task-type_number t c =
    let k = c.args.self.now.sheet.task.now in
    omega (arith, c.requires.known, declarations_inside (held k) k.formed)

-- what simplifying the part of a quantifier tells, with one variable more
instance : (a b : Settling) {o i j k : ℕ} {mid after : List Head} {told : Option Bool} → With a o b → Simplified b i mid after told k
    → (f : Formula) → FormulaAt (held a.sheet.task.now) (a.sheet.depth + 1) i f j → Left (instance_in a f o) mid after told
instance a b {o} {i} {j} {k} {mid} {after} {told} w d f s = subst (λ g. Left g mid after told) (instance_is w f) (d f j (instance_stands w f s)).0

pub simplify_each-loop-o-init : goal.simplify_each-loop-o-init
simplify_each-loop-o-init t c = record { few = omega arith; kept = λ f j s. kept_none _ c.in_ok-write.ensures }

pub simplify_each-returns-then-eq : goal.simplify_each-returns-then-eq
simplify_each-returns-then-eq t c = λ f j s.
    let A = c.args.self.now in
    let set = get_or A.sheet.task.now.table.entries.operands.now c.args.type_number 0 in
    let more = instances_more A f set c.loop-o.o (omega (arith, c.loop-o-test.true)) (eq-eqb _ _ c.if-members-o-eq1.true) in
    let e = c.with-instance.ensures in
    let l = instance A c.with-instance.result (record { task = e.task; verdicts = e.verdicts; depth = e.depth; bound = e.bound }) c.in_ok-truth.ensures f s in
    let long : c.len-start.result ≡ length c.args.out.now.items = omega (arith, c.len-start.ensures) in
    subst (λ os. Left (combine (joining c.args.junction) (instances_in A f os)) c.args.out.now.items c.truncate.new.self.items c.in_ok-truth.truth) (all_members A c.args.type_number c.requires.known)
    (kept_decided (c.loop-o.invariant.kept f j s) more l (ap decisive c.of_none.ensures) c.if-eq.ensures long c.truncate.ensures.items)

pub simplify_each-returns-in_err-truth : goal.simplify_each-returns-in_err-truth
simplify_each-returns-in_err-truth t c =
    let r = c.requires.stands in
    let p = err_from_is_err_and c.from_residual-in_err-truth.result c.from_residual-in_err-truth.ensures.1 in
    rw p.1 (extends_after _ (c.loop-o.invariant.kept r.0 r.1 r.2).entries c.in_err-truth.ensures)

pub simplify_each-loop-o-preserved : goal.simplify_each-loop-o-preserved
simplify_each-loop-o-preserved t c =
    let A = c.args.self.now in
    let set = get_or A.sheet.task.now.table.entries.operands.now c.args.type_number 0 in
    let i = c.loop-o.invariant in
    elim c.if-members-o-eq1.branch [
      | simplify_each-then-members-o-eq1+in_ok-truth+else-eq w ↦ record {
        few = omega (arith, i.few, w.kept-is, counts_one w.in_ok-truth.truth, w.counted-kept.ensures);
        kept = λ f j s.
            let more = instances_more A f set c.loop-o.o (omega (arith, c.loop-o-test.true)) (eq-eqb _ _ w.if-members-o-eq1.true) in
            let e = w.with-instance.ensures in
            let l = instance A w.with-instance.result (record { task = e.task; verdicts = e.verdicts; depth = e.depth; bound = e.bound }) w.in_ok-truth.ensures f s in
            kept_counted (i.kept f j s) more l (ap decisive c.of_none.ensures) w.if-eq.ensures w.counted-kept.ensures (ap vec_items w.out-is) w.kept-is;
      }
      | simplify_each-else-members-o-eq1 w ↦ record {
        few = omega (arith, i.few, w.kept-is);
        kept = λ f j s.
            kept_same (i.kept f j s) (instances_same A f set c.loop-o.o (omega (arith, c.loop-o-test.true)) (ne_eqb _ _ w.if-members-o-eq1.false)) (ap vec_items w.out-is) w.kept-is;
      }
    ]

pub simplify_each-close-requires : goal.simplify_each-close-requires
simplify_each-close-requires t c =
    let p = c.requires.stands in
    omega (arith, kept_room (c.loop-o.invariant.kept p.0 p.1 p.2), c.len-start.ensures)

pub simplify_each-returns : goal.simplify_each-returns
simplify_each-returns t c = λ f j s.
    let A = c.args.self.now in
    let set = get_or A.sheet.task.now.table.entries.operands.now c.args.type_number 0 in
    let none = instances_none A f set c.loop-o.o (omega (arith, c.loop-o-test.false)) in
    let long : c.len-start.result ≡ length c.args.out.now.items = omega (arith, c.len-start.ensures) in
    subst (λ os. Left (combine (joining c.args.junction) (instances_in A f os)) c.args.out.now.items c.close.new.out.items c.close.result) (all_members A c.args.type_number c.requires.known)
    (closed (c.loop-o.invariant.kept f j s) long none c.close.ensures.truth c.close.ensures.entries)

-- what is left of the parts of an implication, the first turned
abbrev both : Settling → Formula → Formula → Grounds
both s f g = cons (opposite (simplified_in s f)) (cons (simplified_in s g) nil)

-- the first part does not decide
module _ (s : Settling) (f g : Formula) {before pushed mid : List Head} {told : Option Bool} {n : ℕ} (own : Head)
    (e : pushed ≡ before ++ own ∷ []) (l : Left (opposite (simplified_in s f)) pushed mid told) (d : false ≡ option_eq beq told (Some true)) (q : n ≡ cond (is_some told) 0 1) where
  first_kept : Kept any (both s f g) (cons (simplified_in s g) nil) before mid n
  first_kept = let k : Kept any (both s f g) (both s f g) before pushed 0 = kept_none own e in kept_counted k refl l refl d q refl (omega arith)

  -- nor does the second
  both_kept : {after : List Head} {told : Option Bool} {m : ℕ} → Left (simplified_in s g) mid after told → false ≡ option_eq beq told (Some true) → m ≡ cond (is_some told) 0 1 → Kept any (both s f g) nil before after (n + m)
  both_kept l d q = kept_counted first_kept refl l refl d q refl refl

pub simplify_implication-skip-requires : goal.simplify_implication-skip-requires
simplify_implication-skip-requires t c =
    let p = c.requires in
    let e = (c.in_ok-first.ensures p.0 p.2 p.4).1 in
    (c.args.self.now.sheet.depth, p.1, p.3, subst (λ n. FormulaOf c.args.self.now n p.1 p.3) (sym e) p.5)

pub simplify_implication-returns-then-eq : goal.simplify_implication-returns-then-eq
simplify_implication-returns-then-eq t c = λ f g i j s u.
    let long : c.len-start.result ≡ length c.args.out.now.items = omega (arith, c.len-start.ensures) in
    let A = c.args.self.now in
    let a = c.in_ok-first.ensures f i s in
    let k : Kept any (both A f g) (both A f g) c.args.out.now.items c.write.new.out.items 0 = kept_none _ c.in_ok-write.ensures in
    (kept_decided k refl a.0 refl c.if-eq.ensures long c.truncate.ensures.items, c.skip.ensures A.sheet.depth g j (subst (λ n. FormulaOf A n g j) (sym a.1) u))

pub simplify_implication-simplify-requires : goal.simplify_implication-simplify-requires
simplify_implication-simplify-requires t c =
    let p = c.requires in
    let e = (c.in_ok-first.ensures p.0 p.2 p.4).1 in
    (omega (arith, ends_after p.4, e), (p.1, p.3, subst (λ n. FormulaOf c.args.self.now n p.1 p.3) (sym e) p.5))

pub simplify_implication-returns-in_err-second : goal.simplify_implication-returns-in_err-second
simplify_implication-returns-in_err-second t c =
    let r = c.requires in
    let p = err_from_is_err_and c.from_residual-in_err-second.result c.from_residual-in_err-second.ensures.1 in
    rw p.1 (extends_pushed _ c.in_ok-write.ensures (extends_after _ (c.in_ok-first.ensures r.0 r.2 r.4).0.entries c.in_err-second.ensures))

pub simplify_implication-returns-then-eq-2 : goal.simplify_implication-returns-then-eq-2
simplify_implication-returns-then-eq-2 t c = λ f g i j s u.
    let long : c.len-start.result ≡ length c.args.out.now.items = omega (arith, c.len-start.ensures) in
    let A = c.args.self.now in
    let a = c.in_ok-first.ensures f i s in
    let b = c.in_ok-second.ensures g j (subst (λ n. FormulaOf A n g j) (sym a.1) u) in
    let k = first_kept A f g _ c.in_ok-write.ensures a.0 c.if-eq.ensures refl in
    (kept_decided k refl b.0 refl c.if-eq-2.ensures long c.truncate-then-eq-2.ensures.items, b.1)

pub simplify_implication-close-requires : goal.simplify_implication-close-requires
simplify_implication-close-requires t c =
    let A = c.args.self.now in
    let p = c.requires in
    let a = c.in_ok-first.ensures p.0 p.2 p.4 in
    let b = c.in_ok-second.ensures p.1 p.3 (subst (λ n. FormulaOf A n p.1 p.3) (sym a.1) p.5) in
    let k = both_kept A p.0 p.1 _ c.in_ok-write.ensures a.0 c.if-eq.ensures c.counted.ensures b.0 c.if-eq-2.ensures c.counted-2.ensures in
    omega (arith, kept_room k, c.len-start.ensures)

pub simplify_implication-returns : goal.simplify_implication-returns
simplify_implication-returns t c = λ f g i j s u.
    let long : c.len-start.result ≡ length c.args.out.now.items = omega (arith, c.len-start.ensures) in
    let A = c.args.self.now in
    let a = c.in_ok-first.ensures f i s in
    let b = c.in_ok-second.ensures g j (subst (λ n. FormulaOf A n g j) (sym a.1) u) in
    let k = both_kept A f g _ c.in_ok-write.ensures a.0 c.if-eq.ensures c.counted.ensures b.0 c.if-eq-2.ensures c.counted-2.ensures in
    (closed k long refl c.close.ensures.truth c.close.ensures.entries, b.1)

pub simplify_negation-turn-requires : goal.simplify_negation-turn-requires
simplify_negation-turn-requires t c =
    let p = c.requires in
    omega (arith, c.len-start.ensures, turned_room _ _ c.in_ok-write.ensures (c.in_ok-truth.ensures p.0 p.1 p.2).0)

pub simplify_negation-returns : goal.simplify_negation-returns
simplify_negation-returns t c = λ f j s.
    let w = c.in_ok-truth.ensures f j s in
    let long : c.len-start.result ≡ length c.args.out.now.items = omega (arith, c.len-start.ensures) in
    (turned _ _ c.in_ok-write.ensures w.0 long refl c.turn.ensures.truth c.turn.ensures.entries, w.1)
