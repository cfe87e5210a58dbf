use Rattle.table.proofs.Lengths.{operands_long}
use Rattle.std.proofs.Common.{◌≡◌, ℕ, ◌+◌, ◌-◌, ◌<◌, List, ◌∷◌, length, get_or, fold, sym, refl, ap, ◌∙◌, subst, arith, rules, eq-eqb}
use Rattle.std.proofs.lemmas.Bool.{ne_eqb}
use Rattle.table.specs.declared.kind.Kind.TheVariants.{And, Forall, When}
use Rattle.model.specs.Lists.{below, keep, gather}
use Rattle.model.specs.Meaning.{bind}
use Rattle.model.specs.Trees.{Consequent, Effect, change, conjunction, for_each, when, in_set}
use Rattle.runs.specs.declared.sheet.Scene.{Scene}
use Rattle.runs.specs.declared.window.Window.{Window}
use Rattle.runs.specs.Effects.{ConsequentIn, EffectAt, EffectIn, EffectsIn, consequent_literals, effect_literals, literals_in, all_literals_in}
use Rattle.adl.specs.Held.{held, tree_of}
use Rattle.protocol.specs.Shown.{shown}
use Rattle.runs.specs.Shown.{bound, OneMore}
use Rattle.adl.specs.Reads.{effects_of}
use Rattle.table.proofs.Codes.{other_code}
use Rattle.adl_theorems.proofs.Standing.{declarations_inside}
use Rattle.runs.proofs.EffectShapes.{no_effect_left, effect_begins, effect_kind, effect_ends_after, at_conjunction, at_for_each, at_when, at_change, first_effect}
use Rattle.runs.proofs.Sheets.{restored, effect_seen, literals_seen}
use Rattle.runs.specs.Windows.{offered, packed}
use Rattle.runs.proofs.Filling.{packed_stays}
use Rattle.runs.proofs.Walks.{none_kept, with_member, without_member, stops, members_in, from_effect, first_effect_and_rest, for_members, when_true, when_false}
use Rattle.runs.proofs.sheet.Scene.+walking.Goals as goal
use Rattle.runs.proofs.sheet.Scene.+walking.Goals.{walk_each-then-members-o-eq1+else-is_packed, walk_each-else-members-o-eq1}

-- what walking the consequent at a place of a scene does to a window
abbrev Walked : Scene → ℕ → Window → Window → ℕ → Type 0
Walked a i w v n =
    (d : Consequent) (j : ℕ) → ConsequentIn a.sheet i d j → (v ≡ fold offered w (consequent_literals (tree_of a.sheet.task.now) (bound a.sheet) d)) × (n ≡ j)

-- and walking the effect
abbrev Gathered : Scene → ℕ → Window → Window → ℕ → Type 0
Gathered a i w v n = (e : Effect) (j : ℕ) → EffectIn a i e j → (v ≡ fold offered w (literals_in a e)) × (n ≡ j)

-- what a turn of the loop finds: the first effect that is left, its literals, and where the others stand
turn : (A L : Scene) (i k m r : ℕ) (w v : Window) (es : List Effect) (j : ℕ) → L ≡ A → Gathered L i w v k → m ≡ r + 1 → EffectsIn A i m es j
    → (e : Effect) × (fs : List Effect) × (es ≡ e ∷ fs) × (v ≡ fold offered w (literals_in A e)) × EffectsIn A k r fs j × (i < k)
turn A L i k m r w v es j same d h s =
    let x = first_effect s r h in
    let e = subst (λ a. Gathered a i w v k) same d x.0 x.1 x.4 in
    (x.0, x.2, x.3, e.0, subst (λ n. EffectsIn A n r x.2 j) (sym e.1) x.5, omega (arith, effect_ends_after x.4, e.1))

-- the literals of the effect with one variable more
instance : (A L B : Scene) (o i k : ℕ) (w v : Window) → L ≡ A → OneMore L o B → Gathered B i w v k → A.sheet.depth < length A.sheet.objects → (e : Effect) (j : ℕ) → EffectAt (held A.sheet.task.now) (A.sheet.depth + 1) i e j
    → v ≡ fold offered w (effect_literals (tree_of A.sheet.task.now) (shown A.image.now) (bind (bound A.sheet) o) e)
instance A L B o i k w v same m d l e j s = let n = subst (λ a. OneMore a o B) same m in (d e j (effect_seen n s)).0 ∙ ap (fold offered w) (literals_seen n l e)

pub walk-offset_bounds-task-at : goal.walk-offset_bounds-task-at
walk-offset_bounds-task-at t c = omega (arith, effect_begins c.requires.2, c.args.self.now.sheet.task.now.table.short)

pub walk-bounds-task-at : goal.walk-bounds-task-at
walk-bounds-task-at t c = omega (arith, effect_begins c.requires.2, (operands_long c.args.self.now.sheet.task.now.table.entries c.args.self.now.sheet.task.now.table.whole))

pub walk-kind_at-requires : goal.walk-kind_at-requires
walk-kind_at-requires t c = record { within = effect_begins c.requires.2; known = effect_kind c.requires.2 }

pub walk-overflow_add-at : goal.walk-overflow_add-at
walk-overflow_add-at t c = omega (arith, effect_begins c.requires.2, c.args.self.now.sheet.task.now.table.short)

pub walk-walk_all-requires : goal.walk-walk_all-requires
walk-walk_all-requires t c =
    let p = c.requires in
    let x = at_conjunction p.2 (sym c.in-And.ensures) in
    (omega (arith, effect_begins p.2), (x.0, p.1, x.2))

pub walk-overflow_add-at-in-Forall : goal.walk-overflow_add-at-in-Forall
walk-overflow_add-at-in-Forall t c = omega (arith, effect_begins c.requires.2, c.args.self.now.sheet.task.now.table.short)

pub walk-walk_each-requires : goal.walk-walk_each-requires
walk-walk_each-requires t c =
    let p = c.requires in
    let x = at_for_each p.2 (sym c.in-Forall.ensures) in
    (omega (arith, effect_begins p.2), (x.4, (x.3, (x.0, p.1, x.2))))

pub walk-overflow_add-at-in-Forall-2 : goal.walk-overflow_add-at-in-Forall-2
walk-overflow_add-at-in-Forall-2 t c = omega (arith, effect_begins c.requires.2, c.args.self.now.sheet.task.now.table.short)

pub walk-skip_effect-requires : goal.walk-skip_effect-requires
walk-skip_effect-requires t c =
    let p = c.requires in
    let x = at_for_each p.2 (sym c.in-Forall.ensures) in
    (c.args.self.now.sheet.depth + 1, x.0, p.1, x.2)

pub walk-overflow_add-at-in-When : goal.walk-overflow_add-at-in-When
walk-overflow_add-at-in-When t c = omega (arith, effect_begins c.requires.2, c.args.self.now.sheet.task.now.table.short)

pub walk-judge-condition-requires : goal.walk-judge-condition-requires
walk-judge-condition-requires t c =
    let x = at_when c.requires.2 (sym c.in-When.ensures) in
    (x.0, x.2, x.4)

pub walk-walk_consequent-requires : goal.walk-walk_consequent-requires
walk-walk_consequent-requires t c =
    let p = c.requires in
    let x = at_when p.2 (sym c.in-When.ensures) in
    let q = (c.judge-condition.ensures.value x.0 x.2 x.4).1 in
    (x.1, p.1, subst (λ (s : Scene). ConsequentIn s.sheet c.judge-condition.result.1 x.1 p.1) (sym c.judge-condition.ensures.same) (rw q x.5))

pub walk-skip_consequent-requires : goal.walk-skip_consequent-requires
walk-skip_consequent-requires t c =
    let p = c.requires in
    let x = at_when p.2 (sym c.in-When.ensures) in
    let q = (c.judge-condition.ensures.value x.0 x.2 x.4).1 in
    (c.args.self.now.sheet.depth, x.1, p.1, rw q x.5)

pub walk-change-next-requires : goal.walk-change-next-requires
walk-change-next-requires t c =
    let p = c.requires in
    let k = c.kind_at.result in
    let x = at_change p.2 (λ q. other_code k And c.in_default.not-And (c.kind_at.ensures ∙ q)) (λ q. other_code k Forall c.in_default.not-Forall (c.kind_at.ensures ∙ q)) (λ q. other_code k When c.in_default.not-When (c.kind_at.ensures ∙ q)) in
    (x.0, p.1, x.2)

pub walk-returns-in-And : goal.walk-returns-in-And
walk-returns-in-And t c =
    record {
      same = c.walk_all.ensures.same;
      walked = λ f j s.
          let x = at_conjunction s (sym c.in-And.ensures) in
          let e = c.walk_all.ensures.walked x.0 j x.2 in
          (from_effect offered (tree_of c.args.self.now.sheet.task.now) (bound c.args.self.now.sheet) _ _ (shown c.args.self.now.image.now) f (conjunction (effects_of x.0)) x.1 e.0, e.1);
    }

pub walk-returns-in-Forall : goal.walk-returns-in-Forall
walk-returns-in-Forall t c =
    record {
      same = c.walk_each.ensures.same;
      walked = λ f j s.
          let x = at_for_each s (sym c.in-Forall.ensures) in
          let e = c.walk_each.ensures.walked x.0 j x.2 in
          let k = c.skip_effect.ensures (c.args.self.now.sheet.depth + 1) x.0 j x.2 in
          let T = tree_of c.args.self.now.sheet.task.now in
          let sh = bound c.args.self.now.sheet in
          let o = get_or c.args.self.now.sheet.task.now.table.entries.operands.now c.args.at 0 in (
            from_effect offered T sh _ _ (shown c.args.self.now.image.now) f (for_each o x.0) x.1
                (for_members offered T sh _ _ (shown c.args.self.now.image.now) o x.0 e),
            k,
          );
    }

pub walk-returns-then-condition : goal.walk-returns-then-condition
walk-returns-then-condition t c =
    record {
      same = c.judge-condition.ensures.same;
      walked = λ f j s.
          let x = at_when s (sym c.in-When.ensures) in
          let b = c.judge-condition.ensures.value x.0 x.2 x.4 in
          let q = b.1 in
          let walked = subst (λ a. Walked a c.judge-condition.result.1 c.args.window.now c.walk_consequent.new.window c.walk_consequent.result) c.judge-condition.ensures.same c.walk_consequent.ensures in
          let e = walked x.1 j (rw q x.5) in
          let T = tree_of c.args.self.now.sheet.task.now in
          let sh = bound c.args.self.now.sheet in (
            from_effect offered T sh _ _ (shown c.args.self.now.image.now) f (when x.0 x.1) x.3
                (when_true offered T sh _ _ (shown c.args.self.now.image.now) x.0 x.1 _ c.if-condition.true b.0 e.0),
            e.1,
          );
    }

pub walk-returns-else-condition : goal.walk-returns-else-condition
walk-returns-else-condition t c =
    record {
      same = c.judge-condition.ensures.same;
      walked = λ f j s.
          let x = at_when s (sym c.in-When.ensures) in
          let b = c.judge-condition.ensures.value x.0 x.2 x.4 in
          let q = b.1 in
          let e = c.skip_consequent.ensures c.args.self.now.sheet.depth x.1 j (rw q x.5) in
          let T = tree_of c.args.self.now.sheet.task.now in
          let sh = bound c.args.self.now.sheet in (
            from_effect offered T sh c.args.window.now c.args.window.now (shown c.args.self.now.image.now) f (when x.0 x.1) x.3
                (when_false offered T sh c.args.window.now c.args.window.now (shown c.args.self.now.image.now) x.0 x.1 _ c.if-condition.false b.0),
            e,
          );
    }

pub walk-returns-in_default : goal.walk-returns-in_default
walk-returns-in_default t c =
    record {
      same = refl;
      walked = λ f j s.
          let k = c.kind_at.result in
          let x = at_change s (λ q. other_code k And c.in_default.not-And (c.kind_at.ensures ∙ q)) (λ q. other_code k Forall c.in_default.not-Forall (c.kind_at.ensures ∙ q)) (λ q. other_code k When c.in_default.not-When (c.kind_at.ensures ∙ q)) in
          let e = c.change-next.ensures x.0 j x.2 in (
            from_effect offered (tree_of c.args.self.now.sheet.task.now) (bound c.args.self.now.sheet) _ _ (shown c.args.self.now.image.now) f (change x.0) x.1
                (c.offer.ensures ∙ ap (offered c.args.window.now) e.0),
            e.1,
          );
    }

pub walk_all-loop-k-init : goal.walk_all-loop-k-init
walk_all-loop-k-init t c =
    let n : c.args.count - 0 ≡ c.args.count = omega arith in
    (refl, omega arith, λ es j s. (es, rw n s, refl))

pub walk_all-walk-next-requires : goal.walk_all-walk-next-requires
walk_all-walk-next-requires t c =
    let p = c.requires in
    let i = c.loop-k.invariant in
    let m = first_effect (i.2 p.0 p.1 p.2).1 (c.args.count - (c.loop-k._k + 1)) (omega arith) in
    (omega (arith, i.1, ap (λ (s : Scene). s.sheet.task.now.table.sizes.entries) i.0), (m.0, m.1, subst (λ s. EffectIn s c.loop-k.next m.0 m.1) (sym i.0) m.4))

pub walk_all-loop-k-preserved : goal.walk_all-loop-k-preserved
walk_all-loop-k-preserved t c =
    let p = c.requires in
    let i = c.loop-k.invariant in
    let A = c.args.self.now in
    let r = c.args.count - (c.loop-k._k + 1) in
    let x = turn A c.loop-k.self c.loop-k.next c.walk-next.result (c.args.count - c.loop-k._k) r c.loop-k.window c.walk-next.new.window _ p.1 i.0 c.walk-next.ensures.walked (omega arith) (i.2 p.0 p.1 p.2).1 in (
      c.walk-next.ensures.same ∙ i.0,
      omega (arith, i.1, x.5),
      λ es j s.
          let w = i.2 es j s in
          let x = turn A c.loop-k.self c.loop-k.next c.walk-next.result (c.args.count - c.loop-k._k) r c.loop-k.window c.walk-next.new.window w.0 j i.0 c.walk-next.ensures.walked (omega arith) w.1 in
          (x.1, x.4, first_effect_and_rest offered (tree_of A.sheet.task.now) (bound A.sheet) c.loop-k.window _ (shown A.image.now) x.0 x.1 w.0 c.walk-next.new.window x.2 x.3 refl ∙ w.2),
    )

pub walk_all-returns : goal.walk_all-returns
walk_all-returns t c =
    let i = c.loop-k.invariant in
    record {
      same = i.0;
      walked = λ es j s.
          let w = i.2 es j s in
          let e = no_effect_left w.1 (omega (arith, c.loop-k-test.false)) in
          (sym (ap (λ (fs : List Effect). fold offered c.loop-k.window (all_literals_in c.args.self.now fs)) e.0) ∙ w.2, sym e.1);
    }

pub walk_each-bounds-task-type_number : goal.walk_each-bounds-task-type_number
walk_each-bounds-task-type_number t c =
    let k = c.args.self.now.sheet.task.now in
    omega (arith, declarations_inside (held k) k.formed, c.requires.known, (operands_long k.table.entries k.table.whole))

pub walk_each-loop-o-init : goal.walk_each-loop-o-init
walk_each-loop-o-init t c = (refl, λ e j s. ap (fold offered c.args.window.now) (sym (none_kept _ _)))

pub walk_each-returns-then-is_packed : goal.walk_each-returns-then-is_packed
walk_each-returns-then-is_packed t c =
    let A = c.args.self.now in
    let T = A.sheet.task.now in
    record {
      same = c.loop-o.invariant.0;
      walked = λ e j s.
          let F = λ (o : ℕ). effect_literals (tree_of T) (shown A.image.now) (bind (bound A.sheet) o) e in
          stops offered c.args.window.now (in_set (get_or T.table.entries.operands.now c.args.type_number 0)) F
          packed packed_stays _ c.loop-o.o T.table.sizes.objects (omega arith) (sym c.if-is_packed.ensures) (c.loop-o.invariant.1 e j s)
          ∙ ap (λ (xs : List ℕ). fold offered c.args.window.now (gather F xs)) (members_in (held T) T.formed c.args.type_number c.requires.known);
    }

pub walk_each-loop-o-preserved : goal.walk_each-loop-o-preserved
walk_each-loop-o-preserved t c =
    let A = c.args.self.now in
    let l : A.sheet.depth < length A.sheet.objects = search rules in
    elim c.if-members-o-eq1.branch [
      | walk_each-then-members-o-eq1+else-is_packed w ↦ (
        w.self-is ∙ restored w.walk.new.self w.bind-before.ensures.bound w.bind-before.ensures.before w.walk.ensures.same w.drop-bound.ensures ∙ c.loop-o.invariant.0,
        λ e j s. with_member _ _ _ _ _ _ c.loop-o.o (eq-eqb _ _ w.if-members-o-eq1.true) (c.loop-o.invariant.1 e j s)
            (w.window-is ∙ instance A c.loop-o.self w.bind-before.new.self c.loop-o.o c.args.at w.walk.result c.loop-o.window w.walk.new.window c.loop-o.invariant.0 w.bind-before.ensures.bound w.walk.ensures.walked l e j s),
      )
      | walk_each-else-members-o-eq1 w ↦ (
        w.self-is ∙ c.loop-o.invariant.0,
        λ e j s. without_member _ _ _ _ _ c.loop-o.o (ne_eqb _ _ w.if-members-o-eq1.false) (w.window-is ∙ c.loop-o.invariant.1 e j s),
      )
    ]

pub walk_each-returns : goal.walk_each-returns
walk_each-returns t c =
    let A = c.args.self.now in
    let T = A.sheet.task.now in
    record {
      same = c.loop-o.invariant.0;
      walked = λ e j s.
          let F = λ (o : ℕ). effect_literals (tree_of T) (shown A.image.now) (bind (bound A.sheet) o) e in
          c.loop-o.invariant.1 e j s
          ∙ ap (λ (n : ℕ). fold offered c.args.window.now (gather F (keep (in_set (get_or T.table.entries.operands.now c.args.type_number 0)) (below n))))
          (let q : c.loop-o.o ≡ T.table.sizes.objects = omega arith in q)
          ∙ ap (λ (xs : List ℕ). fold offered c.args.window.now (gather F xs)) (members_in (held T) T.formed c.args.type_number c.requires.known);
    }
