use Rattle.table.proofs.Lengths.{operands_long}
use Rattle.std.proofs.Common.{◌≡◌, ℕ, ◌+◌, ◌-◌, List, [], ◌∷◌, ◌++◌, length, get_or, true, refl, sym, ap, ◌∙◌, subst, arith, eq-eqb}
use Rattle.std.proofs.lemmas.Bool.{ne_eqb}
use Rattle.std.proofs.lemmas.List.{append-nil}
use Rattle.std.proofs.lemmas.Result.{IfOk-weaker, IfErr-weaker, err_from_is_err_and}
use Rattle.table.specs.declared.kind.Kind.TheVariants.{And, Forall, When}
use Rattle.table.proofs.Codes.{other_code}
use Rattle.model.specs.Lists.{below, keep, gather}
use Rattle.model.specs.Meaning.{Part, bind, ground, parts}
use Rattle.model.specs.Settling.{known}
use Rattle.model.specs.Trees.{constant, Change, Effect, in_set, members}
use Rattle.adl.specs.Held.{held}
use Rattle.adl_theorems.proofs.Standing.{declarations_inside}
use Rattle.runs.specs.declared.draft.Draft.{Draft}
use Rattle.runs.specs.declared.draft.Stop.{Stop}
use Rattle.runs.specs.declared.settling.Settling.{Settling}
use Rattle.adl.specs.Reads.{effects_of}
use Rattle.adl_theorems.specs.Writes.{write_effect}
use Rattle.book_of_task.specs.Places.{part_places, all_part_places, clash_in, clash_in_parts}
use Rattle.runs.specs.Clauses.{Explains, LiteralsWritten, PartsWritten, when_clash, effect_clash, effects_clash, instances_clash, EffectOf, EffectsOf, task_in, round_in, parts_of, all_parts_of}
use Rattle.runs.specs.Effects.{ChangeIn}
use Rattle.runs.specs.Shown.{bound}
use Rattle.runs.proofs.Appending.{longer, no_parts, parts_after, parts_as, one_part, freed_part, explained, Turned, wrote_as, stopped_as}
use Rattle.runs.proofs.Whens.{WhenPromised, WhenExplained}
use Rattle.runs.proofs.Extending.{draft_after, draft_so}
use Rattle.runs.proofs.Clashing.{first_part_inside, first_in_part, parts_placed, as_many, as_many_more}
use Rattle.runs.proofs.EffectPlaces.{formula_ends, effect_ends}
use Rattle.runs.proofs.EffectInstances.{member_inside, instance_stands, at_instance, written_with, written_without}
use Rattle.runs.proofs.Walks.{none_kept, members_in}
use Rattle.runs.proofs.EffectShapes.{no_effect_left, effect_begins, effect_kind, effect_ends_after, at_conjunction, at_for_each, at_when, at_change, first_effect}
use Rattle.runs.proofs.settling.Settling.+writing_effects.Goals as goal
use Rattle.runs.proofs.settling.Settling.+writing_effects.Goals.{write_each-then-members-o-eq1+in_ok-more+in_ok-written, write_each-else-members-o-eq1}

-- what writing the literal of a change promises, and what writing an effect does
abbrev LiteralPromised : Settling → ℕ → Draft → Draft → ℕ × ℕ → Type 0
LiteralPromised s i a b r = (d : Change) (j : ℕ) → ChangeIn s.sheet i d j → LiteralsWritten (round_in s) (ground (task_in s) (bound s.sheet) d ∷ []) a b r.0 × (r.1 ≡ j)

abbrev EffectPromised : Settling → ℕ → Draft → Draft → ℕ × ℕ → Type 0
EffectPromised s i a b r = (e : Effect) (j : ℕ) → EffectOf s i e j → PartsWritten (task_in s) (round_in s) (parts_of s e) a b r.0 × (r.1 ≡ j)

-- and why they stop
abbrev LiteralExplained : Settling → ℕ → Stop → Type 0
LiteralExplained s i stop = (d : Change) (j : ℕ) → ChangeIn s.sheet i d j → Explains (clash_in (round_in s) (ground (task_in s) (bound s.sheet) d ∷ []) (i ∷ [])) stop

abbrev EffectExplained : Settling → ℕ → Stop → Type 0
EffectExplained s i stop = (e : Effect) (j : ℕ) → EffectOf s i e j → Explains (effect_clash s i e) stop

-- the part that a change is
abbrev plain_part : Settling → Change → Part
plain_part s d = record { sheet = bound s.sheet; condition = constant true; literals = ground (task_in s) (bound s.sheet) d ∷ [] }

-- the parts of an instance of an effect
abbrev instance_of : Settling → Effect → ℕ → List Part
instance_of s e o = parts (task_in s) (bind (bound s.sheet) o) e

pub write_effect-offset_bounds-task-at : goal.write_effect-offset_bounds-task-at
write_effect-offset_bounds-task-at t c = omega (arith, effect_begins c.requires.2, c.args.self.now.sheet.task.now.table.short)

pub write_effect-bounds-task-at : goal.write_effect-bounds-task-at
write_effect-bounds-task-at t c = omega (arith, effect_begins c.requires.2, (operands_long c.args.self.now.sheet.task.now.table.entries c.args.self.now.sheet.task.now.table.whole))

pub write_effect-kind_at-requires : goal.write_effect-kind_at-requires
write_effect-kind_at-requires t c = record { within = effect_begins c.requires.2; known = effect_kind c.requires.2 }

pub write_effect-overflow_add-at : goal.write_effect-overflow_add-at
write_effect-overflow_add-at t c = omega (arith, effect_begins c.requires.2, c.args.self.now.sheet.task.now.table.short)

pub write_effect-write_all-requires : goal.write_effect-write_all-requires
write_effect-write_all-requires t c =
    let p = c.requires in
    let x = at_conjunction p.2 (sym c.in-And.ensures) in
    (omega (arith, effect_begins p.2), (x.0, p.1, x.2))

pub write_effect-overflow_add-at-in-Forall : goal.write_effect-overflow_add-at-in-Forall
write_effect-overflow_add-at-in-Forall t c = omega (arith, effect_begins c.requires.2, c.args.self.now.sheet.task.now.table.short)

pub write_effect-write_each-requires : goal.write_effect-write_each-requires
write_effect-write_each-requires t c =
    let p = c.requires in
    let x = at_for_each p.2 (sym c.in-Forall.ensures) in
    (omega (arith, effect_begins p.2), (x.4, (x.3, (x.0, p.1, x.2))))

pub write_effect-overflow_add-at-in-Forall-2 : goal.write_effect-overflow_add-at-in-Forall-2
write_effect-overflow_add-at-in-Forall-2 t c = omega (arith, effect_begins c.requires.2, c.args.self.now.sheet.task.now.table.short)

pub write_effect-skip_effect-requires : goal.write_effect-skip_effect-requires
write_effect-skip_effect-requires t c =
    let p = c.requires in
    let x = at_for_each p.2 (sym c.in-Forall.ensures) in
    (c.args.self.now.sheet.depth + 1, x.0, p.1, x.2)

pub write_effect-overflow_add-at-in-When : goal.write_effect-overflow_add-at-in-When
write_effect-overflow_add-at-in-When t c = omega (arith, effect_begins c.requires.2, c.args.self.now.sheet.task.now.table.short)

pub write_effect-write_when-requires : goal.write_effect-write_when-requires
write_effect-write_when-requires t c =
    let p = c.requires in
    let x = at_when p.2 (sym c.in-When.ensures) in
    (x.0, x.1, x.2, p.1, x.4, x.5)

pub write_effect-write_literal-requires : goal.write_effect-write_literal-requires
write_effect-write_literal-requires t c =
    let p = c.requires in
    let k = c.kind_at.result in
    let x = at_change p.2 (λ q. other_code k And c.in_default.not-And (c.kind_at.ensures ∙ q)) (λ q. other_code k Forall c.in_default.not-Forall (c.kind_at.ensures ∙ q)) (λ q. other_code k When c.in_default.not-When (c.kind_at.ensures ∙ q)) in
    (x.0, p.1, x.2)

pub write_effect-returns-in-And : goal.write_effect-returns-in-And
write_effect-returns-in-And t c =
    let A = c.args.self.now in
    let i = c.args.at in
    let m = get_or A.sheet.task.now.table.entries.operands.now i 0 in
    let opened : Turned (EffectsOf A (i + 1) m) (EffectOf A i) (all_parts_of A) (parts_of A) =
    record { one = λ e j s. let x = at_conjunction s (sym c.in-And.ensures) in (x.0, x.2, ap (parts_of A) x.1) } in
    let spots : Turned (EffectsOf A (i + 1) m) (EffectOf A i) (effects_clash A (i + 1)) (effect_clash A i) =
    record { one = λ e j s. let x = at_conjunction s (sym c.in-And.ensures) in (x.0, x.2, ap (effect_clash A i) x.1) } in
    record {
      wrote = wrote_as opened (λ ps n. PartsWritten (task_in A) (round_in A) ps c.args.draft.now c.write_all.new.draft n) c.write_all.result c.write_all.ensures.wrote;
      stopped = stopped_as spots (λ o. o) c.write_all.result c.write_all.ensures.stopped;
      extends = c.write_all.ensures.extends;
    }

pub write_effect-returns-in_err-written-in-Forall-clause-stopped : goal.write_effect-returns-in_err-written-in-Forall-clause-stopped
write_effect-returns-in_err-written-in-Forall-clause-stopped t c =
    let p = err_from_is_err_and c.from_residual.result c.from_residual.ensures.1 in
    let A = c.args.self.now in
    rw (p.1, p.2)
    (λ e j s.
    let x = at_for_each s (sym c.in-Forall.ensures) in
    subst (λ g. Explains (effect_clash A c.args.at g) c.in_err-written-in-Forall.field-0.0) (sym x.1) (c.in_err-written-in-Forall.ensures.stopped x.0 j x.2))

pub write_effect-returns-in_ok-written-in-Forall-clause-wrote : goal.write_effect-returns-in_ok-written-in-Forall-clause-wrote
write_effect-returns-in_ok-written-in-Forall-clause-wrote t c e j s =
    let A = c.args.self.now in
    let x = at_for_each s (sym c.in-Forall.ensures) in (
      parts_as (task_in A) (round_in A) _ (parts_of A e) _ _ _ (ap (parts_of A) x.1) (c.in_ok-written-in-Forall.ensures.wrote x.0 j x.2),
      c.skip_effect.ensures (A.sheet.depth + 1) x.0 j x.2,
    )

pub write_effect-returns-in-When : goal.write_effect-returns-in-When
write_effect-returns-in-When t c =
    let A = c.args.self.now in
    let i = c.args.at in
    let old = c.args.draft.now in
    let new = c.write_when.new.draft in
    record {
      wrote =
          IfOk-weaker c.write_when.result (WhenPromised A (i + 1) old new) (EffectPromised A i old new)
          (λ r h e j s.
          let x = at_when s (sym c.in-When.ensures) in
          let y = h x.0 x.1 x.2 j x.4 x.5 in
          (parts_as (task_in A) (round_in A) _ (parts_of A e) _ _ _ (ap (parts_of A) x.3) y.0, y.1))
          c.write_when.ensures.wrote;
      stopped =
          IfErr-weaker c.write_when.result (WhenExplained A (i + 1)) (EffectExplained A i)
          (λ stop h e j s.
          let x = at_when s (sym c.in-When.ensures) in
          subst (λ o. Explains o stop) (sym (ap (effect_clash A i) x.3 ∙ ap (λ n. when_clash A n x.0 x.1) (sym (formula_ends x.4)))) (h x.0 x.1 x.2 j x.4 x.5))
          c.write_when.ensures.stopped;
      extends = c.write_when.ensures.extends;
    }

pub write_effect-returns-in_default : goal.write_effect-returns-in_default
write_effect-returns-in_default t c =
    let A = c.args.self.now in
    let i = c.args.at in
    let k = c.kind_at.result in
    let old = c.args.draft.now in
    let new = c.write_literal.new.draft in
    let T = task_in A in
    let r = round_in A in
    record {
      wrote =
          IfOk-weaker c.write_literal.result (LiteralPromised A i old new) (EffectPromised A i old new)
          (λ o h e j s.
          let x = at_change s (λ q. other_code k And c.in_default.not-And (c.kind_at.ensures ∙ q)) (λ q. other_code k Forall c.in_default.not-Forall (c.kind_at.ensures ∙ q)) (λ q. other_code k When c.in_default.not-When (c.kind_at.ensures ∙ q)) in
          let y = h x.0 j x.2 in
          let p = plain_part A x.0 in
          (parts_as T r (p ∷ []) (parts_of A e) old new o.0 (ap (parts_of A) x.1) (one_part T r p old new o.0 (freed_part r (known true) p.literals old new o.0 refl y.0)), y.1))
          c.write_literal.ensures.wrote;
      stopped =
          IfErr-weaker c.write_literal.result (LiteralExplained A i) (EffectExplained A i)
          (λ stop h e j s.
          let x = at_change s (λ q. other_code k And c.in_default.not-And (c.kind_at.ensures ∙ q)) (λ q. other_code k Forall c.in_default.not-Forall (c.kind_at.ensures ∙ q)) (λ q. other_code k When c.in_default.not-When (c.kind_at.ensures ∙ q)) in
          let p = plain_part A x.0 in
          subst (λ g. Explains (effect_clash A i g) stop) (sym x.1)
          (explained (clash_in r p.literals (i ∷ [])) (clash_in_parts T r (p ∷ []) ((i ∷ []) ∷ [])) stop (λ n. first_in_part T r n (bound A.sheet) (constant true) p.literals (i ∷ []) refl) (h x.0 j x.2)))
          c.write_literal.ensures.stopped;
      extends = c.write_literal.ensures.extends;
    }

pub write_all-loop-k-init : goal.write_all-loop-k-init
write_all-loop-k-init t c =
    let n : c.args.count - 0 ≡ c.args.count = omega arith in
    let A = c.args.self.now in
    (omega arith, λ es j s. ([], es, rw n s, refl, no_parts (task_in A) (round_in A) c.args.draft.now, [], refl, refl))

pub write_all-write_effect-requires : goal.write_all-write_effect-requires
write_all-write_effect-requires t c =
    let p = c.requires in
    let i = c.loop-k.invariant in
    let m = first_effect (i.1 p.0 p.1 p.2).2 (c.args.count - (c.loop-k._k + 1)) (omega arith) in
    (omega (arith, i.0), (m.0, m.1, m.4))

pub write_all-returns-in_err-more-clause-stopped : goal.write_all-returns-in_err-more-clause-stopped
write_all-returns-in_err-more-clause-stopped t c =
    let p = err_from_is_err_and c.from_residual.result c.from_residual.ensures.1 in
    let A = c.args.self.now in
    let T = task_in A in
    let r = round_in A in
    rw (p.1, p.2)
    (λ es j s.
    let w = c.loop-k.invariant.1 es j s in
    let m = first_effect w.2 (c.args.count - (c.loop-k._k + 1)) (omega arith) in
    let first = parts_of A m.0 in
    let rest = all_parts_of A m.2 in
    let at = c.loop-k.next in
    let spots = part_places T at m.0 in
    let later = all_part_places T (at + length (write_effect m.0)) (effects_of m.2) in
    explained (effect_clash A at m.0) (effects_clash A c.args.at es) c.in_err-more.field-0.0
    (λ p. first_part_inside T r p w.0 first rest w.5 spots later (longer w.0 first rest (ap (all_parts_of A) m.3) w.3)
    (longer w.5 spots later (ap (λ fs. all_part_places T at (effects_of fs)) m.3) w.7) w.6 w.4.2)
    (c.in_err-more.ensures.stopped m.0 m.1 m.4))

pub write_all-returns-in_err-more-clause-extends : goal.write_all-returns-in_err-more-clause-extends
write_all-returns-in_err-more-clause-extends t c =
    let r = c.requires in
    let p = err_from_is_err_and c.from_residual.result c.from_residual.ensures.1 in
    rw p.1 (draft_after (c.loop-k.invariant.1 r.0 r.1 r.2).4.0 c.in_err-more.ensures.extends)

pub write_all-returns-in_err-written-clause-extends : goal.write_all-returns-in_err-written-clause-extends
write_all-returns-in_err-written-clause-extends t c =
    let r = c.requires in
    let w = c.loop-k.invariant.1 r.0 r.1 r.2 in
    let m = first_effect w.2 (c.args.count - (c.loop-k._k + 1)) (omega arith) in
    let p = err_from_is_err_and c.from_residual-in_err-written.result c.from_residual-in_err-written.ensures.1 in
    rw p.1 (draft_after w.4.0 (draft_so (c.in_ok-more.ensures.wrote m.0 m.1 m.4).0.0))

pub write_all-loop-k-preserved : goal.write_all-loop-k-preserved
write_all-loop-k-preserved t c =
    let p = c.requires in
    let i = c.loop-k.invariant in
    let A = c.args.self.now in
    let r = c.args.count - (c.loop-k._k + 1) in
    let m = first_effect (i.1 p.0 p.1 p.2).2 r (omega arith) in (
      omega (arith, i.0, effect_ends_after {e = m.0} {j = m.1} m.4, (c.in_ok-more.ensures.wrote m.0 m.1 m.4).1),
      λ es j s.
          let w = i.1 es j s in
          let m = first_effect w.2 r (omega arith) in
          let e = c.in_ok-more.ensures.wrote m.0 m.1 m.4 in
          let q = e.1 in
          let first = parts_of A m.0 in
          let T = task_in A in
          let at = c.loop-k.next in
          let spots = part_places T at m.0 in
          let ends = effect_ends m.4 in (
            w.0 ++ first,
            m.2,
            rw q m.5,
            longer w.0 first (all_parts_of A m.2) (ap (all_parts_of A) m.3) w.3,
            parts_after (task_in A) (round_in A) w.0 first _ _ _ _ _ _ w.4 e.0 c.in_ok-written.ensures,
            w.5 ++ spots,
            as_many_more w.0 first w.5 spots w.6 (parts_placed T (bound A.sheet) at m.0),
            longer w.5 spots _ (ap (λ fs. all_part_places T at (effects_of fs)) m.3 ∙ ap (λ n. spots ++ all_part_places T n (effects_of m.2)) (sym (e.1 ∙ ends))) w.7,
          ),
    )

pub write_all-returns-clause-wrote : goal.write_all-returns-clause-wrote
write_all-returns-clause-wrote t c es j s =
    let A = c.args.self.now in
    let w = c.loop-k.invariant.1 es j s in
    let e = no_effect_left w.2 (omega (arith, c.loop-k-test.false)) in
    (parts_as (task_in A) (round_in A) w.0 (all_parts_of A es) _ _ _ (w.3 ∙ ap (λ fs. w.0 ++ all_parts_of A fs) e.0 ∙ append-nil w.0) w.4, sym e.1)

pub write_each-bounds-task-type_number : goal.write_each-bounds-task-type_number
write_each-bounds-task-type_number t c =
    let k = c.args.self.now.sheet.task.now in
    omega (arith, declarations_inside (held k) k.formed, c.requires.known, (operands_long k.table.entries k.table.whole))

pub write_each-loop-o-init : goal.write_each-loop-o-init
write_each-loop-o-init t c e j s =
    let A = c.args.self.now in
    parts_as (task_in A) (round_in A) [] _ _ _ 0 (none_kept _ _) (no_parts (task_in A) (round_in A) c.args.draft.now)

pub write_each-returns-in_err-more-clause-stopped : goal.write_each-returns-in_err-more-clause-stopped
write_each-returns-in_err-more-clause-stopped t c =
    let p = err_from_is_err_and c.from_residual.result c.from_residual.ensures.1 in
    let A = c.args.self.now in
    let K = A.sheet.task.now in
    let T = task_in A in
    let r = round_in A in
    let n = c.with-instance.ensures in
    rw (p.1, p.2)
    (λ e j s.
    let F = instance_of A e in
    let kept = in_set (get_or K.table.entries.operands.now c.args.type_number 0) in
    let o = c.loop-o.o in
    let at = c.args.at in
    let G : ℕ → List (List ℕ) = λ o. part_places T at e in
    let taken = eq-eqb _ _ c.if-members-o-eq1.true in
    let w = member_inside kept F o K.table.sizes.objects c.loop-o-test.true taken in
    let v = member_inside kept G o K.table.sizes.objects c.loop-o-test.true taken in
    let all = sym (members_in (held K) K.formed c.args.type_number c.requires.known) in
    let before = keep kept (below o) in
    let stop = c.in_err-more.field-0.0 in
    explained (clash_in_parts T r (F o) (G o)) (instances_clash A at e (members T c.args.type_number)) stop
    (λ p. first_part_inside T r p (gather F before) (F o) w.0 (gather G before) (G o) v.0 (ap (gather F) all ∙ w.1) (ap (gather G) all ∙ v.1)
    (as_many F G (λ x. parts_placed T (bind (bound A.sheet) x) at e) before) (c.loop-o.invariant e j s).2)
    (at_instance A c.with-instance.result o n.task n.verdicts n.bound (λ t r ps. Explains (clash_in_parts t r ps (part_places t at e)) stop) e (c.in_err-more.ensures.stopped e j (instance_stands A c.with-instance.result n.task n.depth s))))

pub write_each-returns-in_err-more-clause-extends : goal.write_each-returns-in_err-more-clause-extends
write_each-returns-in_err-more-clause-extends t c =
    let r = c.requires.stands in
    let p = err_from_is_err_and c.from_residual.result c.from_residual.ensures.1 in
    rw p.1 (draft_after (c.loop-o.invariant r.0 r.1 r.2).0 c.in_err-more.ensures.extends)

pub write_each-returns-in_err-written-clause-extends : goal.write_each-returns-in_err-written-clause-extends
write_each-returns-in_err-written-clause-extends t c =
    let r = c.requires.stands in
    let n = c.with-instance.ensures in
    let p = err_from_is_err_and c.from_residual-in_err-written.result c.from_residual-in_err-written.ensures.1 in
    rw p.1
    (draft_after (c.loop-o.invariant r.0 r.1 r.2).0
    (draft_so (c.in_ok-more.ensures.wrote r.0 r.1 (instance_stands c.args.self.now c.with-instance.result n.task n.depth r.2)).0.0))

pub write_each-loop-o-preserved : goal.write_each-loop-o-preserved
write_each-loop-o-preserved t c e j s =
    let A = c.args.self.now in
    let T = task_in A in
    let r = round_in A in
    let F = instance_of A e in
    let kept = in_set (get_or A.sheet.task.now.table.entries.operands.now c.args.type_number 0) in
    elim c.if-members-o-eq1.branch [
      | write_each-then-members-o-eq1+in_ok-more+in_ok-written w ↦
          let n = w.with-instance.ensures in
          written_with T r kept F _ _ _ c.loop-o.o (c.loop-o.invariant e j s) _ _ _ _ _ (eq-eqb _ _ w.if-members-o-eq1.true)
          (at_instance A w.with-instance.result c.loop-o.o n.task n.verdicts n.bound (λ t r ps. PartsWritten t r ps c.loop-o.draft w.write_effect.new.draft w.in_ok-more.more) e (w.in_ok-more.ensures.wrote e j (instance_stands A w.with-instance.result n.task n.depth s)).0)
          w.in_ok-written.ensures w.draft-is w.written-is
      | write_each-else-members-o-eq1 w ↦ written_without T r kept F _ _ _ c.loop-o.o (c.loop-o.invariant e j s) _ _ (ne_eqb _ _ w.if-members-o-eq1.false) w.draft-is w.written-is
    ]

pub write_each-returns-clause-wrote : goal.write_each-returns-clause-wrote
write_each-returns-clause-wrote t c e j s =
    let A = c.args.self.now in
    let K = A.sheet.task.now in
    let F = instance_of A e in
    let kept = in_set (get_or K.table.entries.operands.now c.args.type_number 0) in
    let q : K.table.sizes.objects ≡ c.loop-o.o = omega arith in
    parts_as (task_in A) (round_in A) _ (gather F (members (task_in A) c.args.type_number)) _ _ _
    (ap (gather F) (sym (members_in (held K) K.formed c.args.type_number c.requires.known)) ∙ ap (λ n. gather F (keep kept (below n))) q) (c.loop-o.invariant e j s)
