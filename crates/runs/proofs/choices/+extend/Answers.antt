use Rattle.table.proofs.Lengths.{operands_long}
use Rattle.std.proofs.Common.{◌≡◌, ◌+◌, ◌-◌, length, map, take, sym, ap, ◌∙◌, subst, inl, inr, arith, rules, eq-eqb}
use Rattle.std.proofs.lemmas.List.{take_more_set, drop-set-lt}
use Rattle.std.specs.List.{All}
use Rattle.std.proofs.lemmas.Bool.{ne_eqb}
use Rattle.adl.specs.Held.{held, tree_of}
use Rattle.adl_theorems.proofs.Standing.{declarations_inside}
use Rattle.runs.specs.Chosen.{chosen, Unused}
use Rattle.runs.proofs.Fittings.{first_parameter, has_listed}
use Rattle.runs.proofs.Choosing.{none_below, object_taken, object_passed, all_gone, one_longer, unused_as, first_inside}
use Rattle.runs.proofs.Walks.{members_in}
use Rattle.runs.proofs.choices.+extend.Goals as goal
use Rattle.runs.proofs.choices.+extend.Goals.{then-members-o-eq1+then-not-contains+in_ok-extend, else-members-o-eq1, else-members-o-eq1-via-then-members-o-eq1+else-not-contains, else-members-o-eq1-via-else-members-o-eq1}

pub bounds-task-task : goal.bounds-task-task
bounds-task-task t c =
    let k = c.args.task.now in
    let p = c.requires.parameters in
    omega (arith, first_inside (held k) c.args.left c.args.at p.0 p.1 (omega arith) p.2, declarations_inside (held k) k.formed, (operands_long k.table.entries k.table.whole))

pub loop-o-init : goal.loop-o-init
loop-o-init t c = (λ rest j e. none_below (tree_of c.args.task.now) _ (take c.args.count c.args.begun) rest _, λ h. h)

pub overflow_add-at : goal.overflow_add-at
overflow_add-at t c =
    let k = c.args.task.now in
    let p = c.requires.parameters in
    omega (arith, first_inside (held k) c.args.left c.args.at p.0 p.1 (omega arith) p.2, k.table.short)

pub extend-requires : goal.extend-requires
extend-requires t c =
    let p = c.requires.parameters in
    let w = first_parameter (held c.args.task.now) c.args.left c.args.at p.0 p.1 (omega arith) p.2 in
    let n : c.args.count + 1 + (c.args.left - 1) ≡ c.args.count + c.args.left = omega arith in
    (omega arith, ((w.0, p.1, w.2), (omega (arith, c.requires.few), rw n (drop-set-lt (c.args.count + c.args.left) c.args.begun c.args.count c.loop-o.o-counter (omega arith) ∙ c.requires.unused))))

pub loop-o-preserved : goal.loop-o-preserved
loop-o-preserved t c =
    let T = tree_of c.args.task.now in
    let n = c.args.count + c.args.left in
    let o = c.loop-o.o-counter in
    let before = take c.args.count c.args.begun in
    let l : length c.args.begun ≡ 4 = search rules in
    let inv = c.loop-o.invariant in (
      λ rest j e.
          let h = inv.0 rest j e in
          elim c.if-members-o-eq1.branch [
            | then-members-o-eq1+then-not-contains+in_ok-extend w ↦
                ap (λ v. map (chosen n) v.items) w.out-is
                ∙ object_taken T _ before rest _ _ o h _ (eq-eqb _ _ w.if-members-o-eq1.true) (sym (has_listed o before) ∙ sym w.contains.ensures.value ∙ w.if-not-contains.true)
                (one_longer T rest before _ o n _ _ _ (omega arith) (take_more_set c.args.begun c.args.count o (omega (arith, c.requires.few))) (w.in_ok-extend.ensures.lists rest j e))
            | else-members-o-eq1 w ↦
                ap (λ v. map (chosen n) v.items) w.out-is
                ∙ object_passed T _ before rest _ _ o h
                (elim w.else-members-o-eq1.branch [
                  | else-members-o-eq1-via-then-members-o-eq1+else-not-contains u ↦ inr (sym (has_listed o before) ∙ sym u.contains.ensures.value ∙ u.if-not-contains.false)
                  | else-members-o-eq1-via-else-members-o-eq1 u ↦ inl (ne_eqb _ _ u.if-members-o-eq1.false)
                ])
          ],
      λ h. elim c.if-members-o-eq1.branch [
        | then-members-o-eq1+then-not-contains+in_ok-extend w ↦ subst (λ v. All (Unused n) v.items) (sym w.out-is) (unused_as _ n _ _ (omega arith) w.in_ok-extend.ensures.unused (inv.1 h))
        | else-members-o-eq1 w ↦ subst (λ v. All (Unused n) v.items) (sym w.out-is) (inv.1 h)
      ],
    )

pub returns-clause-lists : goal.returns-clause-lists
returns-clause-lists t c tys j e =
    let k = c.args.task.now in
    let w = first_parameter (held k) c.args.left c.args.at tys j (omega arith) e in
    let i = first_inside (held k) c.args.left c.args.at tys j (omega arith) e in
    all_gone (tree_of k) _ (take c.args.count c.args.begun) w.0 _ _ c.loop-o.o-counter k.table.sizes.objects _ tys (omega arith) (c.loop-o.invariant.0 w.0 j w.2) (members_in (held k) k.formed _ i.1) w.1
