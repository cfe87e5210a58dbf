use Rattle.std.proofs.Common.{◌+◌, Bool, cond, map, length, sym, ap, ◌∙◌, arith}
use Rattle.std.proofs.lemmas.List.{length_push}
use Rattle.store.specs.Packed.{facts_of}
use Rattle.table.specs.Entries.{coded}
use Rattle.table.specs.Kinds.{code_of}
use Rattle.table.specs.Reading.{entry}
use Rattle.model.specs.Settling.{is_unsettled}
use Rattle.runs.specs.Settled.{meaning}
use Rattle.book_theorems.specs.Writes.{write_start}
use Rattle.instantiate.proofs.Writing.{no_starts, one_start, no_start, one_written, same_written, none_written}
use Rattle.instantiate.proofs.preface.write_relevant.Goals as goal
use Rattle.instantiate.proofs.preface.write_relevant.Goals.{in-Fact+in_ok-push, then-holds, else-holds, in_default}

pub loop-atom-init : goal.loop-atom-init
loop-atom-init c =
    let e = no_starts (facts_of c.args.facts.now) c.args.verdicts.now in
    record { wrote = none_written write_start (map coded c.args.out.now.items) _ e; count = sym (ap length e); few = omega arith }

pub loop-atom-preserved : goal.loop-atom-preserved
loop-atom-preserved c =
    let s = facts_of c.args.facts.now in
    let vs = c.args.verdicts.now in
    let k = c.loop-atom.atom in
    let before = c.loop-atom.invariant in
    elim c.match-verdict_of.branch [
      | in-Fact+in_ok-push w ↦
          let e = one_start s vs k (ap (λ v. is_unsettled (meaning v)) (sym w.in-Fact.ensures)) in
          record {
            wrote = one_written write_start _ _ _ _ c.loop-atom.out.items c.match-verdict_of.out.items _ (ap (λ v. v.items) w.out-is ∙ w.in_ok-push.ensures.items) before.wrote e
                (ap (λ n. entry n k) (elim w.if-holds.branch [
                  | then-holds u ↦ ap code_of u.kind-is ∙ ap (λ (b : Bool). cond b 19 20) u.if-holds.ensures
                  | else-holds u ↦ ap code_of u.kind-is ∙ ap (λ (b : Bool). cond b 19 20) u.if-holds.ensures
                ]));
            count = w.count-is ∙ ap (λ n. n + 1) before.count ∙ sym (ap length e ∙ length_push _ _);
            few = omega arith;
          }
      | in_default w ↦
          let e = no_start s vs k (ap (λ v. is_unsettled (meaning v)) (sym w.in_default.ensures)) in
          record {
            wrote = same_written write_start _ _ _ c.loop-atom.out.items c.match-verdict_of.out.items (ap (λ v. v.items) w.out-is) before.wrote e;
            count = w.count-is ∙ before.count ∙ sym (ap length e);
            few = omega arith;
          }
    ]
