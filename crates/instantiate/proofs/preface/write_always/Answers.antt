use Rattle.std.proofs.Common.{◌+◌, map, length, sym, refl, ap, ◌∙◌, arith}
use Rattle.std.proofs.lemmas.List.{length_push}
use Rattle.table.specs.Entries.{coded}
use Rattle.table.specs.Reading.{entry}
use Rattle.model.specs.Books.{is_always_true}
use Rattle.runs.specs.Settled.{meaning}
use Rattle.instantiate.proofs.Writing.{none_always, one_always, not_always, one_written, same_written, none_written}
use Rattle.instantiate.proofs.preface.write_always.Goals as goal
use Rattle.instantiate.proofs.preface.write_always.Goals.{then-is_always_true+in_ok-push, else-is_always_true}

pub loop-atom-init : goal.loop-atom-init
loop-atom-init c =
    let e = none_always c.args.verdicts.now in
    record { wrote = none_written (entry 21) (map coded c.args.out.now.items) _ e; count = sym (ap length e); few = omega arith }

pub loop-atom-preserved : goal.loop-atom-preserved
loop-atom-preserved c =
    let vs = c.args.verdicts.now in
    let k = c.loop-atom.atom in
    let before = c.loop-atom.invariant in
    elim c.if-is_always_true.branch [
      | then-is_always_true+in_ok-push w ↦
          let e = one_always vs k (sym (w.if-is_always_true.ensures ∙ ap (λ v. is_always_true (meaning v)) c.verdict_of.ensures)) in
          record {
            wrote = one_written (entry 21) _ _ _ _ c.loop-atom.out.items c.if-is_always_true.out.items _ (ap (λ v. v.items) w.out-is ∙ w.in_ok-push.ensures.items) before.wrote e refl;
            count = w.count-is ∙ ap (λ n. n + 1) before.count ∙ sym (ap length e ∙ length_push _ _);
            few = omega arith;
          }
      | else-is_always_true w ↦
          let e = not_always vs k (sym (w.if-is_always_true.ensures ∙ ap (λ v. is_always_true (meaning v)) c.verdict_of.ensures)) in
          record {
            wrote = same_written (entry 21) _ _ _ c.loop-atom.out.items c.if-is_always_true.out.items (ap (λ v. v.items) w.out-is) before.wrote e;
            count = w.count-is ∙ before.count ∙ sym (ap length e);
            few = omega arith;
          }
    ]
