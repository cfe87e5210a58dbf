use Rattle.std.proofs.Common.{sym, refl, ap, ◌∙◌, subst}
use Rattle.std.proofs.lemmas.Bool.{cond-true, cond-false}
use Rattle.runs.specs.declared.sheet.Scene.{Scene}
use Rattle.runs.specs.Effects.{EffectIn, literals_in}
use Rattle.protocol.specs.Steps.{put_step}
use Rattle.runs.proofs.sheet.Scene.attempt.Goals as goal

pub returns-then-applicable : goal.returns-then-applicable
returns-then-applicable g c =
    let m = g.S.Store in
    record {
      size = c.take_step.ensures.size;
      judged = λ f j h. (c.judge-applicable.ensures.value f j h).0;
      set = λ e j h.
          c.take_step.ensures.set e j (subst (λ s. EffectIn s c.args.effect e j) (sym c.judge-applicable.ensures.same) h)
          ∙ ap (λ (z : Scene). put_step (m.extent c.args.store.now) (literals_in z e) (m.facts c.args.store.now)) c.judge-applicable.ensures.same
          ∙ sym (cond-true c.judge-applicable.result.0 _ _ c.if-applicable.true);
    }

pub returns-else-applicable : goal.returns-else-applicable
returns-else-applicable g c =
    record {
      size = refl;
      judged = λ f j h. (c.judge-applicable.ensures.value f j h).0;
      set = λ e j h. sym (cond-false c.judge-applicable.result.0 _ _ c.if-applicable.false);
    }
