-- The agreement, by computing.
use Rattle.std.proofs.Common.{◌≡◌, ℕ, true, false, [], ◌∷◌, length, length-append, refl, sym, ap, ◌∙◌, arith}
use Rattle.model.specs.Lists.{below}
use Rattle.model.specs.Books as tree
use Rattle.model.specs.Meaning.{State}
use Rattle.adl.specs.Loads as loading
use Rattle.adl.specs.Reads.{task, formula, effect, consequent}
use Rattle.book.specs.Opens as opening
use Rattle.worked.proofs.Cases.{come_out}
use Rattle.protocol.specs.declared.calls.Answer.TheVariants.{Done, Told, Count}
use Rattle.protocol.specs.declared.calls.Call.TheVariants.{Begin, Goal}
use Rattle.agree.specs.Sides.{AnswersAgree}
use Rattle.examples.specs.Agreeing.{AgreeingByExample, cells}

turned : false ≡ true → ⊥
turned e = cc

told_apart : Told true ≡ Told false → ⊥
told_apart e = cc

counts_apart : Count 1 ≡ Count 0 → ⊥
counts_apart e = let same : ◌≡◌ {A = ℕ} 1 0 = cc in absurd (omega (arith, same))

-- the calls before and at each place
both_tell : AnswersAgree cells (Begin ∷ Goal ∷ []) (Done ∷ Told false ∷ []) (Done ∷ Told false ∷ [])
unfolding task formula effect consequent below
both_tell [] Begin rest e = (refl, refl)
both_tell (Begin ∷ []) Goal rest e = (refl, refl)
both_tell (x ∷ y ∷ before) c rest e = absurd (omega (arith, ap length e, length-append before (c ∷ rest)))
both_tell before c rest e = absurd (cc)

pub agreeing : AgreeingByExample
unfolding task formula effect consequent below
agreeing = record {
  first = refl;
  not_first = turned;
  not_again = turned;
  room = record { task_store = omega arith; book_store = omega arith; task_image = omega arith; book_image = omega arith };
  no_room = λ im r. absurd (omega (arith, r.book_image));
  goal = (refl, refl);
  wrong_goal = λ h. told_apart h.0;
  wrong_atom = λ h. told_apart (sym h.0);
  wrong_count = λ h. counts_apart h.0;
  wrong_store = λ f t. turned (ap (λ (s : State). s 2) t.left);
  no_name = refl;
  made = λ c t b p q. ap opening.book_of q ∙ (come_out c).stands ∙ sym (ap (λ x. tree.book (loading.task_of x)) p);
  answers = both_tell;
  wrong_answers = λ h. told_apart (h (Begin ∷ []) Goal [] refl).1;
}
