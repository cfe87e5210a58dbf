-- Calls, by computing.
use Rattle.std.proofs.Common.{◌≡◌, true, false, slice_index_or, refl, ap, ◌∙◌}
use Rattle.model.specs.Worked.{name}
use Rattle.protocol.specs.declared.calls.Answer.TheVariants.{NoRun, Done, Told}
use Rattle.model.specs.Lists.{below}
use Rattle.adl.specs.Reads.{task, formula, effect, consequent}
use Rattle.book.specs.Reads.{book, ground, objects}
use Rattle.examples.specs.Calling.{AnswersByExample, CallsByExample}

truths_differ : Told false ≡ Told true → ⊥
truths_differ e = cc

no_run_is_done : Done ≡ NoRun → ⊥
no_run_is_done e = cc

pub answers : AnswersByExample
answers = record {
  steps = refl;
  no_steps = refl;
  all_of_none = refl;
  any_of_none = refl;
  names = λ m o os. ap (λ i. name i m.objects.now) o ∙ ap (name 2) os;
}

pub calls : CallsByExample
unfolding task formula effect consequent below book ground objects
calls = record {
  no_run = λ s. refl;
  small_store = λ s. refl;
  no_store = λ s. refl;
  short_image = λ s. refl;
  no_image = λ s. refl;
  no_atom = λ s. refl;
  no_atom_in_book = λ s. refl;
  last_step = refl;
  last_in_book = refl;
  no_more = λ s. refl;
  no_more_in_book = λ s. refl;
  stepped = refl;
  counts = refl;
  filled = refl;
  filled_so = refl;
  left = refl;
  in_book = refl;
  no_action = refl;
  played = λ s. record { set_is = refl; image_is = refl; answered = refl; rest = refl };
  played_not = λ s p. truths_differ (ap (λ xs. slice_index_or xs 1 NoRun) p.answered);
  beyond = λ s p. no_run_is_done (ap (λ xs. slice_index_or xs 0 NoRun) p.rest);
}
