-- What is settled, by computing.
use Rattle.std.proofs.Common.{◌≡◌, ℕ, zero, suc, true, false, cond, ◌==◌, [], ◌∷◌, ◌++◌, map, slice_index, refl, sym, ap, ◌∙◌, arith}
use Rattle.std.proofs.lemmas.Bool.{ne_eqb}
use Rattle.table.specs.Entries.{coded}
use Rattle.table.specs.Reading.{entry}
use Rattle.model.specs.Lists.{below}
use Rattle.model.specs.Settling.{settle, always, unsettled, fact}
use Rattle.adl.specs.Reads.{task, formula, effect, consequent}
use Rattle.book_of_task.specs.Becoming.{SameBecoming}
use Rattle.runs.specs.Effects.{meant}
use Rattle.book_of_task.proofs.Becoming.{what_atoms_become}
use Rattle.examples.specs.Settling.{ClashesByExample, WritingByExample, cells, first_open, on}

same : SameBecoming (first_open (λ k. k)) (first_open (λ k. 0))
same zero = refl
same (suc k) =
    let other : (suc k == 0) ≡ false = ne_eqb (suc k) 0 (λ e. absurd (omega (arith, e))) in
    ap (λ b. settle (cond b unsettled (always (suc k == 2))) (suc k)) other ∙ sym (ap (λ b. settle (cond b unsettled (always (suc k == 2))) 0) other)

facts_differ : fact 0 ≡ fact 1 → ⊥
facts_differ e = let same : ◌≡◌ {A = ℕ} 0 1 = cc in absurd (omega (arith, same))

one_is_none : entry 5 0 ∷ [] ≡ [] → ⊥
one_is_none e = cc

pub clash : ClashesByExample
unfolding task formula effect consequent below
clash = record {
  same = same;
  differ = λ h. facts_differ (h 0);
  alike = what_atoms_become cells (first_open (λ k. k)) (first_open (λ k. 0)) same;
  adds_false = refl;
  deletes_true = refl;
  adds_true = refl;
  open_atom = refl;
  one_of_two = refl;
  place = refl;
  no_place = refl;
  explains = refl;
  explains_not = λ e. cc;
  memory = tt;
  name_fits = refl;
  name_fits_not = refl;
  none_clashes = record { one = refl; two = refl };
  brings_about = refl;
}

pub writing : WritingByExample
unfolding task formula effect consequent below
writing = record {
  open_verdict = refl;
  true_verdict = refl;
  no_verdict = refl;
  written = refl;
  left_out = refl;
  goal_written = refl;
  appended = λ a b p q r s. record { entries = ap (map coded) r ∙ sym (ap (λ xs. map coded xs ++ (entry 5 0 ∷ [])) p); literals = ap (map meant) s ∙ sym (ap (λ xs. map meant xs ++ (on true 3 ∷ [])) q) };
  appended_not = λ a b p r h. one_is_none (sym (ap (map coded) r) ∙ h.entries ∙ ap (λ xs. map coded xs ++ []) p);
  lists = refl;
  first_two = refl;
  unused = refl;
  used = λ e. absurd (omega (arith, ap (λ xs. slice_index xs 0) e));
  touched = refl;
  untouched = refl;
}
