-- What instantiating answers, case by case.
use Rattle.std.proofs.Common.{◌≡◌, ℕ, ◌≤◌, cond, ltb, length, Ok, Err, Result, ◌⊎◌, inl, inr, ⊎_elim, sym, ap, ◌∙◌}
use Rattle.std.proofs.Math.Option.{none}
use Rattle.std.proofs.lemmas.Bool.{lt-ltb, le-ltb, cond-true, cond-false}
use Rattle.fault.specs.declared.Fault.{Fault}
use Rattle.fault.specs.declared.Layer.TheVariants.{Book}
use Rattle.fault.specs.Faults.{refusal}
use Rattle.model.specs.Trees.{Task}
use Rattle.model.specs.Books.{book}
use Rattle.book.specs.declared.sizes.Sizes.{Sizes}
use Rattle.instantiate.specs.Outcome.{book_entries, instantiates, literals_one, literals_needed, most, sizes_of, unless_clash}
use Rattle.book_of_task.specs.Places.{first_clash}
use Rattle.instantiate.specs.Refusals.{no_memory, TooShort, TooLong}

module _ (t : Task) (room ks os : ℕ) where
  pub list_too_short : (f : Fault) → TooShort room (literals_one t) f → Err f ≡ instantiates t room ks os
  list_too_short f w = ap Err w.0 ∙ sym (cond-true (ltb room (literals_needed t)) (Err (refusal 12 Book room)) _ (lt-ltb room (literals_needed t) w.1))

  -- with room for the literals, and no clash, the length of the book tells
  by_length : literals_needed t ≤ room → first_clash t ≡ none
      → instantiates t room ks os ≡ cond (ltb (most ks os) (length (book_entries t))) (Err (refusal 11 Book (length (book_entries t)))) (Ok (sizes_of (book t)))
  by_length enough clear =
      cond-false (ltb room (literals_needed t)) (Err (refusal 12 Book room)) _ (le-ltb room (literals_needed t) enough)
      ∙ ap (λ c. unless_clash c (cond (ltb (most ks os) (length (book_entries t))) (Err (refusal 11 Book (length (book_entries t)))) (Ok (sizes_of (book t))))) clear

  pub book_too_long : literals_needed t ≤ room → first_clash t ≡ none → (f : Fault) → TooLong (most ks os) (book_entries t) f → Err f ≡ instantiates t room ks os
  book_too_long enough clear f w =
      ap Err w.0 ∙ sym (by_length enough clear ∙ cond-true (ltb (most ks os) (length (book_entries t))) (Err (refusal 11 Book (length (book_entries t)))) _ (lt-ltb _ _ w.1))

  pub book_told : literals_needed t ≤ room → first_clash t ≡ none → length (book_entries t) ≤ most ks os → Ok (sizes_of (book t)) ≡ instantiates t room ks os
  book_told enough clear fits =
      sym (by_length enough clear ∙ cond-false (ltb (most ks os) (length (book_entries t))) (Err (refusal 11 Book (length (book_entries t)))) _ (le-ltb _ _ fits))

-- a refusal is want of memory, or what the definition says
pub refused_as : (r x : Result Sizes Fault) (f : Fault) (P : Type 0) → r ≡ Err f → (f ≡ no_memory) ⊎ P → (P → Err f ≡ x) → (r ≡ Err no_memory) ⊎ (r ≡ x)
refused_as r x f P is why tells = ⊎_elim (λ m. inl (is ∙ ap Err m)) (λ p. inr (is ∙ tells p)) why
