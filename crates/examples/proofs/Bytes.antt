-- Files, by computing.
use Rattle.std.proofs.Common.{◌≡◌, ℕ, zero, suc, ◌&&◌, Bool, true, nat_lt, List, [], ◌∷◌, Ok, Err, slice_index, refl, ap, arith}
use Rattle.std.proofs.lemmas.Bool.{ltb-true, and_parts}
use Rattle.fault.specs.declared.Layer.TheVariants.{File}
use Rattle.fault.specs.Faults.{refusal}
use Rattle.table.specs.Answers.{Answer}
use Rattle.model.specs.Lists.{below}
use Rattle.adl.specs.Reads.{task, formula, effect, consequent}
use Rattle.book.specs.Reads.{book, ground, objects}
use Rattle.book_theorems.specs.Writes.{write_book}
use Rattle.book_of_task.specs.Places.{first_clash}
use Rattle.files.specs.Formats.{number, laid_out}
use Rattle.files.specs.Theorems.{FourBytes, Bytes}
use Rattle.examples.specs.Files.{FilesByExample, small_file}

fitting : FourBytes (513 ∷ 2147483648 ∷ [])
fitting zero d h = omega arith
fitting (suc zero) d h = omega arith
fitting (suc (suc k)) d h = absurd (omega arith)

-- each is below 256
are_small : List ℕ → Bool
are_small [] = true
are_small (x ∷ xs) = nat_lt x 256 && are_small xs

small_bytes : (xs : List ℕ) → are_small xs ≡ true → Bytes xs
unfolding are_small
small_bytes [] e k d h = absurd (omega arith)
small_bytes (x ∷ xs) e zero d h = ltb-true x 256 (and_parts (nat_lt x 256) (are_small xs) e).0
small_bytes (x ∷ xs) e (suc k) d h = small_bytes xs (and_parts (nat_lt x 256) (are_small xs) e).1 k d (omega (arith, h))

bytes : Bytes small_file
unfolding are_small
bytes = small_bytes small_file refl

refused_is_good : let a : Answer = Err (refusal 9 File 1) in a ≡ Ok tt → ⊥
refused_is_good e = cc

pub files : FilesByExample
unfolding task formula effect consequent below book ground objects write_book first_clash number laid_out
files = record {
  bytes = refl;
  lays_out = refl;
  tells = record { length_fits = refl; sizes_read = refl; kinds_read = refl; operands_read = refl };
  tells_not = λ t. absurd (omega (arith, ap (λ xs. slice_index xs 1) t.operands_read));
  again = refl;
  in_four_bytes = fitting;
  too_large = λ h. absurd (omega (arith, h 0 0 (omega arith)));
  are_bytes = bytes;
  no_bytes = λ h. absurd (omega (arith, h 1 0 (omega arith)));
  one_byte = refl;
  no_kind = refl;
  no_operand = refl;
  loads = refl;
  opens = refl;
  no_book = refl;
  too_short = refl;
  long_enough = refl;
  not_loaded = refl;
  not_written = refl;
  holds = record { fits = refl; opens = refl; book = refl };
  holds_not = λ b h. refused_is_good h.fits;
  filled = refl;
  left = refl;
}
