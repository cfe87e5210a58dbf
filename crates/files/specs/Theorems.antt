-- What is written is read back.
use Rattle.std.specs.Prelude.{◌≡◌, ℕ, ◌-◌, ◌<◌, ◌^◌, List, length, Ok, All, slice_index}
use Rattle.files.specs.Formats.{laid_out, numbers, fits, kinds_told, operands_told}

-- numbers that four bytes hold
abbrev pub FourBytes : List ℕ → Type 0
FourBytes = All (λ n. n < 2 ^ 32)

-- a file with so many sizes is as long as they tell, and these are its sizes, its kinds and its operands
pub record Tells (sizes kinds operands : List ℕ) (bytes : List ℕ) : Type 0 where
  pub length_fits : fits (length sizes) bytes ≡ Ok tt
  pub sizes_read : numbers (length sizes) bytes ≡ sizes
  pub kinds_read : kinds_told (length sizes) bytes ≡ kinds
  pub operands_read : operands_told (length sizes) bytes ≡ operands

-- sizes of which the last is the number of the kinds and of the operands, written out with them, are read back
abbrev pub WrittenIsReadBack : Type 0
WrittenIsReadBack = (sizes kinds operands : List ℕ) → 0 < length sizes → FourBytes sizes → FourBytes operands
    → slice_index sizes (length sizes - 1) ≡ length kinds → length kinds ≡ length operands
    → Tells sizes kinds operands (laid_out sizes kinds operands)

-- bytes of which as many stand there as their sizes tell, are what is told of them, written out
abbrev pub Bytes : List ℕ → Type 0
Bytes = All (λ n. n < 256)

abbrev pub ReadIsWrittenAgain : Type 0
ReadIsWrittenAgain = (sizes : ℕ) (bytes : List ℕ) → 0 < sizes → Bytes bytes → fits sizes bytes ≡ Ok tt
    → laid_out (numbers sizes bytes) (kinds_told sizes bytes) (operands_told sizes bytes) ≡ bytes
