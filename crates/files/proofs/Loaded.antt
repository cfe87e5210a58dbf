-- What stands in the arrays into which a file was read.
use Rattle.std.proofs.Common.{◌≡◌, ℕ, ◌+◌, ◌*◌, List, length, take, drop, Ok, sym, ap, ◌∙◌, arith, rules}
use Rattle.std.proofs.lemmas.List.{length-take-le, length-drop}
use Rattle.table.specs.Answers.{Answer, and_then}
use Rattle.adl.specs.Loads.{loads, given, task_of}
use Rattle.adl.specs.declared.sizes.Sizes as task
use Rattle.book.specs.Opens.{opens}
use Rattle.book.specs.declared.sizes.Sizes as ground
use Rattle.instantiate.specs.Growing.{over}
use Rattle.files.specs.Formats.{entries_told, kinds_told, operands_told, fits, reads}
use Rattle.files.specs.Converting.{book_sizes, loads_file, opens_file, task_in_file, task_sizes}
use Rattle.files.proofs.Booked.{front}
use Rattle.files.proofs.Bytes.{numbers_length}
use Rattle.files.proofs.Fitting.{as_told}

-- a file that is read is as long as its sizes tell
reads_fits : (n : ℕ) (b : List ℕ) (k o : ℕ) → reads n b k o ≡ Ok tt → fits n b ≡ Ok tt
reads_fits n b k o h = search rules

kinds_length : (n : ℕ) (b : List ℕ) → fits n b ≡ Ok tt → length (kinds_told n b) ≡ entries_told n b
kinds_length n b h =
    let l = as_told n b h in
    length-take-le (entries_told n b) (drop (4 * n) b) (omega (arith, l, length-drop (4 * n) b))

-- the arrays into which a file with n sizes was read begin with what it tells, whatever they are named by
module _ (n : ℕ) (b ks os ks' os' : List ℕ) (e : ℕ) (ok : reads n b (length ks) (length os) ≡ Ok tt) (told : e ≡ entries_told n b)
    (kinds : ks' ≡ over (kinds_told n b) ks) (operands : os' ≡ over (operands_told n b) os) where
  pub same_kinds : take e ks' ≡ kinds_told n b
  same_kinds = front (kinds_told n b) ks ks' e kinds (told ∙ sym (kinds_length n b (reads_fits n b _ _ ok)))

  pub same_operands : take e os' ≡ operands_told n b
  same_operands = front (operands_told n b) os os' e operands (told ∙ sym (numbers_length (entries_told n b) (drop (4 * n + entries_told n b) b)))

module _ (b ks os ks' os' : List ℕ) (z : task.Sizes) (ok : reads 6 b (length ks) (length os) ≡ Ok tt) (sizes : z ≡ task_sizes b)
    (kinds : ks' ≡ over (kinds_told 6 b) ks) (operands : os' ≡ over (operands_told 6 b) os) where
  k : take z.entries ks' ≡ kinds_told 6 b
  k = same_kinds 6 b ks os ks' os' z.entries ok (ap (λ x. x.entries) sizes) kinds operands

  o : take z.entries os' ≡ operands_told 6 b
  o = same_operands 6 b ks os ks' os' z.entries ok (ap (λ x. x.entries) sizes) kinds operands

  -- loading what was read answers what loading the file does
  pub loaded_as : (r : Answer) → r ≡ loads z (take z.entries ks') (take z.entries os') → r ≡ loads_file b (length ks) (length os)
  loaded_as r h =
      h
      ∙ ap (λ x. loads x (take z.entries ks') (take z.entries os')) sizes
      ∙ ap (λ x. loads (task_sizes b) x (take z.entries os')) k
      ∙ ap (loads (task_sizes b) (kinds_told 6 b)) o
      ∙ ap (λ x. and_then x (loads (task_sizes b) (kinds_told 6 b) (operands_told 6 b))) (sym ok)

  -- and the task is that of the file
  pub task_loaded : task_of (given z (take z.entries ks') (take z.entries os')) ≡ task_in_file b
  task_loaded =
      ap (λ x. task_of (given x (take z.entries ks') (take z.entries os'))) sizes
      ∙ ap (λ x. task_of (given (task_sizes b) x (take z.entries os'))) k
      ∙ ap (λ x. task_of (given (task_sizes b) (kinds_told 6 b) x)) o

-- opening what was read answers what opening the file does
pub opened_as : (b ks os ks' os' : List ℕ) (z : ground.Sizes) → reads 5 b (length ks) (length os) ≡ Ok tt → z ≡ book_sizes b
    → ks' ≡ over (kinds_told 5 b) ks → os' ≡ over (operands_told 5 b) os → (r : Answer) → r ≡ opens z (take z.entries ks') (take z.entries os') → r ≡ opens_file b (length ks) (length os)
opened_as b ks os ks' os' z ok sizes kinds operands r h =
    let e : z.entries ≡ entries_told 5 b = ap (λ x. x.entries) sizes in
    h
    ∙ ap (λ x. opens x (take z.entries ks') (take z.entries os')) sizes
    ∙ ap (λ x. opens (book_sizes b) x (take z.entries os')) (same_kinds 5 b ks os ks' os' z.entries ok e kinds operands)
    ∙ ap (opens (book_sizes b) (kinds_told 5 b)) (same_operands 5 b ks os ks' os' z.entries ok e kinds operands)
    ∙ ap (λ x. and_then x (opens (book_sizes b) (kinds_told 5 b) (operands_told 5 b))) (sym ok)
