-- Files that are not as long as their sizes tell.
use Rattle.std.proofs.Common.{◌≡◌, ℕ, ◌+◌, ◌*◌, ◌<◌, List, length, drop, Ok, Err, rules, arith, ◌∙◌}
use Rattle.std.proofs.lemmas.List.{length-drop}
use Rattle.fault.specs.declared.Cause.TheVariants.{FileLength}
use Rattle.fault.specs.declared.Layer.TheVariants.{File}
use Rattle.fault.specs.declared.Fault.{Fault}
use Rattle.fault.specs.Faults.{writing_cause}
use Rattle.files.specs.Formats.{fits, entries_told}

-- the refusal that tells the length
abbrev misfit : List ℕ → Fault
misfit bytes = record { cause = FileLength; layer = File; place = length bytes }

pub short : (n : ℕ) (bytes : List ℕ) → length bytes < 4 * n → fits n bytes ≡ Err (misfit bytes)
unfolding writing_cause
short n bytes h = search rules

pub uneven : (n : ℕ) (bytes : List ℕ) → (length (drop (4 * n) bytes) ≡ 5 * entries_told n bytes → ⊥) → fits n bytes ≡ Err (misfit bytes)
unfolding writing_cause
uneven n bytes h =
    let other : length bytes ≡ 4 * n + 5 * entries_told n bytes → ⊥ = λ e. h (length-drop (4 * n) bytes ∙ omega (arith, e)) in
    search rules

pub even : (n : ℕ) (bytes : List ℕ) → length bytes ≡ 4 * n + 5 * entries_told n bytes → fits n bytes ≡ Ok tt
even n bytes h = search rules

pub as_told : (n : ℕ) (bytes : List ℕ) → fits n bytes ≡ Ok tt → length bytes ≡ 4 * n + 5 * entries_told n bytes
as_told n bytes h = search rules
