-- A round by which every atom becomes the same forbids the same literals.
use Rattle.std.proofs.Common.{◌≡◌, ℕ, Bool, true, false, not, ◌||◌, List, [], ◌∷◌, sym, refl, ap, ap₂, ◌∙◌}
use Rattle.model.specs.Trees.{Task, Name}
use Rattle.model.specs.Forming.{WellFormed}
use Rattle.model.specs.Meaning.{fits, Literal}
use Rattle.model.specs.Settling.{Verdict, always, unsettled, Round, settle, is, reach, round_one, round_two}
use Rattle.book_of_task.specs.Becoming.{SameBecoming}
use Rattle.book_of_task.specs.Clashes.{is_always, some_clashes}
use Rattle.book_of_task.specs.Places.{clash_of}
use Rattle.book_of_task.proofs.Becoming.{what_atoms_become}
use Rattle.book_of_task.proofs.Clashes.{no_literal_clashes}
use Rattle.std.proofs.Math.Option.{Option, some, none}
use Rattle.runs.proofs.Clashing.{none_of}
use Rattle.runs.specs.Clauses.{Explains, fault_of}
use Rattle.runs.specs.declared.draft.Stop.{Stop}
use Rattle.runs.specs.declared.draft.Stop.TheVariants.{NoMemory, Clash}
use Rattle.instantiate.specs.Refusals.{no_memory}

-- What an atom becomes tells whether it is always so.

always_told : (b : Bool) (v : Verdict) (j : ℕ) → is_always b v ≡ is b (settle v j)
always_told b (always c) j = refl
always_told b unsettled j = refl

alike : (r r' : Round) → SameBecoming r r' → (ls : List Literal) → some_clashes r ls ≡ some_clashes r' ls
alike r r' same [] = refl
alike r r' same (l ∷ ls) =
    let k = l.atom in
    ap₂ (λ (a b : Bool). a || b)
    (always_told (not l.adds) (r.verdict k) (r.fact_of k) ∙ ap (is (not l.adds)) (same k) ∙ sym (always_told (not l.adds) (r'.verdict k) (r'.fact_of k)))
    (alike r r' same ls)

-- only want of memory stops the writing where no literal clashes
stopped : (first : Option ℕ) (s : Stop) → first ≡ none → Explains first s → fault_of s ≡ no_memory
stopped first NoMemory e x = refl
stopped first (Clash p) e x = absurd (let q : ◌≡◌ {A = Option ℕ} none (some p) = sym e ∙ x in cc)

module _ (t : Task) (formed : WellFormed t) (r : Round) (m : Name) (fit : fits t m ≡ true) where
  none_in : (r' : Round) → SameBecoming r r' → some_clashes r' (reach t r' m) ≡ false → some_clashes r (reach t r m) ≡ false
  none_in r' same e =
      alike r r' same (reach t r m) ∙ ap (some_clashes r') ((what_atoms_become t r r' same).reach m) ∙ e

  pub stopped_in_one : SameBecoming r (round_one t) → (s : Stop) → Explains (clash_of t r m) s → fault_of s ≡ no_memory
  stopped_in_one same s = stopped (clash_of t r m) s (none_of t r m (none_in (round_one t) same (no_literal_clashes t formed m fit).one))

  pub stopped_in_two : SameBecoming r (round_two t) → (s : Stop) → Explains (clash_of t r m) s → fault_of s ≡ no_memory
  stopped_in_two same s = stopped (clash_of t r m) s (none_of t r m (none_in (round_two t) same (no_literal_clashes t formed m fit).two))
