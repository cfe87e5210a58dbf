-- Predicates that changes add and delete.
use Rattle.std.specs.Prelude.{◌≡◌, ℕ, ◌<◌, Bool, true, false, ◌||◌, List, slice_index_or}
use Rattle.model.specs.Lists.{any_of}
use Rattle.model.specs.Trees.{Change}
use Rattle.model.specs.Settling.{touches}
use Rattle.runs.specs.declared.touched.Touched.{Touched}

-- the predicate was noted as added
abbrev pub adds : Touched → ℕ → Bool
adds x p = slice_index_or x.added p false

-- the predicate was noted as deleted
abbrev pub deletes : Touched → ℕ → Bool
deletes x p = slice_index_or x.deleted p false

-- besides what was noted before, just the predicates of these changes were noted
pub record Touches (before : Touched) (cs : List Change) (after : Touched) : Type 0 where
  pub added : (p : ℕ) → p < 32 → adds after p ≡ (adds before p || any_of (touches true p) cs)
  pub deleted : (p : ℕ) → p < 32 → deletes after p ≡ (deletes before p || any_of (touches false p) cs)
