-- Two rounds by which every atom becomes the same.
use Rattle.std.specs.Prelude.{◌≡◌, ℕ, List}
use Rattle.model.specs.Trees.{Formula, Task, Name}
use Rattle.model.specs.Settling.{settle, Round, simplify, reach}
use Rattle.model.specs.Books.{action}

-- every atom becomes TRUE in both, or FALSE in both, or the same fact
abbrev pub SameBecoming : Round → Round → Type 0
SameBecoming r r' = (k : ℕ) → settle (r.verdict k) (r.fact_of k) ≡ settle (r'.verdict k) (r'.fact_of k)

-- what is simplified rests on what the atoms become
pub record Alike (t : Task) (r r' : Round) : Type 0 where
  pub formula : (sheet : List ℕ) (g : Formula) → simplify t r sheet g ≡ simplify t r' sheet g
  pub action : (m : Name) → action t r m ≡ action t r' m
  pub reach : (m : Name) → reach t r m ≡ reach t r' m

abbrev pub SimplifyingRestsOnWhatAtomsBecome : Type 0
SimplifyingRestsOnWhatAtomsBecome = (t : Task) (r r' : Round) → SameBecoming r r' → Alike t r r'
