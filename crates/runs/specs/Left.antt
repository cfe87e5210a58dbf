-- What is left of a formula that is simplified, and what stands where it is simplified.
use Rattle.std.specs.Prelude.{◌≡◌, ℕ, ◌++◌, Bool, List, map, Option}
use Rattle.table.specs.Entries.{coded}
use Rattle.table.specs.declared.arrays.Head.{Head}
use Rattle.model.specs.Trees.{Formula}
use Rattle.model.specs.Settling.{Ground, Grounds, simplify, simplify_all}
use Rattle.adl.specs.Held.{held, tree_of}
use Rattle.adl.specs.Reads.{formulas_of}
use Rattle.runs.specs.declared.settling.Settling.{Settling}
use Rattle.runs.specs.Standing.{FormulaAt, FormulasAt}
use Rattle.runs.specs.Shown.{bound}
use Rattle.runs.specs.Settled.{round_of, truth_of, body}

-- the entries of a simplified formula were appended, if it is neither TRUE nor FALSE, and its truth is told, if it is known
pub record Left (g : Ground) (before after : List Head) (told : Option Bool) : Type 0 where
  pub entries : map coded after ≡ map coded before ++ body g
  pub truth : told ≡ truth_of g

-- a formula stands from place i to place j
abbrev pub FormulaOf : Settling → ℕ → Formula → ℕ → Type 0
FormulaOf s i f j = FormulaAt (held s.sheet.task.now) s.sheet.depth i f j

-- so many formulas stand one after the other
abbrev pub FormulasOf : Settling → ℕ → ℕ → List Formula → ℕ → Type 0
FormulasOf s i m fs j = FormulasAt (held s.sheet.task.now) s.sheet.depth i m fs j

-- the formula, simplified by what is settled
abbrev pub simplified_in : Settling → Formula → Ground
simplified_in s f = simplify (tree_of s.sheet.task.now) (round_of s.verdicts.now) (bound s.sheet) f

abbrev pub all_simplified_in : Settling → List Formula → Grounds
all_simplified_in s fs = simplify_all (tree_of s.sheet.task.now) (round_of s.verdicts.now) (bound s.sheet) (formulas_of fs)
