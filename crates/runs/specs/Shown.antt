-- What a sheet and a scene show, and what stands in a task's table where so many variables are bound.
use Rattle.std.specs.Prelude.{◌≡◌, ℕ, ◌+◌, Bool, List, take, slice_set}
use Rattle.model.specs.Meaning.{value, values}
use Rattle.model.specs.Trees.{Junction, Term, Formula}
use Rattle.adl.specs.Held.{held, tree_of}
use Rattle.adl.specs.Reads.{formulas_of}
use Rattle.protocol.specs.Shown.{shown}
use Rattle.runs.specs.declared.sheet.Sheet.{Sheet}
use Rattle.runs.specs.declared.sheet.Scene.{Scene}
use Rattle.runs.specs.Standing.{TermAt, TermsAt, FormulaAt, FormulasAt}

-- the objects of the bound variables
abbrev pub bound : Sheet → List ℕ
bound s = take s.depth s.objects

-- one variable more is bound, to o, and nothing else is changed
pub record OneMore (a : Scene) (o : ℕ) (b : Scene) : Type 0 where
  pub task : b.sheet.task ≡ a.sheet.task
  pub image : b.image ≡ a.image
  pub depth : b.sheet.depth ≡ a.sheet.depth + 1
  pub objects : b.sheet.objects ≡ slice_set a.sheet.objects a.sheet.depth o

-- one variable less is bound: its slot holds o, and nothing else is changed
pub record OneLess (a : Scene) (o : ℕ) (b : Scene) : Type 0 where
  pub task : b.sheet.task ≡ a.sheet.task
  pub image : b.image ≡ a.image
  pub depth : b.sheet.depth + 1 ≡ a.sheet.depth
  pub objects : b.sheet.objects ≡ slice_set a.sheet.objects b.sheet.depth o

-- a term stands at place i
abbrev pub TermIn : Sheet → ℕ → Term → Type 0
TermIn s i x = TermAt (held s.task.now) s.depth i x

-- the terms of a predicate stand from place i to place j
abbrev pub TermsIn : Sheet → ℕ → ℕ → List Term → ℕ → Type 0
TermsIn s p i ts j = TermsAt (held s.task.now) s.depth p i ts j

-- a formula stands from place i to place j
abbrev pub FormulaIn : Scene → ℕ → Formula → ℕ → Type 0
FormulaIn s i f j = FormulaAt (held s.sheet.task.now) s.sheet.depth i f j

-- so many formulas stand one after the other
abbrev pub FormulasIn : Scene → ℕ → ℕ → List Formula → ℕ → Type 0
FormulasIn s i m fs j = FormulasAt (held s.sheet.task.now) s.sheet.depth i m fs j

-- the value of a formula in a scene
abbrev pub value_in : Scene → Formula → Bool
value_in s f = value (tree_of s.sheet.task.now) (shown s.image.now) (bound s.sheet) f

-- whether all formulas are true, or any
abbrev pub values_in : Scene → Junction → List Formula → Bool
values_in s j fs = values (tree_of s.sheet.task.now) (shown s.image.now) (bound s.sheet) j (formulas_of fs)
