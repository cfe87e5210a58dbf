-- Where formulas and their terms stand in a table.
use Rattle.std.specs.Prelude.{◌≡◌, ℕ, ◌+◌, ◌<◌, ◌≤◌, List}
use Rattle.table.specs.Reading.{good, many}
use Rattle.model.specs.Trees.{Term, Formula}
use Rattle.adl.specs.Tables.{Table, Around}
use Rattle.adl.specs.Reads.{term, terms, formula}

-- a term stands at place i, where v variables are known
pub record TermAt (t : Table) (v i : ℕ) (x : Term) : Type 0 where
  pub around : Around
  pub reads : term t around i ≡ good x (i + 1)
  pub known : around.variables ≡ v

-- the terms of a predicate stand from place i to place j
pub record TermsAt (t : Table) (v p i : ℕ) (ts : List Term) (j : ℕ) : Type 0 where
  pub around : Around
  pub reads : terms t around p i ≡ good ts j
  pub known : around.variables ≡ v
  pub predicate : p < t.predicates

-- a formula stands from place i to place j; besides the parameters, of which there are at most four, each variable has its quantifier
pub record FormulaAt (t : Table) (v i : ℕ) (f : Formula) (j : ℕ) : Type 0 where
  pub room : ℕ
  pub around : Around
  pub reads : formula t room around i ≡ good f j
  pub known : around.variables ≡ v
  pub few : v ≤ around.quantifiers + 4

-- so many formulas stand one after the other
pub record FormulasAt (t : Table) (v i m : ℕ) (fs : List Formula) (j : ℕ) : Type 0 where
  pub room : ℕ
  pub around : Around
  pub reads : many (formula t room around) m i ≡ good fs j
  pub known : around.variables ≡ v
  pub few : v ≤ around.quantifiers + 4
