-- Tasks written out as the entries of a table.
use Rattle.std.specs.Prelude.{◌≡◌, ℕ, suc, ◌<◌, ◌≤◌, max, cond, List, [], ◌∷◌, ◌++◌, map, length}
use Rattle.table.specs.Reading.{Entry, entry}
use Rattle.model.specs.Lists.{below, gather}
use Rattle.model.specs.Forming.{Each}
use Rattle.model.specs.Trees as tree
use Rattle.model.specs.Trees.{Term, object, variable, Junction, all, any, Formula, constant, atom, equal, negation, junction, implication, quantifier, Formulas, none, more, Change, Consequent, outcome, outcomes, Consequents, no_outcome, also, Effect, change, conjunction, for_each, when, Effects, no_effect, and, atoms}
use Rattle.adl.specs.Tables.{Table, entry_at, most_entries, most_quantifiers}
use Rattle.adl.specs.Reads.{most_atoms}

-- OBJECT or VARIABLE
abbrev pub write_term : Term → Entry
write_term (object o) = entry 10 o
write_term (variable v) = entry 11 v

-- how many parts
abbrev pub count_formulas : Formulas → ℕ
count_formulas none = 0
count_formulas (more f fs) = suc (count_formulas fs)

abbrev pub count_consequents : Consequents → ℕ
count_consequents no_outcome = 0
count_consequents (also c cs) = suc (count_consequents cs)

abbrev pub count_effects : Effects → ℕ
count_effects no_effect = 0
count_effects (and e es) = suc (count_effects es)

-- AND or OR
abbrev pub junction_code : Junction → ℕ
junction_code all = 5
junction_code any = 6

-- FORALL or EXISTS
abbrev pub quantifier_code : Junction → ℕ
quantifier_code all = 8
quantifier_code any = 9

-- a formula
abbrev mutual
  pub write_formula : Formula → List Entry
  write_formula (constant b) = entry (cond b 0 1) 0 ∷ []
  write_formula (atom p ts) = entry 2 p ∷ map write_term ts
  write_formula (equal x y) = entry 3 0 ∷ (write_term x ∷ (write_term y ∷ []))
  write_formula (negation f) = entry 4 0 ∷ write_formula f
  write_formula (junction j fs) = entry (junction_code j) (count_formulas fs) ∷ write_formulas fs
  write_formula (implication f g) = entry 7 0 ∷ (write_formula f ++ write_formula g)
  write_formula (quantifier j ty f) = entry (quantifier_code j) ty ∷ write_formula f

  pub write_formulas : Formulas → List Entry
  write_formulas none = []
  write_formulas (more f fs) = write_formula f ++ write_formulas fs

-- an atom that is added, or deleted
abbrev pub write_atom : Change → List Entry
write_atom c = entry 2 c.predicate ∷ map write_term c.terms

abbrev pub write_change : Change → List Entry
write_change c = cond c.adds (write_atom c) (entry 4 0 ∷ write_atom c)

-- what a WHEN brings about
abbrev mutual
  pub write_consequent : Consequent → List Entry
  write_consequent (outcome c) = write_change c
  write_consequent (outcomes cs) = entry 5 (count_consequents cs) ∷ write_consequents cs

  pub write_consequents : Consequents → List Entry
  write_consequents no_outcome = []
  write_consequents (also c cs) = write_consequent c ++ write_consequents cs

-- an effect
abbrev mutual
  pub write_effect : Effect → List Entry
  write_effect (change c) = write_change c
  write_effect (conjunction es) = entry 5 (count_effects es) ∷ write_effects es
  write_effect (for_each ty e) = entry 8 ty ∷ write_effect e
  write_effect (when f c) = entry 12 0 ∷ (write_formula f ++ write_consequent c)

  pub write_effects : Effects → List Entry
  write_effects no_effect = []
  write_effects (and e es) = write_effect e ++ write_effects es

-- a fact
abbrev pub write_fact : tree.Fact → List Entry
write_fact f = entry 2 f.predicate ∷ map (entry 10) f.arguments

-- an operator
abbrev pub write_operator : tree.Operator → List Entry
write_operator o = entry 16 (length o.parameters) ∷ (map (entry 17) o.parameters ++ (write_formula o.precondition ++ write_effect o.effect))

-- a task
unfoldable pub write_task : tree.Task → List Entry
write_task t =
    map (entry 14) t.types
    ++ (map (entry 15) t.arities
    ++ (gather write_fact t.facts
    ++ (write_formula t.goal
    ++ gather write_operator t.operators)))

-- the entries of a table, first to last
abbrev pub entries_of : Table → List Entry
entries_of t = map (entry_at t) (below t.entries)

-- the table is the task written out
pub record Writes (x : tree.Task) (t : Table) : Type 0 where
  pub objects : t.objects ≡ x.objects
  pub types : t.types ≡ length x.types
  pub predicates : t.predicates ≡ length x.arities
  pub facts : t.facts ≡ length x.facts
  pub operators : t.operators ≡ length x.operators
  pub entries : entries_of t ≡ write_task x

-- how many quantifiers stand inside one another
abbrev mutual
  pub nesting : Formula → ℕ
  nesting (constant b) = 0
  nesting (atom p ts) = 0
  nesting (equal x y) = 0
  nesting (negation f) = nesting f
  nesting (junction j fs) = nesting_all fs
  nesting (implication f g) = max (nesting f) (nesting g)
  nesting (quantifier j ty f) = suc (nesting f)

  pub nesting_all : Formulas → ℕ
  nesting_all none = 0
  nesting_all (more f fs) = max (nesting f) (nesting_all fs)

abbrev mutual
  pub effect_nesting : Effect → ℕ
  effect_nesting (change c) = 0
  effect_nesting (conjunction es) = effects_nesting es
  effect_nesting (for_each ty e) = suc (effect_nesting e)
  effect_nesting (when f c) = nesting f

  pub effects_nesting : Effects → ℕ
  effects_nesting no_effect = 0
  effects_nesting (and e es) = max (effect_nesting e) (effects_nesting es)

-- a formula, or an effect, is short enough, and its quantifiers are not nested too deep
abbrev pub SmallFormula : Formula → Type 0
SmallFormula f = (length (write_formula f) ≤ most_entries) × (nesting f ≤ most_quantifiers)

abbrev pub SmallEffect : Effect → Type 0
SmallEffect e = (length (write_effect e) ≤ most_entries) × (effect_nesting e ≤ most_quantifiers)

-- an operator has few parameters, and a small precondition and effect
pub record SmallOperator (o : tree.Operator) : Type 0 where
  pub parameters : length o.parameters ≤ 4
  pub precondition : SmallFormula o.precondition
  pub effect : SmallEffect o.effect

-- a task is within the limits of a table
pub record WithinLimits (x : tree.Task) : Type 0 where
  pub some_object : 0 < x.objects
  pub objects : x.objects ≤ 32
  pub types : length x.types ≤ 32
  pub predicates : length x.arities ≤ 32
  pub facts : length x.facts ≤ 4096
  pub operators : length x.operators ≤ 32
  pub entries : length (write_task x) ≤ 16384
  pub arities : Each (λ a. a ≤ 3) x.arities
  pub few_atoms : atoms x ≤ most_atoms
  pub goal : SmallFormula x.goal
  pub each_operator : Each SmallOperator x.operators
