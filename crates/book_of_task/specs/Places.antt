-- Where the literals of effects stand in the table that a task is written out in.
use Rattle.std.specs.Prelude.{ℕ, ◌+◌, cond, List, [], ◌∷◌, ◌++◌, length, take}
use Rattle.std.proofs.Math.Option.{Option, some, none}
use Rattle.model.specs.Lists.{gather}
use Rattle.model.specs.Trees.{Consequent, outcome, outcomes, Consequents, no_outcome, also, Effect, change, conjunction, for_each, when, Effects, no_effect, and, Task, Name, members}
use Rattle.model.specs.Meaning.{Literal, Part, operator_of, precondition_of, effect_of}
use Rattle.model.specs.Settling.{Round, possible, names, round_two}
use Rattle.adl_theorems.specs.Writes.{write_formula, write_consequent, write_effect, write_fact, write_operator}
use Rattle.book_of_task.specs.Clashes.{clashes}

-- where each literal of a consequent begins, which stands from place i on
abbrev mutual
  pub outcome_places : ℕ → Consequent → List ℕ
  outcome_places i (outcome c) = i ∷ []
  outcome_places i (outcomes cs) = all_outcome_places (i + 1) cs

  pub all_outcome_places : ℕ → Consequents → List ℕ
  all_outcome_places i no_outcome = []
  all_outcome_places i (also c cs) = outcome_places i c ++ all_outcome_places (i + length (write_consequent c)) cs

-- the same of each part of an effect, in the order of the parts
abbrev mutual
  pub part_places : Task → ℕ → Effect → List (List ℕ)
  part_places t i (change c) = (i ∷ []) ∷ []
  part_places t i (conjunction es) = all_part_places t (i + 1) es
  part_places t i (for_each ty e) = gather (λ o. part_places t (i + 1) e) (members t ty)
  part_places t i (when f c) = outcome_places (i + 1 + length (write_formula f)) c ∷ []

  pub all_part_places : Task → ℕ → Effects → List (List ℕ)
  all_part_places t i no_effect = []
  all_part_places t i (and e es) = part_places t i e ++ all_part_places t (i + length (write_effect e)) es

-- where the operators begin, and where the effect of operator i does
abbrev pub operators_place : Task → ℕ
operators_place t = length t.types + length t.arities + length (gather write_fact t.facts) + length (write_formula t.goal)

abbrev pub effect_place : Task → ℕ → ℕ
effect_place t i =
    let a = operator_of t i in
    operators_place t + length (gather write_operator (take i t.operators)) + 1 + length a.parameters + length (write_formula a.precondition)

-- the first of some things
abbrev pub or_else : Option ℕ → Option ℕ → Option ℕ
or_else none y = y
or_else (some x) y = some x

-- where the first literal begins that the verdicts of a round forbid: of some literals, of the parts of an effect, of the actions of some names
abbrev pub clash_in : Round → List Literal → List ℕ → Option ℕ
clash_in r [] is = none
clash_in r (l ∷ ls) [] = none
clash_in r (l ∷ ls) (i ∷ is) = cond (clashes r l) (some i) (clash_in r ls is)

abbrev pub clash_in_parts : Task → Round → List Part → List (List ℕ) → Option ℕ
clash_in_parts t r [] iss = none
clash_in_parts t r (p ∷ ps) [] = none
clash_in_parts t r (p ∷ ps) (is ∷ iss) =
    or_else (cond (possible t r p.sheet p.condition) (clash_in r p.literals is) none) (clash_in_parts t r ps iss)

abbrev pub clash_of : Task → Round → Name → Option ℕ
clash_of t r m =
    cond (possible t r m.objects (precondition_of t m))
    (clash_in_parts t r (effect_of t m) (part_places t (effect_place t m.operator) (operator_of t m.operator).effect))
    none

abbrev pub clash_among : Task → Round → List Name → Option ℕ
clash_among t r [] = none
clash_among t r (m ∷ ms) = or_else (clash_of t r m) (clash_among t r ms)

-- where the first literal of an action of the book begins that adds an atom that is always false, or deletes one that is always true;
-- no task that loads has one (`NoLiteralClashes`)
unfoldable pub first_clash : Task → Option ℕ
first_clash t = clash_among t (round_two t) (names t)
