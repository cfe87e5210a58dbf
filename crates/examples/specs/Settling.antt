-- What is settled of atoms, what is made of formulas and effects by it, and literals that clash with it.
use Rattle.std.specs.Prelude.{◌≡◌, ℕ, Bool, true, false, List, [], ◌∷◌, ◌==◌, cond}
use Rattle.std.proofs.Math.Option.{some, none}
use Rattle.table.specs.Reading.{entry}
use Rattle.table.specs.declared.kind.Kind.TheVariants.{And}
use Rattle.model.specs.Trees.{Task}
use Rattle.model.specs.Meaning.{Literal, fits}
use Rattle.model.specs.Settling.{always, unsettled, Round, is, simplify, choices, inertia, reach, round_two}
use Rattle.model.specs.Books.{action}
use Rattle.model.specs.Worked.{name}
use Rattle.rising.specs.declared.literal.Sign.TheVariants.{Adds}
use Rattle.book_theorems.specs.Writes.{write_action, write_ground}
use Rattle.book_of_task.specs.Becoming.{SameBecoming, Alike}
use Rattle.book_of_task.specs.Clashes.{clashes, some_clashes, NoneClashes}
use Rattle.book_of_task.specs.Places.{clash_of}
use Rattle.runs.specs.Chosen.{chosen, Unused}
use Rattle.runs.specs.Clauses.{Explains, Appends}
use Rattle.runs.specs.Settled.{round_of}
use Rattle.runs.specs.declared.draft.Draft.{Draft}
use Rattle.runs.specs.declared.draft.Stop.TheVariants.{NoMemory, Clash}
use Rattle.runs.specs.declared.verdict.Verdict.{Verdict}
use Rattle.runs.specs.declared.verdict.Verdict.TheVariants.{Always, Fact}
use Rattle.worked.specs.declared.case.Case.TheVariants.{CellPainted, ObjectTwice}
use Rattle.worked.specs.ComingOut.{the_task}

-- two cells: atoms 0 and 1 tell that they are painted, 2 and 3 that they are primed
abbrev pub cells : Task
cells = the_task CellPainted

-- atom 0 can change, and of the others atom 2 alone is true; the facts that atoms become are given
abbrev pub first_open : (ℕ → ℕ) → Round
first_open facts = record { verdict = λ k. cond (k == 0) unsettled (always (k == 2)); fact_of = facts }

-- no atom can change, and atom 2 alone is true
abbrev pub all_settled : Round
all_settled = record { verdict = λ k. always (k == 2); fact_of = λ k. k }

-- the same as the code has it: atom 0 becomes fact 0
abbrev pub verdicts : List Verdict
verdicts = Fact 0 ∷ Always false ∷ Always true ∷ []

-- an atom is added, or deleted
abbrev pub on : Bool → ℕ → Literal
on b k = record { adds = b; atom = k }

pub record ClashesByExample : Type 0 where
  -- the facts of settled atoms do not matter, those of others do
  pub same : SameBecoming (first_open (λ k. k)) (first_open (λ k. 0))
  pub differ : SameBecoming (first_open (λ k. k)) (first_open (λ k. 1)) → ⊥
  pub alike : Alike cells (first_open (λ k. k)) (first_open (λ k. 0))
  -- adding an atom that is always false clashes, and so does deleting one that is always true; on an open atom nothing does
  pub adds_false : clashes all_settled (on true 0) ≡ true
  pub deletes_true : clashes all_settled (on false 2) ≡ true
  pub adds_true : clashes all_settled (on true 2) ≡ false
  pub open_atom : some_clashes (first_open (λ k. k)) (on true 0 ∷ on false 0 ∷ []) ≡ false
  pub one_of_two : some_clashes (first_open (λ k. k)) (on true 0 ∷ on true 1 ∷ []) ≡ true
  -- painting cell 0 where no atom can change: the literal stands at 16
  pub place : clash_of cells all_settled (name 0 (0 ∷ [])) ≡ some 16
  pub no_place : clash_of cells (round_two cells) (name 0 (0 ∷ [])) ≡ none
  pub explains : Explains (some 16) (Clash 16)
  pub explains_not : Explains none (Clash 16) → ⊥
  pub memory : Explains none NoMemory
  -- its name fits; it brings about one literal in the round that the book is made by, and none that clashes; that of both cells does not fit
  pub name_fits : fits cells (name 0 (0 ∷ [])) ≡ true
  pub name_fits_not : fits cells (name 0 (0 ∷ 1 ∷ [])) ≡ false
  pub none_clashes : NoneClashes cells (name 0 (0 ∷ []))
  pub brings_about : reach cells (round_two cells) (name 0 (0 ∷ [])) ≡ on true 0 ∷ []

pub record WritingByExample : Type 0 where
  -- the round that verdicts tell; what is no atom is always false
  pub open_verdict : (round_of verdicts).verdict 0 ≡ unsettled
  pub true_verdict : (round_of verdicts).verdict 2 ≡ always true
  pub no_verdict : (round_of verdicts).verdict 9 ≡ always false
  -- the action of cell 0 by these verdicts, and that there is none of cell 1; the goal
  pub written : write_action (action cells (round_of verdicts) (name 0 (0 ∷ []))) ≡ entry 18 0 ∷ entry 10 0 ∷ entry 4 0 ∷ entry 13 0 ∷ entry 5 1 ∷ entry 13 0 ∷ []
  pub left_out : is false (action cells (round_of verdicts) (name 0 (1 ∷ []))).precondition ≡ true
  pub goal_written : write_ground (simplify cells (round_of verdicts) [] cells.goal) ≡ entry 13 0 ∷ []
  -- one entry and one literal were appended to a draft, and not none
  pub appended : (before after : Draft) → before.entries.items ≡ [] → before.literals.items ≡ []
      → after.entries.items ≡ record { kind = And; operand = 0 } ∷ [] → after.literals.items ≡ record { atom = 3; sign = Adds } ∷ []
      → Appends (entry 5 0 ∷ []) (on true 3 ∷ []) before after
  pub appended_not : (before after : Draft) → before.entries.items ≡ [] → after.entries.items ≡ record { kind = And; operand = 0 } ∷ [] → Appends [] [] before after → ⊥
  -- of two objects, an operator with two parameters has two lists; in four places the rest holds 0
  pub lists : choices (the_task ObjectTwice) 0 ≡ (0 ∷ 1 ∷ []) ∷ (1 ∷ 0 ∷ []) ∷ []
  pub first_two : chosen 2 (0 ∷ 1 ∷ 0 ∷ 0 ∷ []) ≡ 0 ∷ 1 ∷ []
  pub unused : Unused 2 (0 ∷ 1 ∷ 0 ∷ 0 ∷ [])
  pub used : Unused 2 (0 ∷ 1 ∷ 5 ∷ 0 ∷ []) → ⊥
  -- some operator paints, none primes
  pub touched : inertia cells true 0 ≡ false
  pub untouched : inertia cells true 1 ≡ true
