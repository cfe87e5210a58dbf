-- A task with the kinds of formulas and effects that no worked task has: IMPLY, the equality of terms, FORALL over objects, WHEN, and facts that can change.
use Rattle.std.specs.Prelude.{◌≡◌, ℕ, ◌≤◌, Bool, true, false, List, [], ◌∷◌, map, length, Ok, cond, ◌==◌}
use Rattle.fault.specs.declared.Layer.TheVariants.{Run}
use Rattle.fault.specs.Faults.{refusal}
use Rattle.model.specs.Trees.{Task, variable, all, atom, equal, negation, junction, implication, quantifier, none, more, outcome, outcomes, no_outcome, also, change, conjunction, for_each, when, no_effect, and, atoms}
use Rattle.model.specs.Meaning.{State, step, is_fact}
use Rattle.model.specs.Settling as settled
use Rattle.model.specs.Settling.{fact, negated, group, nil, cons}
use Rattle.model.specs.Books as tree
use Rattle.model.specs.Books.{Book, Action, plain}
use Rattle.model.specs.Runs.{Call, begin, goal, perform, end}
use Rattle.model.specs.Trees as trees
use Rattle.model.specs.Worked.{name}
use Rattle.adl.specs.Loads as loading
use Rattle.adl.specs.declared.sizes.Sizes as task
use Rattle.adl_theorems.specs.Theorems as of_tasks
use Rattle.book.specs.Opens as opening
use Rattle.book.specs.declared.sizes.Sizes as book
use Rattle.book_theorems.specs.Theorems as of_books
use Rattle.instantiate.specs.Outcome.{instantiates, book_entries, literals_needed, kinds_of, operands_of}
use Rattle.std.proofs.Math.Option.{some}
use Rattle.book_of_task.specs.Places.{clash_of}
use Rattle.protocol.specs.Machines.{unbegun, answers}
use Rattle.protocol.specs.TaskCalls.{task_machine}
use Rattle.protocol.specs.BookCalls.{book_machine}
use Rattle.protocol.specs.declared.calls.Answer.{Answer}
use Rattle.protocol.specs.declared.calls.Answer.TheVariants.{Done, Told, Count, Refused}
use Rattle.protocol.specs.declared.calls.Call as code
use Rattle.agreement.specs.Agreement.{call_of}
use Rattle.worked.specs.Tables.{Table, task_sizes, book_sizes}

-- Two lamps, objects 0 and 1. Predicate 0: a lamp is lit; predicate 1: there is power. At first lamp 1 is lit, and there is power.
abbrev pub lit : ℕ → trees.Formula
lit v = atom 0 (variable v ∷ [])

abbrev pub power : trees.Formula
power = atom 1 []

-- a change of one lamp, or of the power
abbrev pub changes_lamp : Bool → ℕ → trees.Change
changes_lamp b v = record { adds = b; predicate = 0; terms = variable v ∷ [] }

abbrev pub cuts_power : trees.Change
cuts_power = record { adds = false; predicate = 1; terms = [] }

-- The operator switches a lamp on that is not lit, or any lamp while there is no power; every other lamp that is lit goes out, and cuts the power.
abbrev pub lamps : Task
lamps = record {
  objects = 2;
  types = 3 ∷ [];
  arities = 1 ∷ 0 ∷ [];
  facts = record { predicate = 0; arguments = 1 ∷ [] } ∷ record { predicate = 1; arguments = [] } ∷ [];
  goal = quantifier all 0 (lit 0);
  operators = record {
    parameters = 0 ∷ [];
    precondition = implication power (negation (lit 0));
    effect = conjunction (and (change (changes_lamp true 0))
        (and (for_each 0 (when (junction all (more (negation (equal (variable 0) (variable 1))) (more (lit 1) none)))
        (outcomes (also (outcome (changes_lamp false 1)) (also (outcome cuts_power) no_outcome)))))
        no_effect));
  } ∷ [];
}

abbrev pub lamps_table : Table task.Sizes
lamps_table = record {
  sizes = task_sizes 2 1 2 2 1 34;
  kinds = 14 ∷ 15 ∷ 15 ∷ 2 ∷ 10 ∷ 2 ∷ 8 ∷ 2 ∷ 11 ∷ 16 ∷ 17 ∷ 7 ∷ 2 ∷ 4 ∷ 2 ∷ 11 ∷ 5 ∷ 2 ∷ 11 ∷ 8 ∷ 12 ∷ 5 ∷ 4 ∷ 3 ∷ 11 ∷ 11 ∷ 2 ∷ 11 ∷ 5 ∷ 4 ∷ 2 ∷ 11 ∷ 4 ∷ 2 ∷ [];
  operands = 3 ∷ 1 ∷ 0 ∷ 0 ∷ 1 ∷ 1 ∷ 0 ∷ 0 ∷ 0 ∷ 1 ∷ 0 ∷ 0 ∷ 1 ∷ 0 ∷ 0 ∷ 0 ∷ 2 ∷ 0 ∷ 0 ∷ 0 ∷ 0 ∷ 2 ∷ 0 ∷ 0 ∷ 0 ∷ 1 ∷ 0 ∷ 1 ∷ 2 ∷ 0 ∷ 0 ∷ 1 ∷ 0 ∷ 1 ∷ [];
}

-- its book: facts 0 and 1 are the lamps, fact 2 is the power; one of the lamps is switched on, the other one may go out
abbrev pub switches : ℕ → ℕ → Action
switches x y = record {
  name = name 0 (x ∷ []);
  precondition = group trees.any (cons (negated (fact 2)) (cons (negated (fact x)) nil));
  effect = plain (record { adds = true; atom = x }) ∷ tree.when (fact y) (record { adds = false; atom = y } ∷ record { adds = false; atom = 2 } ∷ []) ∷ [];
}

abbrev pub lamps_book : Book
lamps_book = record {
  atoms = 3;
  relevant = record { atom = 0; starts = false } ∷ record { atom = 1; starts = true } ∷ record { atom = 2; starts = true } ∷ [];
  always = [];
  goal = group all (cons (fact 0) (cons (fact 1) nil));
  actions = switches 0 1 ∷ switches 1 0 ∷ [];
}

abbrev pub lamps_book_table : Table book.Sizes
lamps_book_table = record {
  sizes = book_sizes 3 3 0 2 38;
  kinds = 20 ∷ 19 ∷ 19 ∷ 5 ∷ 13 ∷ 13 ∷ 18 ∷ 10 ∷ 6 ∷ 4 ∷ 13 ∷ 4 ∷ 13 ∷ 5 ∷ 13 ∷ 12 ∷ 13 ∷ 5 ∷ 4 ∷ 13 ∷ 4 ∷ 13 ∷ 18 ∷ 10 ∷ 6 ∷ 4 ∷ 13 ∷ 4 ∷ 13 ∷ 5 ∷ 13 ∷ 12 ∷ 13 ∷ 5 ∷ 4 ∷ 13 ∷ 4 ∷ 13 ∷ [];
  operands = 0 ∷ 1 ∷ 2 ∷ 2 ∷ 0 ∷ 1 ∷ 0 ∷ 0 ∷ 2 ∷ 0 ∷ 2 ∷ 0 ∷ 0 ∷ 2 ∷ 0 ∷ 0 ∷ 1 ∷ 2 ∷ 0 ∷ 1 ∷ 0 ∷ 2 ∷ 0 ∷ 1 ∷ 2 ∷ 0 ∷ 2 ∷ 0 ∷ 1 ∷ 2 ∷ 1 ∷ 0 ∷ 0 ∷ 2 ∷ 0 ∷ 0 ∷ 0 ∷ 2 ∷ [];
}

-- lamp 1 is lit already, and there is power; lamp 0 can be switched on, and then lamp 1 again; the goal is out of reach
abbrev pub story : List Call
story = begin ∷ perform (name 0 (1 ∷ [])) ∷ perform (name 0 (0 ∷ [])) ∷ perform (name 0 (1 ∷ [])) ∷ goal ∷ end ∷ []

abbrev pub told_so : List Answer
told_so = Done ∷ Refused (refusal 24 Run 0) ∷ Done ∷ Done ∷ Told false ∷ Count 2 ∷ []

-- atom 2, the power, is always true, and the lamps can change
abbrev pub power_on : settled.Round
power_on = record { verdict = λ k. cond (k == 2) (settled.always true) settled.unsettled; fact_of = λ k. k }

pub record LampsByExample : Type 0 where
  -- the table loads, and that task stands in it; its book is as written down, opens, and stands in its table
  pub loads : loading.loads lamps_table.sizes lamps_table.kinds lamps_table.operands ≡ Ok tt
  pub stands : loading.task_of (loading.given lamps_table.sizes lamps_table.kinds lamps_table.operands) ≡ lamps
  pub written : of_tasks.WasWritten lamps_table.sizes lamps_table.kinds lamps_table.operands
  pub becomes : tree.book lamps ≡ lamps_book
  pub kinds : kinds_of (book_entries lamps) ≡ lamps_book_table.kinds
  pub operands : operands_of (book_entries lamps) ≡ lamps_book_table.operands
  pub opens : opening.opens lamps_book_table.sizes lamps_book_table.kinds lamps_book_table.operands ≡ Ok tt
  pub book_stands : opening.book_of (opening.given lamps_book_table.sizes lamps_book_table.kinds lamps_book_table.operands) ≡ lamps_book
  pub book_written : of_books.WasWritten lamps_book_table.sizes lamps_book_table.kinds lamps_book_table.operands
  -- it has four different literals on lamps, and one on the power
  pub literals : literals_needed lamps ≡ 5
  pub sizes : instantiates lamps 5 38 38 ≡ Ok lamps_book_table.sizes
  -- lamp 0 is switched on: lamp 1 goes out, and the power with it
  pub on : step lamps (name 0 (0 ∷ [])) (is_fact lamps) 0 ≡ true
  pub out : step lamps (name 0 (0 ∷ [])) (is_fact lamps) 1 ≡ false
  pub cut : step lamps (name 0 (0 ∷ [])) (is_fact lamps) 2 ≡ false
  -- were the power always on, cutting it would clash; that literal begins at 32 in the table, in the second part of what the WHEN brings about
  pub clash : clash_of lamps power_on (name 0 (0 ∷ [])) ≡ some 32
  -- both runs answer alike
  pub in_task : (size : ℕ) (s : State) (im : List ℕ) → 3 ≤ size → 3 ≤ length im
      → (cs : List code.Call) → map call_of cs ≡ story → answers (task_machine lamps size) (unbegun s im) cs ≡ told_so
  pub in_book : (size : ℕ) (s : State) (im : List ℕ) → 3 ≤ size → 3 ≤ length im
      → (cs : List code.Call) → map call_of cs ≡ story → answers (book_machine lamps_book size) (unbegun s im) cs ≡ told_so
