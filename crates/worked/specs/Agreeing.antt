-- The agreement of both runs, on the worked tasks: what it rests on holds of each of them.
use Rattle.std.specs.Prelude.{◌≡◌, ℕ, List, map}
use Rattle.model.specs.Forming.{WellFormed}
use Rattle.model.specs.Meaning.{State}
use Rattle.protocol.specs.declared.calls.Call as code
use Rattle.agreement.specs.Agreement.{call_of, BeginsFirst, EachCallAgrees, Room}
use Rattle.worked.specs.declared.case.Case.{Case}
use Rattle.worked.specs.Calls.{calls}
use Rattle.worked.specs.ComingOut.{the_task}

pub record IsAgreedOn (c : Case) : Type 0 where
  pub well_formed : WellFormed (the_task c)
  -- its calls begin first
  pub in_order : (cs : List code.Call) → map call_of cs ≡ calls c → BeginsFirst cs
  -- over any stores and images that are large enough, each of them agrees
  pub agrees : (size size' : ℕ) (s f : State) (im im' : List ℕ) → Room (the_task c) size size' im im'
      → (cs : List code.Call) → map call_of cs ≡ calls c → EachCallAgrees (the_task c) size size' s f im im' cs

abbrev pub WorkedTasksAreAgreedOn : Type 0
WorkedTasksAreAgreedOn = (c : Case) → IsAgreedOn c
