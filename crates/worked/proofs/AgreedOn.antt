-- The agreement of both runs, on the worked tasks.
use Rattle.std.proofs.Common.{◌≡◌, true, false, refl, ap, ◌∙◌}
use Rattle.model.specs.Theorems.{in_order}
use Rattle.adl.specs.Loads.{accepted, given}
use Rattle.adl.specs.Reads.{task, formula, effect, consequent}
use Rattle.model.specs.Lists.{below}
use Rattle.adl_theorems.proofs.WellFormed.{loaded_tasks_are_well_formed}
use Rattle.agreement.proofs.Agreement.{task_and_book_agree}
use Rattle.worked.specs.Agreeing.{IsAgreedOn, WorkedTasksAreAgreedOn}
use Rattle.worked.specs.Calls.{calls}
use Rattle.worked.specs.Tables.{task_table}
use Rattle.worked.specs.declared.case.Case.{Case}
use Rattle.worked.specs.declared.case.Case.TheVariants.{CellPainted, GoalTrue, ForallOfNone, ExistsOfNone, OrOfNothing, AndOfNothing, NotOfNot, ObjectTwice, DeletedAndAdded}

-- what is left to compute
agreed_on : (c : Case) → accepted (given (task_table c).sizes (task_table c).kinds (task_table c).operands) ≡ true → in_order false (calls c) ≡ true → IsAgreedOn c
agreed_on c loads ordered =
    let formed = loaded_tasks_are_well_formed (given (task_table c).sizes (task_table c).kinds (task_table c).operands) loads in
    record {
      well_formed = formed;
      in_order = λ cs same. ap (in_order false) same ∙ ordered;
      agrees = λ size size' s f im im' room cs same. task_and_book_agree _ formed size size' s f im im' room cs (ap (in_order false) same ∙ ordered);
    }

pub are_agreed_on : WorkedTasksAreAgreedOn
unfolding task formula effect consequent below
are_agreed_on CellPainted = agreed_on CellPainted refl refl
are_agreed_on GoalTrue = agreed_on GoalTrue refl refl
are_agreed_on ForallOfNone = agreed_on ForallOfNone refl refl
are_agreed_on ExistsOfNone = agreed_on ExistsOfNone refl refl
are_agreed_on OrOfNothing = agreed_on OrOfNothing refl refl
are_agreed_on AndOfNothing = agreed_on AndOfNothing refl refl
are_agreed_on NotOfNot = agreed_on NotOfNot refl refl
are_agreed_on ObjectTwice = agreed_on ObjectTwice refl refl
are_agreed_on DeletedAndAdded = agreed_on DeletedAndAdded refl refl
