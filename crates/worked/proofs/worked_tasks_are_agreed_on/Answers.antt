use Rattle.worked.proofs.AgreedOn.{are_agreed_on}
use Rattle.worked.proofs.worked_tasks_are_agreed_on.Goals as goal

pub returns : goal.returns
returns c = are_agreed_on
