use Rattle.worked.proofs.Cases.{come_out}
use Rattle.worked.proofs.worked_tasks_come_out.Goals as goal

pub returns : goal.returns
returns c = come_out
