use Rattle.adl_theorems.proofs.Sound.{records_within_limits}
use Rattle.adl_theorems.proofs.records_hold_tasks_within_limits.Goals as goal

pub returns : goal.returns
returns c = records_within_limits
