use Rattle.adl.specs.Held.{held}
use Rattle.adl_theorems.proofs.WellFormed.{loaded_tasks_are_well_formed}
use Rattle.adl_theorems.proofs.records_hold_well_formed_tasks.Goals as goal

pub returns : goal.returns
returns c = λ r. loaded_tasks_are_well_formed (held r) r.formed
