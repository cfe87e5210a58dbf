use Rattle.adl_theorems.proofs.Complete.{what_is_written_loads}
use Rattle.adl_theorems.proofs.what_is_written_loads.Goals as goal

pub returns : goal.returns
returns c = what_is_written_loads
