use Rattle.adl_theorems.proofs.Sound.{what_loads_was_written}
use Rattle.adl_theorems.proofs.what_loads_was_written.Goals as goal

pub returns : goal.returns
returns c = what_loads_was_written
