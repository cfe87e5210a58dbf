use Rattle.files.proofs.ReadBack.{written_is_read_back}
use Rattle.files.proofs.theorems.what_is_written_is_read_back.Goals as goal

pub returns : goal.returns
returns c = written_is_read_back
