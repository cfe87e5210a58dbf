use Rattle.files.proofs.ReadBack.{read_is_written_again}
use Rattle.files.proofs.theorems.what_is_read_is_written_again.Goals as goal

pub returns : goal.returns
returns c = read_is_written_again
