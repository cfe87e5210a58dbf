use Rattle.worked.proofs.FilesOf.{files_come_out}
use Rattle.worked.proofs.worked_files_come_out.Goals as goal

pub returns : goal.returns
returns c = files_come_out
