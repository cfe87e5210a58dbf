use Rattle.book_of_task.proofs.Becoming.{what_atoms_become}
use Rattle.book_of_task.proofs.simplifying_rests_on_what_atoms_become.Goals as goal

pub returns : goal.returns
returns c = what_atoms_become
