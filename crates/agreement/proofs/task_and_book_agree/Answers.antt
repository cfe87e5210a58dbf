use Rattle.agreement.proofs.Agreement.{task_and_book_agree}
use Rattle.agreement.proofs.task_and_book_agree.Goals as goal

pub returns : goal.returns
returns c = task_and_book_agree
