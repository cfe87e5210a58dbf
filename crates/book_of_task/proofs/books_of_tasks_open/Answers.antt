use Rattle.book_of_task.proofs.Opening.{books_of_tasks_open}
use Rattle.book_of_task.proofs.books_of_tasks_open.Goals as goal

pub returns : goal.returns
returns c = books_of_tasks_open
