use Rattle.std.proofs.Common.{arith}
use Rattle.book.specs.Held.{tree_of as book_in}
use Rattle.worked_tasks.proofs.Answered.{book_answered}
use Rattle.worked_tasks.proofs.answers.answers_of_book.Goals as goal

pub returns : goal.returns
returns c =
    book_answered c.args.case (book_in c.args.book.now) c.requires _ (omega (arith, c.over-store.ensures.size)) _ _ _ _ (omega arith) c.calls.result.now c.calls.ensures _ c.play.new.answers (omega arith)
    c.play.result c.play.ensures.long c.play.ensures.played
