use Rattle.std.proofs.Common.{arith}
use Rattle.adl.specs.Held.{tree_of as task_in}
use Rattle.worked_tasks.proofs.Answered.{task_answered}
use Rattle.worked_tasks.proofs.answers.answers_of_task.Goals as goal

pub returns : goal.returns
returns c =
    task_answered c.args.case (task_in c.args.task.now) c.requires _ (omega (arith, c.over-store.ensures.size)) _ _ _ _ (omega arith) c.calls.result.now c.calls.ensures _ c.play.new.answers (omega arith)
    c.play.result c.play.ensures.long c.play.ensures.played
