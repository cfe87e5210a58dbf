use Rattle.std.proofs.Common.{ap, ◌∙◌}
use Rattle.table.specs.Reading.{Out}
use Rattle.model.specs.Settling.{Ground}
use Rattle.protocol.specs.Shown.{shown}
use Rattle.book_runs.specs.Standing.{value_in}
use Rattle.book_runs.proofs.Opened.{parts, goal_stands}
use Rattle.book_runs.proofs.goal.judge_goal.Goals as goal

pub judge-value-requires : goal.judge-value-requires
judge-value-requires c = goal_stands c.args.book.now

pub returns : goal.returns
returns c = c.judge-value.ensures.value ∙ ap (λ (o : Out Ground). value_in (shown c.args.image.now) o) (parts c.args.book.now).goal
