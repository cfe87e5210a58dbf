use Rattle.std.proofs.Common.{[], ◌∙◌}
use Rattle.adl.specs.Held.{tree_of}
use Rattle.protocol.specs.Shown.{shown}
use Rattle.runs.proofs.Sheets.{formula_over, value_over}
use Rattle.runs.proofs.Turns.{goal_stands}
use Rattle.runs.proofs.goal.judge_goal.Goals as goal

pub judge-value-requires : goal.judge-value-requires
judge-value-requires c =
    let e = c.of-sheet.ensures in
    let k = c.args.task.now in
    (_, _, formula_over c.of-sheet.result k [] e.task e.depth e.bound (goal_stands k))

pub returns : goal.returns
returns c =
    let e = c.of-sheet.ensures in
    let k = c.args.task.now in
    (c.judge-value.ensures.value _ _ (formula_over c.of-sheet.result k [] e.task e.depth e.bound (goal_stands k))).0 ∙ value_over c.of-sheet.result k [] e.task e.depth e.bound (shown c.args.image.now) (tree_of k).goal
