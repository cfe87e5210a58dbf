use Rattle.std.proofs.Common.{[]}
use Rattle.adl.specs.Held.{tree_of}
use Rattle.model.specs.Settling.{simplify}
use Rattle.runs.specs.Left.{Left}
use Rattle.runs.specs.Settled.{round_of}
use Rattle.runs.proofs.Sheets.{formula_over, holds_over}
use Rattle.runs.proofs.Turns.{goal_stands}
use Rattle.runs.proofs.Writing.{finished}
use Rattle.runs.proofs.action.append_goal.Goals as goal

pub simplify-requires : goal.simplify-requires
simplify-requires c =
    let e = c.of.ensures in
    let k = c.args.task.now in
    (_, _, formula_over c.of.result k [] e.task e.depth e.bound (goal_stands k))

pub returns : goal.returns
returns c =
    let e = c.of.ensures in
    let k = c.args.task.now in
    let left = (c.in_ok-truth.ensures _ _ (formula_over c.of.result k [] e.task e.depth e.bound (goal_stands k))).0 in
    finished c.write_known.result _ _ _ _ _ c.write_known.ensures
    (holds_over c.of.result k [] e.task e.depth e.bound (λ t sheet. Left (simplify t (round_of c.args.verdicts.now) sheet (tree_of k).goal) c.args.out.now.items c.simplify.new.out.items c.in_ok-truth.truth) left)
