use Rattle.std.proofs.Common.{◌≡◌, Ok, ◌∙◌, rules}
use Rattle.adl.specs.Held.{held, tree_of}
use Rattle.adl_theorems.proofs.WellFormed.{loaded_tasks_are_well_formed}
use Rattle.protocol.specs.Machines.{Judged}
use Rattle.runs.specs.Runs.{goal_by_image}
use Rattle.runs.proofs.Performing.{judges_the_goal}
use Rattle.runs.proofs.run.calls.TaskRunRun.goal.Goals as goal

pub returns : goal.returns
returns g c =
    let m = g.S.Store in
    let task = c.args.self.now.task.now in
    let size = m.extent c.args.store.now in
    let set = m.facts c.args.store.now in
    let by_image : ◌≡◌ {A = Judged} (record { image = c.copy.new.image; answer = Ok c.judge_goal.result }) (goal_by_image (tree_of task) size set c.args.image.now) = search rules in
    by_image ∙ judges_the_goal (tree_of task) (loaded_tasks_are_well_formed (held task) task.formed) size set c.args.image.now
