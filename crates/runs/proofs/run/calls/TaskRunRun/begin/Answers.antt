use Rattle.std.proofs.Common.{◌≡◌, Ok, ◌∙◌, rules}
use Rattle.adl.specs.Held.{held, tree_of}
use Rattle.adl_theorems.proofs.WellFormed.{loaded_tasks_are_well_formed}
use Rattle.protocol.specs.Machines.{Begun}
use Rattle.runs.specs.Runs.{begin_by_puts}
use Rattle.runs.proofs.Beginning.{begins_with_the_facts}
use Rattle.runs.proofs.run.calls.TaskRunRun.begin.Goals as goal

pub returns-clause-begun : goal.returns-clause-begun
returns-clause-begun g c =
    let m = g.S.Store in
    let task = c.args.task.now in
    let size = m.extent c.args.store.now in
    let set = m.facts c.args.store.now in
    let by_puts : ◌≡◌ {A = Begun} (record { set = m.facts c.put_facts.new.store; answer = Ok 0 }) (begin_by_puts (tree_of task) size set) = search rules in
    by_puts ∙ begins_with_the_facts (tree_of task) (loaded_tasks_are_well_formed (held task) task.formed) size set
