use Rattle.std.proofs.Common.{◌≡◌, true, sym, arith, rules}
use Rattle.adl.specs.Held.{held, tree_of}
use Rattle.adl_theorems.proofs.WellFormed.{loaded_tasks_are_well_formed}
use Rattle.protocol.specs.Names.{name_of}
use Rattle.model.specs.Meaning.{value, fits, precondition_of, effect_of, literals_where}
use Rattle.protocol.specs.Shown.{shown}
use Rattle.protocol.specs.Steps.{put_step}
use Rattle.runs.proofs.Performing.{is_the_step}
use Rattle.runs.proofs.Turns.{holds_of_name, step_taken}
use Rattle.runs.proofs.run.calls.TaskRunRun.perform.Goals as goal

pub returns-then-not-perform-clause-performed : goal.returns-then-not-perform-clause-performed
returns-then-not-perform-clause-performed g c =
    let m = g.S.Store in
    let task = c.args.self.now.task.now in
    is_the_step (tree_of task) (loaded_tasks_are_well_formed (held task) task.formed) (m.extent c.args.store.now) c.args.self.now.steps (m.facts c.args.store.now) c.args.image.now (name_of c.args.name) (search rules)

pub returns-clause-performed : goal.returns-clause-performed
returns-clause-performed g c =
    let m = g.S.Store in
    let f = c.in-Some.fitting in
    let task = c.args.self.now.task.now in
    let size = m.extent c.args.store.now in
    let steps = c.args.self.now.steps in
    let set = m.facts c.args.store.now in
    let seen = shown c.copy.new.image in
    let of_name = holds_of_name f c.args.self.now.task c.args.name c.in-Some.ensures in
    is_the_step (tree_of task) (loaded_tasks_are_well_formed (held task) task.formed) size steps set c.args.image.now (name_of c.args.name)
    (step_taken (tree_of task) size steps task.atoms set (m.facts c.perform.new.store) c.args.image.now c.copy.new.image (name_of c.args.name)
    (omega arith) task.counted c.in_ok-room_for.ensures (of_name (λ t n. true ≡ fits t n) (sym f.fits)) c.copy.ensures.image
    (of_name (λ t n. true ≡ value t seen n.objects (precondition_of t n)) c.if-not-perform.ensures.judged)
    (of_name (λ t n. m.facts c.perform.new.store ≡ put_step size (literals_where (value t seen) (effect_of t n)) set) c.if-not-perform.ensures.set))
