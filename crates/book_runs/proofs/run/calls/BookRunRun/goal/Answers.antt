use Rattle.std.proofs.Common.{◌≡◌, Ok, ◌∙◌, rules}
use Rattle.book.specs.Held.{tree_of}
use Rattle.protocol.specs.Machines.{Judged}
use Rattle.book_runs.specs.Runs.{goal_by_image}
use Rattle.book_runs.proofs.Opened.{well_formed}
use Rattle.book_runs.proofs.Performing.{judges_the_goal}
use Rattle.book_runs.proofs.run.calls.BookRunRun.goal.Goals as goal

pub returns : goal.returns
returns g c =
    let m = g.S.Store in
    let book = c.args.self.now.book.now in
    let size = m.extent c.args.store.now in
    let set = m.facts c.args.store.now in
    let by_image : ◌≡◌ {A = Judged} (record { image = c.copy.new.image; answer = Ok c.judge_goal.result }) (goal_by_image (tree_of book) size set c.args.image.now) = search rules in
    by_image ∙ judges_the_goal _ _ (tree_of book) (well_formed book) size set c.args.image.now
