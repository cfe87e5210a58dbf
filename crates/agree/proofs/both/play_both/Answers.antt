use Rattle.adl.specs.Held.{held, tree_of as task_of}
use Rattle.book.specs.Held.{tree_of as book_of}
use Rattle.adl_theorems.proofs.WellFormed.{loaded_tasks_are_well_formed}
use Rattle.agree.proofs.Joining.{agreed}
use Rattle.agree.proofs.both.play_both.Goals as goal

pub returns-clause-agree : goal.returns-clause-agree
returns-clause-agree g c made room order =
    let t = c.args.task.now in
    let s = g.S.Store in
    let r = g.R.Store in
    agreed (task_of t) (book_of c.args.book.now)
    (s.extent c.args.task_store.now) (r.extent c.args.book_store.now)
    (s.facts c.args.task_store.now) (r.facts c.args.book_store.now)
    c.args.task_image.now c.args.book_image.now c.args.calls.now
    c.play.new.answers c.play-2.new.answers
    (loaded_tasks_are_well_formed (held t) t.formed) made room order
    c.in_ok-play.ensures.played.answered c.in_ok-play-2.ensures.played.answered
