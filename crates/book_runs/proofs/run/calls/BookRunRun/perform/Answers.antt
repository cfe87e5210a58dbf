use Rattle.std.proofs.Common.{Err, ap, ◌∙◌, arith}
use Rattle.fault.specs.declared.Fault.{Fault}
use Rattle.book.specs.Held.{tree_of}
use Rattle.protocol.specs.Names.{name_of}
use Rattle.book_runs.proofs.Filling.{step_taken, step_refused}
use Rattle.book_runs.proofs.Opened.{well_formed}
use Rattle.book_runs.proofs.Performing.{takes_the_step}
use Rattle.book_runs.proofs.run.calls.BookRunRun.perform.Goals as goal

pub returns-then-not-perform_action-clause-performed : goal.returns-then-not-perform_action-clause-performed
returns-then-not-perform_action-clause-performed g c =
    let m = g.S.Store in
    let book = c.args.self.now.book.now in
    let size = m.extent c.args.store.now in
    let steps = c.args.self.now.steps in
    let set = m.facts c.args.store.now in
    let e = c.in_ok-copy.ensures in
    let p = c.if-not-perform_action.ensures in
    ap (λ (f : Fault). record { steps = steps; set = m.facts c.perform_action.new.store; image = c.copy.new.image; answer = Err f }) c.new-then-not-perform_action.ensures
    ∙ step_refused (tree_of book) size steps c.facts.result set (m.facts c.perform_action.new.store) c.args.image.now c.copy.new.image (name_of c.args.name)
    (omega arith) c.facts.ensures e.answer e.image p.judged p.set
    ∙ takes_the_step _ _ (tree_of book) (well_formed book) size steps set c.args.image.now (name_of c.args.name)

pub returns-clause-performed : goal.returns-clause-performed
returns-clause-performed g c =
    let m = g.S.Store in
    let book = c.args.self.now.book.now in
    let size = m.extent c.args.store.now in
    let steps = c.args.self.now.steps in
    let set = m.facts c.args.store.now in
    let e = c.in_ok-copy.ensures in
    let p = c.if-not-perform_action.ensures in
    step_taken (tree_of book) size steps c.facts.result set (m.facts c.perform_action.new.store) c.args.image.now c.copy.new.image (name_of c.args.name)
    (omega arith) c.facts.ensures e.answer e.image p.judged p.set
    ∙ takes_the_step _ _ (tree_of book) (well_formed book) size steps set c.args.image.now (name_of c.args.name)
