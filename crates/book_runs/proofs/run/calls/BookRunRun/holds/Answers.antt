use Rattle.std.proofs.Common.{◌∙◌, arith}
use Rattle.book.specs.Held.{tree_of}
use Rattle.book_runs.proofs.Finding.{told_by_fact}
use Rattle.book_runs.proofs.run.calls.BookRunRun.holds.Goals as goal

pub returns-in-Some : goal.returns-in-Some
returns-in-Some g c =
    let M = g.S.Store in
    let b = c.args.self.now.book.now in
    c.has.ensures
    ∙ told_by_fact (tree_of b) (M.extent c.args.store.now) (M.facts c.args.store.now) c.args.atom
    (omega (arith, c.in_ok-has_places.ensures.room, c.facts.ensures))
    (omega (arith, c.if-atom-atoms.false, c.atoms.ensures))
    c.in-Some.fact c.in-Some.ensures
