use Rattle.std.proofs.Common.{◌≡◌, Ok, ◌∙◌, rules}
use Rattle.book.specs.Held.{tree_of}
use Rattle.protocol.specs.Machines.{Begun}
use Rattle.book_runs.specs.Runs.{begin_by_puts}
use Rattle.book_runs.proofs.Beginning.{begins_with_the_starts}
use Rattle.book_runs.proofs.run.calls.BookRunRun.begin.Goals as goal

pub returns-clause-begun : goal.returns-clause-begun
returns-clause-begun g c =
    let m = g.S.Store in
    let book = tree_of c.args.book.now in
    let size = m.extent c.args.store.now in
    let set = m.facts c.args.store.now in
    let by_puts : ◌≡◌ {A = Begun} (record { set = m.facts c.put_starts.new.store; answer = Ok 0 }) (begin_by_puts book size set) = search rules in
    by_puts ∙ begins_with_the_starts book size set
