use Rattle.std.proofs.Common.{◌≡◌, ◌+◌, true, cond, [], get_or}
use Rattle.table.specs.Answers.{is_good}
use Rattle.table.specs.Reading.{many, next_place}
use Rattle.book.specs.Reads.{literal}
use Rattle.book.specs.Views.{table}
use Rattle.protocol.specs.Steps.{put_literals}
use Rattle.book_runs.specs.Standing.{items_in}
use Rattle.book_runs.proofs.literals.put_literals.Given as goal

-- the literals that are left end where all of them end, and puts of them leave what puts of all leave
abbrev pub invariant-loop : goal.invariant-loop
invariant-loop g l =
    let m = g.S.Store in
    let n = m.extent l.initial.store in
    let left = many (literal (table l.table)) l.counter l.next in
    let whole = many (literal (table l.table)) (get_or l.table.entries.operands.now l.at 0) (l.at + 1) in
    record {
      size : m.extent l.store ≡ n;
      stand : is_good left ≡ true;
      end : next_place left ≡ next_place whole;
      set : put_literals n l.adds (cond l.holds (items_in left) []) (m.facts l.store) ≡ put_literals n l.adds (cond l.holds (items_in whole) []) (m.facts l.initial.store);
    }
