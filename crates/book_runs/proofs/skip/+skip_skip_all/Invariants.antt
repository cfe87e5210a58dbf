use Rattle.std.proofs.Common.{◌≡◌, ◌+◌, ◌*◌, true}
use Rattle.table.specs.Answers.{is_good}
use Rattle.table.specs.Reading.{many, next_place}
use Rattle.book.specs.Reads.{ground}
use Rattle.book.specs.Views.{table}
use Rattle.book_runs.proofs.skip.+skip_skip_all.Given as goal

abbrev pub decreases-skip : goal.decreases-skip
decreases-skip l = 2 * l.levels

abbrev pub decreases-skip_all : goal.decreases-skip_all
decreases-skip_all l = 2 * l.levels + 1

-- the formulas that are left end where all of them end
abbrev pub invariant-skip_all-loop : goal.invariant-skip_all-loop
invariant-skip_all-loop l =
    let read = ground (table l.table) l.levels in
    record { stand : is_good (many read l.counter l.next) ≡ true; end : next_place (many read l.counter l.next) ≡ next_place (many read l.count l.at) }
