use Rattle.std.proofs.Common.{◌≡◌, ◌+◌, ◌*◌, true}
use Rattle.table.specs.Answers.{is_good}
use Rattle.table.specs.Reading.{many, next_place}
use Rattle.book.specs.Reads.{ground}
use Rattle.book_runs.specs.Scenes.{state_in, table_in}
use Rattle.protocol.specs.Junctions.{joining}
use Rattle.book_runs.specs.Standing.{values_in}
use Rattle.book_runs.proofs.scene.Scene.+judge_judge_group.Given as goal

abbrev pub decreases-judge : goal.decreases-judge
decreases-judge l = 2 * l.levels

abbrev pub decreases-judge_group : goal.decreases-judge_group
decreases-judge_group l = 2 * l.levels + 1

-- the formulas that are left decide as all of them do, and end where all of them end
abbrev pub invariant-judge_group-loop-left : goal.invariant-judge_group-loop-left
invariant-judge_group-loop-left l =
    let read = ground (table_in l.self) l.levels in
    let left = many read l.left l.next in
    let whole = many read l.count l.at in
    record { stand : is_good left ≡ true; decide : values_in (state_in l.self) (joining l.fn.junction) left ≡ values_in (state_in l.self) (joining l.fn.junction) whole; end : next_place left ≡ next_place whole }
