use Rattle.std.proofs.Common.{◌≡◌, ℕ, ◌-◌, true}
use Rattle.table.specs.Answers.{is_good}
use Rattle.table.specs.Reading.{next_place}
use Rattle.book.specs.Reads.{objects}
use Rattle.book.specs.Views.{table}
use Rattle.book_runs.proofs.names.after_objects.Given as goal

-- the objects that are left, however many may come, end where all of them end
abbrev pub invariant-loop-next : goal.invariant-loop-next
invariant-loop-next l =
    (room : ℕ) × (is_good (objects (table l.table) room l.next) ≡ true) × (next_place (objects (table l.table) room l.next) ≡ next_place (objects (table l.table) 4 l.at))

abbrev pub decreases-loop-next : goal.decreases-loop-next
decreases-loop-next l = l.table.sizes.entries - l.next
