use Rattle.std.proofs.Common.{◌≡◌, ◌-◌, []}
use Rattle.table.specs.Reading.{series}
use Rattle.book.specs.Reads.{action, after_action}
use Rattle.book.specs.Views.{table, answer}
use Rattle.book.proofs.names.check_actions.Given as goal

-- the actions that are left, after the last name, answer as all actions do
abbrev pub invariant-loop : goal.invariant-loop
invariant-loop l =
    answer (series (action (table l.table)) after_action (l.table.sizes.actions - l.counter) l.before l.at)
    ≡ answer (series (action (table l.table)) after_action l.table.sizes.actions [] l.from)
