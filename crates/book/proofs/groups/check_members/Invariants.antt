use Rattle.std.proofs.Common.{◌≡◌, ℕ, ◌-◌, ◌≤◌}
use Rattle.table.specs.Reading.{series}
use Rattle.model.specs.Lists.{has}
use Rattle.book.specs.Groups.{member, after_member}
use Rattle.book.specs.Views.{table, answer}
use Rattle.book.proofs.groups.check_members.Given as goal

-- the atoms that are left, read from here, answer as all atoms do; the others that are gone are below
abbrev pub invariant-loop : goal.invariant-loop
invariant-loop l = record {
  answers :
      answer (series (member (table l.table) l.place l.fn.others.atoms.now) after_member (l.count - l.counter) l.low l.at)
      ≡ answer (series (member (table l.table) l.place l.fn.others.atoms.now) after_member l.count 0 l.from);
  kept : (x : ℕ) → l.low ≤ x → has x l.others.atoms.now ≡ has x l.fn.others.atoms.now;
}
