use Rattle.std.proofs.Common.{◌≡◌, ◌-◌}
use Rattle.table.specs.Reading.{many}
use Rattle.adl.specs.Tables.{arity}
use Rattle.adl.specs.Reads.{term}
use Rattle.adl.specs.Views.{table, around, answer}
use Rattle.adl.proofs.reader.Reader.check_terms.Given as goal

-- the terms that are left, read from here, answer as all terms do
abbrev pub invariant-loop : goal.invariant-loop
invariant-loop l =
    answer (many (term (table l.self.table.now) (around l.self)) (arity (table l.self.table.now) l.predicate - l.counter) l.next)
    ≡ answer (many (term (table l.self.table.now) (around l.self)) (arity (table l.self.table.now) l.predicate) l.at)
