-- What the values of the code stand for.
use Rattle.std.specs.Prelude.{ℕ, map}
use Rattle.table.specs.Kinds.{code_of}
use Rattle.table.specs.declared.kind.Kind.{Kind}
use Rattle.worked.specs.Tables.{Table}
use Rattle.worked.specs.declared.written.Written.{Written}

-- the table that is written down
abbrev pub table_in : {S : Type 0} → Written S → Table S
table_in w = record { sizes = w.sizes; kinds = map (λ (e : Kind × ℕ). code_of e.0) w.entries.now; operands = map (λ (e : Kind × ℕ). e.1) w.entries.now }
