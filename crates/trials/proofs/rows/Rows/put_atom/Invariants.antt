use Rattle.std.proofs.Common.{◌≡◌, ◌++◌, ◌∷◌, take}
use Rattle.std.proofs.Math.ListN.{replicate}
use Rattle.table.specs.Kinds.{code_of}
use Rattle.trials.proofs.rows.Rows.put_atom.Given as goal

abbrev pub invariant-loop-term : goal.invariant-loop-term
invariant-loop-term l = record {
  codes : l.self.kinds.items ≡ l.fn.self.kinds.items ++ (2 ∷ replicate l.term-index (code_of l.kind));
  operands : l.self.operands.items ≡ l.fn.self.operands.items ++ (l.predicate ∷ take l.term-index l.terms);
}
