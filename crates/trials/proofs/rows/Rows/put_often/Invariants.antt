use Rattle.std.proofs.Common.{◌≡◌, ◌++◌}
use Rattle.std.proofs.Math.ListN.{replicate}
use Rattle.table.specs.Kinds.{code_of}
use Rattle.trials.proofs.rows.Rows.put_often.Given as goal

abbrev pub invariant-loop : goal.invariant-loop
invariant-loop l = record {
  codes : l.self.kinds.items ≡ l.fn.self.kinds.items ++ replicate l.counter (code_of l.kind);
  operands : l.self.operands.items ≡ l.fn.self.operands.items ++ replicate l.counter l.operand;
}
