use Rattle.std.proofs.Common.{sym, ◌∙◌, arith}
use Rattle.adl.proofs.Declared.{power_found}
use Rattle.adl.proofs.declare.check_predicate.Goals as goal

pub overflow_add-before : goal.overflow_add-before
overflow_add-before c =
    let w = power_found c.args.table.now.sizes.objects c.in_ok-head.head.operand c.unwrap-own.result (sym c.unwrap-own.ensures ∙ c.power.ensures) in
    omega (arith, w.1)
