use Rattle.std.proofs.Common.{sym, ap, ◌∙◌, Err, ltb, arith}
use Rattle.std.proofs.lemmas.Bool.{lt-ltb}
use Rattle.table.specs.Entries.{coded}
use Rattle.table.proofs.Heads.{out_of_range, in_order}
use Rattle.fault.specs.declared.Layer.TheVariants as layer
use Rattle.book.specs.Tables.{in_range}
use Rattle.book.specs.Views.{table}
use Rattle.book.proofs.head.head_at.Goals as goal

pub returns-then-not-is_in_range-clause-same : goal.returns-then-not-is_in_range-clause-same
returns-then-not-is_in_range-clause-same c =
    let t = table c.args.table.now in
    ap Err c.new-then-not-is_in_range.ensures
    ∙ out_of_range layer.Book t.entries t.kinds t.operands c.args.place c.args.at (λ _. ltb 0 c.args.levels) (in_range t) _ (coded c.in_ok-head.head) c.args.table.now.whole c.in_ok-head.ensures.same (sym (lt-ltb 0 c.args.levels (omega arith))) (sym c.if-not-is_in_range.true ∙ c.is_in_range.ensures)

pub returns-clause-same : goal.returns-clause-same
returns-clause-same c =
    let t = table c.args.table.now in
    in_order layer.Book t.entries t.kinds t.operands c.args.place c.args.at (λ _. ltb 0 c.args.levels) (in_range t) _ (coded c.in_ok-head.head) c.args.table.now.whole c.in_ok-head.ensures.same (sym (lt-ltb 0 c.args.levels (omega arith))) (sym c.if-not-is_in_range.false ∙ c.is_in_range.ensures)
