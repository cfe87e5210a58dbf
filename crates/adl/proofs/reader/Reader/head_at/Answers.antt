use Rattle.std.proofs.Common.{sym, ap, ◌∙◌, Err}
use Rattle.table.specs.Entries.{coded}
use Rattle.table.proofs.Heads.{out_of_range, in_order}
use Rattle.fault.specs.declared.Layer.TheVariants as layer
use Rattle.adl.specs.Tables.{within_bounds, in_range}
use Rattle.adl.specs.Views.{table_read, around}
use Rattle.adl.proofs.reader.Reader.head_at.Goals as goal

pub returns-then-not-is_in_range-clause-same : goal.returns-then-not-is_in_range-clause-same
returns-then-not-is_in_range-clause-same c =
    let t = table_read c.args.self.now in
    let a = around c.args.self.now in
    ap Err c.new-then-not-is_in_range.ensures
    ∙ out_of_range layer.Task t.entries t.kinds t.operands c.args.place c.args.at (within_bounds a c.args.at) (in_range t a) _ (coded c.in_ok-head.head) c.args.self.now.table.now.whole c.in_ok-head.ensures.same (sym c.if-not-is_within_bounds.false ∙ c.is_within_bounds.ensures) (sym c.if-not-is_in_range.true ∙ c.is_in_range.ensures)

pub returns-clause-same : goal.returns-clause-same
returns-clause-same c =
    let t = table_read c.args.self.now in
    let a = around c.args.self.now in
    in_order layer.Task t.entries t.kinds t.operands c.args.place c.args.at (within_bounds a c.args.at) (in_range t a) _ (coded c.in_ok-head.head) c.args.self.now.table.now.whole c.in_ok-head.ensures.same (sym c.if-not-is_within_bounds.false ∙ c.is_within_bounds.ensures) (sym c.if-not-is_in_range.false ∙ c.is_in_range.ensures)
