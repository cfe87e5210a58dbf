use Rattle.std.proofs.Common.{sym, ◌∙◌}
use Rattle.book.specs.Views.{table}
use Rattle.book_runs.proofs.Objects.{object_more, objects_end}
use Rattle.book_runs.proofs.names.after_objects.Goals as goal

pub loop-next-preserved : goal.loop-next-preserved
loop-next-preserved c =
    let i = c.loop-next.invariant in
    let w = object_more (table c.args.table.now) i.0 c.loop-next.next i.1 (sym c.is_object_at.ensures ∙ c.loop-next-test.true) in
    (w.0, w.1, w.2 ∙ i.2)

pub returns : goal.returns
returns c = objects_end (table c.args.table.now) c.loop-next.invariant.0 c.loop-next.next (sym c.is_object_at.ensures ∙ c.loop-next-test.false) ∙ c.loop-next.invariant.2
