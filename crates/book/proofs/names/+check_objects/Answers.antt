use Rattle.std.proofs.Common.{Err, ap, ◌∙◌}
use Rattle.book.specs.Views.{table}
use Rattle.book.proofs.Naming.{none_past, none_other, one_here, objects_end, objects_fifth, objects_high, objects_go}
use Rattle.book.proofs.names.+check_objects.Goals as goal
use Rattle.book.proofs.names.+check_objects.Goals.{then-room-eq0-via-then-room-eq0, then-room-eq0-via-else-room-eq0+then-table-at-ge32}

pub returns-then-at-table : goal.returns-then-at-table
returns-then-at-table d c = let t = table c.args.table.now in objects_end t c.args.at c.args.room (none_past t c.args.at c.if-at-table.true)

pub returns-then-table-at : goal.returns-then-table-at
returns-then-table-at d c = let t = table c.args.table.now in objects_end t c.args.at c.args.room (none_other t c.args.at c.if-table-at.true)

pub returns-then-room-eq0 : goal.returns-then-room-eq0
returns-then-room-eq0 d c =
    let t = table c.args.table.now in
    let here = one_here t c.args.at c.if-at-table.false c.if-table-at.false in
    ap Err c.new.ensures
    ∙ elim c.then-room-eq0.branch [
      | then-room-eq0-via-then-room-eq0 w ↦ objects_fifth t c.args.at c.args.room w.if-room-eq0.true here
      | then-room-eq0-via-else-room-eq0+then-table-at-ge32 w ↦ objects_high t c.args.at c.args.room w.if-table-at-ge32.true here
    ]

pub returns : goal.returns
returns d c =
    let t = table c.args.table.now in
    c.check_objects.ensures
    ∙ objects_go t c.args.at c.args.room c.if-room-eq0.false c.if-table-at-ge32.false (one_here t c.args.at c.if-at-table.false c.if-table-at.false)
