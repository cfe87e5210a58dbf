use Rattle.table.proofs.Lengths.{operands_long}
use Rattle.std.proofs.Common.{◌<◌, ◌≤◌, Err, sym, ap, ◌∙◌, arith}
use Rattle.book.specs.Views.{table}
use Rattle.book.proofs.Naming.{reached, name_good, name_bad, name_is}
use Rattle.book.proofs.names.check_name.Goals as goal
use Rattle.book.proofs.names.check_name.Goals.{In_ok-end}

-- the name ends after it begins, and inside the table
forth : (c : In_ok-end) → (c.args.at < c.in_ok-end.end) × (c.in_ok-end.end ≤ c.args.table.now.sizes.entries)
forth c = reached (table c.args.table.now) (operands_long c.args.table.now.entries c.args.table.now.whole) c.args.before.now c.args.at _ c.in_ok-end.end c.in_ok-head_at.ensures.inside c.in_ok-head_at.ensures.same c.in_ok-end.ensures

pub slice_bounds-precedes-count : goal.slice_bounds-precedes-count
slice_bounds-precedes-count c = let r = forth ((goal.at.slice_bounds-precedes-count c).In_ok-end) in omega (arith, r.0)

pub slice_bounds-precedes-start : goal.slice_bounds-precedes-start
slice_bounds-precedes-start c = let r = forth ((goal.at.slice_bounds-precedes-start c).In_ok-end) in omega (arith, r.0)

pub slice_bounds-precedes-end : goal.slice_bounds-precedes-end
slice_bounds-precedes-end c = let r = forth ((goal.at.slice_bounds-precedes-end c).In_ok-end) in omega (arith, r.1, (operands_long c.args.table.now.entries c.args.table.now.whole))

pub overflow_sub-end : goal.overflow_sub-end
overflow_sub-end c = let r = forth ((goal.at.overflow_sub-end c).In_ok-end) in omega (arith, r.0)

pub returns-then-not-precedes-clause-same : goal.returns-then-not-precedes-clause-same
returns-then-not-precedes-clause-same c =
    ap Err c.new.ensures
    ∙ name_bad (table c.args.table.now) (operands_long c.args.table.now.entries c.args.table.now.whole) c.args.before.now c.args.at _ c.in_ok-end.end c.in_ok-head_at.ensures.inside c.in_ok-head_at.ensures.same c.in_ok-end.ensures (sym c.if-not-precedes.ensures)

pub returns : goal.returns
returns c =
    let t = table c.args.table.now in
    let n = (operands_long c.args.table.now.entries c.args.table.now.whole) in
    let b = c.args.before.now in
    let i = c.in_ok-head_at.ensures.inside in
    let s = c.in_ok-head_at.ensures.same in
    let o = c.in_ok-end.ensures in
    let p = sym c.if-not-precedes.ensures in
    record {
      same = name_good t n b c.args.at _ c.in_ok-end.end i s o p;
      inside = forth ((goal.at.returns c).In_ok-end);
      text = name_is t n b c.args.at _ c.in_ok-end.end i s o p;
    }
