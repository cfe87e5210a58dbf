use Rattle.std.proofs.Common.{sym, ap, ◌∙◌, arith}
use Rattle.table.specs.Reading.{next_place}
use Rattle.book.specs.Views.{table}
use Rattle.book.specs.Reads.{literal}
use Rattle.book_runs.proofs.Reading.{first, first_stands}
use Rattle.book_runs.proofs.Effects.{literal_begins, literal_inside, literal_reads, put_more, put_no_more}
use Rattle.book_runs.proofs.literals.put_literals.Goals as goal
use Rattle.book_runs.proofs.literals.put_literals.Goals.{then-holds, else-holds}

pub put_literal-requires : goal.put_literal-requires
put_literal-requires g c =
    let t = table c.args.table.now in
    literal_inside t c.loop.next (first_stands (literal t) c.loop.counter c.loop.next (omega arith) c.loop.invariant.stand)

pub literal_end-next-requires : goal.literal_end-next-requires
literal_end-next-requires g c =
    let t = table c.args.table.now in
    literal_begins t c.loop.next (first_stands (literal t) c.loop.counter c.loop.next (omega arith) c.loop.invariant.stand)

pub loop-preserved : goal.loop-preserved
loop-preserved g c =
    let M = g.S.Store in
    let t = table c.args.table.now in
    let m = c.loop.counter in
    let i = c.loop.next in
    let j = c.literal_end-next.result in
    let r = literal_reads t i (first_stands (literal t) m i (omega arith) c.loop.invariant.stand) in
    let f = first (literal t) m i j (omega arith) (c.literal_end-next.ensures ∙ sym (ap (λ o. next_place o) r)) c.loop.invariant.stand in
    elim c.if-holds.branch [
      | then-holds w ↦ record {
        size = ap M.extent w.store-is ∙ w.put_literal.ensures.size ∙ c.loop.invariant.size;
        stand = f.others;
        end = f.ends ∙ c.loop.invariant.end;
        set = put_more _ c.args.adds t m i j f (M.facts c.loop.store) (M.extent c.loop.store) _ c.args.holds w.if-holds.true c.loop.invariant.size (ap M.facts w.store-is ∙ w.put_literal.ensures.set) ∙ c.loop.invariant.set;
      }
      | else-holds w ↦ record {
        size = ap M.extent w.store-is ∙ c.loop.invariant.size;
        stand = f.others;
        end = f.ends ∙ c.loop.invariant.end;
        set = put_no_more _ c.args.adds t m i j f (M.facts c.loop.store) (M.facts c.if-holds.store) c.args.holds w.if-holds.false (ap M.facts w.store-is) ∙ c.loop.invariant.set;
      }
    ]
