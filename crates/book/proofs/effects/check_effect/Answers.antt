use Rattle.std.proofs.Common.{◌-◌, sym, ◌∙◌, arith}
use Rattle.fault.specs.declared.Layer.TheVariants as layer
use Rattle.table.specs.declared.places.Place.TheVariants as place
use Rattle.table.specs.Reading.{many}
use Rattle.table.proofs.Answering.{many_refused, many_turn, many_over}
use Rattle.book.specs.Reads.{clause}
use Rattle.table.specs.Entries.{coded}
use Rattle.book.specs.Views.{table}
use Rattle.book.proofs.Heading.{handed_back, head_goes}
use Rattle.book.proofs.effects.check_effect.Goals as goal

pub returns-in_err-next : goal.returns-in_err-next
returns-in_err-next c =
    let t = table c.args.table.now in
    let h = c.in_ok-head.head in
    handed_back c.from_residual-in_err-next.result _ c.from_residual-in_err-next.ensures.1
    ∙ many_refused layer.Book (clause t) (h.operand - c.loop.counter) c.loop.next c.in_err-next.field-0.0 (omega arith) c.in_err-next.ensures
    ∙ c.loop.invariant
    ∙ head_goes t place.Clauses 513 c.args.at (coded h) c.in_ok-head.ensures.same (λ e j. many (clause t) e.operand j)

pub loop-preserved : goal.loop-preserved
loop-preserved c =
    many_turn layer.Book (clause (table c.args.table.now)) c.in_ok-head.head.operand c.loop.counter c.loop.next c.in_ok-next.next (omega arith) c.in_ok-next.ensures
    ∙ c.loop.invariant

pub returns : goal.returns
returns c =
    let t = table c.args.table.now in
    let h = c.in_ok-head.head in
    sym (many_over layer.Book (clause t) (h.operand - c.loop.counter) c.loop.next (omega arith))
    ∙ c.loop.invariant
    ∙ head_goes t place.Clauses 513 c.args.at (coded h) c.in_ok-head.ensures.same (λ e j. many (clause t) e.operand j)
