use Rattle.std.proofs.Common.{◌-◌, sym, ◌∙◌, arith}
use Rattle.fault.specs.declared.Layer.TheVariants as layer
use Rattle.table.proofs.Answering.{many_refused, many_turn, many_over}
use Rattle.book.specs.Reads.{literal}
use Rattle.table.specs.Entries.{coded}
use Rattle.book.specs.Views.{table}
use Rattle.book.proofs.Heading.{handed_back}
use Rattle.book.proofs.Parts.{some_literals}
use Rattle.book.proofs.effects.check_literals.Goals as goal

pub returns-in_err-next : goal.returns-in_err-next
returns-in_err-next c =
    let t = table c.args.table.now in
    let h = c.in_ok-head.head in
    handed_back c.from_residual-in_err-next.result _ c.from_residual-in_err-next.ensures.1
    ∙ many_refused layer.Book (literal t) (h.operand - c.loop.counter) c.loop.next c.in_err-next.field-0.0 (omega arith) c.in_err-next.ensures
    ∙ c.loop.invariant
    ∙ some_literals t c.args.at (coded h) c.in_ok-head.ensures.same (λ z. omega arith)

pub loop-preserved : goal.loop-preserved
loop-preserved c =
    many_turn layer.Book (literal (table c.args.table.now)) c.in_ok-head.head.operand c.loop.counter c.loop.next c.in_ok-next.next (omega arith) c.in_ok-next.ensures
    ∙ c.loop.invariant

pub returns : goal.returns
returns c =
    let t = table c.args.table.now in
    let h = c.in_ok-head.head in
    sym (many_over layer.Book (literal t) (h.operand - c.loop.counter) c.loop.next (omega arith))
    ∙ c.loop.invariant
    ∙ some_literals t c.args.at (coded h) c.in_ok-head.ensures.same (λ z. omega arith)
