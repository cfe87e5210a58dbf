use Rattle.table.proofs.Lengths.{operands_long}
use Rattle.std.proofs.Common.{◌+◌, ◌-◌, ◌<◌, length, sym, ap, ◌∙◌, arith}
use Rattle.fault.specs.declared.Layer.TheVariants as layer
use Rattle.table.specs.Reading.{series}
use Rattle.table.proofs.Answering.{series_over}
use Rattle.book.specs.Reads.{action, after_action}
use Rattle.book.specs.Named.{name_in}
use Rattle.book.specs.Views.{table, answer}
use Rattle.book.proofs.Heading.{handed_back}
use Rattle.book.proofs.Naming.{listed_in, name_refused, precondition_refused, effect_refused, action_turn}
use Rattle.book.proofs.names.check_actions.Goals as goal

pub returns-in_err-named : goal.returns-in_err-named
returns-in_err-named c =
    let t = table c.args.table.now in
    let b = c.loop.before.now in
    handed_back c.from_residual.result _ c.from_residual.ensures.1
    ∙ name_refused t t.actions c.loop.counter b c.loop.at (omega arith) c.in_err-named.field-0.0 c.in_err-named.ensures.same
    ∙ c.loop.invariant

pub returns-in_err-judged : goal.returns-in_err-judged
returns-in_err-judged c =
    let t = table c.args.table.now in
    let b = c.loop.before.now in
    let j = c.in_ok-named.named in
    handed_back c.from_residual-in_err-judged.result _ c.from_residual-in_err-judged.ensures.1
    ∙ precondition_refused t t.actions c.loop.counter b c.loop.at (omega arith) (name_in t.operands c.loop.at j) j c.in_ok-named.ensures.text c.in_err-judged.field-0.0 c.in_err-judged.ensures
    ∙ c.loop.invariant

pub returns-in_err-at : goal.returns-in_err-at
returns-in_err-at c =
    let t = table c.args.table.now in
    let b = c.loop.before.now in
    let j = c.in_ok-named.named in
    handed_back c.from_residual-in_err-at.result _ c.from_residual-in_err-at.ensures.1
    ∙ effect_refused t t.actions c.loop.counter b c.loop.at (omega arith) (name_in t.operands c.loop.at j) j c.in_ok-named.ensures.text c.in_ok-judged.judged c.in_ok-judged.ensures c.in_err-at.field-0.0 c.in_err-at.ensures
    ∙ c.loop.invariant

pub loop-preserved : goal.loop-preserved
loop-preserved c =
    let t = table c.args.table.now in
    let b = c.loop.before.now in
    let i = c.loop.at in
    let j = c.in_ok-named.named in
    let e = c.in_ok-at.at in
    let f = c.in_ok-named.ensures.inside in
    let l : i < length t.operands = omega (arith, f.0, f.1, (operands_long c.args.table.now.entries c.args.table.now.whole)) in
    ap (λ x. answer (series (action t) after_action (t.actions - (c.loop.counter + 1)) x e)) (sym (listed_in t.operands i j f.0 l))
    ∙ action_turn t t.actions c.loop.counter b i (omega arith) (name_in t.operands i j) j c.in_ok-named.ensures.text c.in_ok-judged.judged c.in_ok-judged.ensures e c.in_ok-at.ensures
    ∙ c.loop.invariant

pub returns : goal.returns
returns c =
    let t = table c.args.table.now in
    let b = c.loop.before.now in
    sym (series_over layer.Book (action t) after_action (t.actions - c.loop.counter) b c.loop.at (omega arith))
    ∙ c.loop.invariant
