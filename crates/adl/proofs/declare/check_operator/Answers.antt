use Rattle.std.proofs.Common.{◌∙◌}
use Rattle.table.specs.declared.places.Place.TheVariants as place
use Rattle.adl.specs.Tables.{head}
use Rattle.adl.specs.Reads.{formula, effect}
use Rattle.adl.specs.Views.{table, heading, answer}
use Rattle.table.specs.Entries.{coded}
use Rattle.adl.proofs.Heads.{alike}
use Rattle.adl.proofs.Operators.{effect_answers, effect_begins}
use Rattle.adl.proofs.declare.check_operator.Goals as goal

pub returns : goal.returns
returns c =
    let t = table c.args.table.now in
    let i = c.args.at in
    let first = c.in_ok-head.ensures.same ∙ alike (λ t a. heading (head t place.Operator a i)) c.outermost.ensures.table c.outermost.ensures.around in
    let k = c.in_ok-precondition.precondition in
    let l = c.in_ok-effect.effect in
    let third = c.in_ok-effect.ensures ∙ alike (λ t a. answer (formula t 256 a k)) c.outermost-2.ensures.table c.outermost-2.ensures.around in
    let last = c.in_ok-end.ensures ∙ alike (λ t a. answer (effect t 256 a l)) c.outermost-3.ensures.table c.outermost-3.ensures.around in
    record {
      same = last ∙ effect_answers t i (coded c.in_ok-head.head) first k c.in_ok-precondition.ensures l third;
      effect = effect_begins t i (coded c.in_ok-head.head) first k c.in_ok-precondition.ensures l third;
    }
