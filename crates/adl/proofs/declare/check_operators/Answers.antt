use Rattle.std.proofs.Common.{◌-◌, ◌<◌, map, length, Err, ap, ◌∙◌, arith, length-set}
use Rattle.std.proofs.lemmas.Result.{err_from_is_err_and}
use Rattle.table.specs.Reading.{starts}
use Rattle.adl.specs.Reads.{operator}
use Rattle.adl.specs.Kept.{places_from}
use Rattle.adl.specs.Views.{table}
use Rattle.adl.specs.Ends.{operators_end}
use Rattle.fault.specs.declared.Layer.TheVariants as layer
use Rattle.table.proofs.Answering.{place_after, many_refused, many_turn, made_refused}
use Rattle.adl.proofs.Operators.{noted}
use Rattle.adl.proofs.declare.check_operators.Goals as goal

pub returns-in_err-one : goal.returns-in_err-one
returns-in_err-one c =
    let t = table c.args.table.now in
    let p = err_from_is_err_and c.from_residual.result c.from_residual.ensures.1 in
    let e = p.1 ∙ ap Err p.2 in
    record {
      same = ap operators_end e ∙ many_refused layer.Task (operator t) (t.operators - c.loop-i.i) c.loop-i.all.end c.in_err-one.field-0.0 (omega arith) c.in_err-one.ensures.same ∙ c.loop-i.invariant.0;
      places = made_refused _ _ _ e;
    }

pub loop-i-preserved : goal.loop-i-preserved
loop-i-preserved c =
    let t = table c.args.table.now in
    let i = c.loop-i.i in
    let from = c.loop-i.all.end in
    let to = c.in_ok-one.one.end in
    let ps = c.loop-i.all.places in
    let h = c.in_ok-one.ensures in
    let n : i < length ps = omega arith in (
      many_turn layer.Task (operator t) t.operators i from to c.loop-i-test.true h.same ∙ c.loop-i.invariant.0,
      noted (operator t) (places_from t) t.operators i from to (record { start = from; effect = c.in_ok-one.one.effect }) ps (map (places_from t) (starts (operator t) t.operators c.args.at)) c.loop-i-test.true n (ap (λ x. record { start = from; effect = x }) h.effect) (place_after layer.Task (operator t from) to h.same) c.loop-i.invariant.1,
      length-set ps i _ ∙ c.loop-i.invariant.2,
    )
