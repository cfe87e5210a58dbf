use Rattle.std.proofs.Common.{◌≡◌, ◌-◌, Err, refl, ap, ◌∙◌, arith}
use Rattle.std.proofs.lemmas.Result.{err_from_is_err_and}
use Rattle.table.specs.Reading.{series}
use Rattle.adl.specs.Reads.{predicate, with_atoms}
use Rattle.adl.specs.Views.{table, answer}
use Rattle.adl.specs.Ends.{predicates_end}
use Rattle.fault.specs.declared.Layer.TheVariants as layer
use Rattle.table.proofs.Answering.{series_refused, made_refused}
use Rattle.adl.proofs.Declared.{predicates_turn, counts_none, counts_turn}
use Rattle.adl.proofs.declare.check_predicates.Goals as goal

pub loop-init : goal.loop-init
loop-init c =
    let t = table c.args.table.now in
    let n : t.predicates - 0 ≡ t.predicates = omega arith in
    (omega arith, ap (λ x. answer (series (predicate t) (with_atoms t) x 0 c.args.at)) n, counts_none t 0 c.args.at t.predicates refl)

pub returns-in_err-so_far : goal.returns-in_err-so_far
returns-in_err-so_far c =
    let t = table c.args.table.now in
    let p = err_from_is_err_and c.from_residual.result c.from_residual.ensures.1 in
    let e = p.1 ∙ ap Err p.2 in
    record {
      same = ap predicates_end e ∙ series_refused layer.Task (predicate t) (with_atoms t) (t.predicates - c.loop.counter) c.loop.so_far.atoms c.loop.so_far.end c.in_err-so_far.field-0.0 (omega arith) c.in_err-so_far.ensures.same ∙ c.loop.invariant.1;
      counted = made_refused _ _ _ e;
      few = made_refused _ _ _ e;
    }

pub loop-preserved : goal.loop-preserved
loop-preserved c =
    let t = table c.args.table.now in
    let s = c.loop.so_far in
    let r = c.in_ok-so_far.so_far in
    let f = c.in_ok-so_far.ensures in (
      f.few,
      predicates_turn t t.predicates c.loop.counter s.atoms s.end r.atoms r.end (omega arith) f.same f.counted ∙ c.loop.invariant.1,
      counts_turn t t.predicates c.loop.counter s.atoms s.end r.atoms r.end (series (predicate t) (with_atoms t) t.predicates 0 c.args.at) (omega arith) f.same f.counted c.loop.invariant.2,
    )
