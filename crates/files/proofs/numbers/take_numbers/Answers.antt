use Rattle.std.proofs.Common.{◌≡◌, ◌*◌, length, drop, sym, ap, refl, ◌∙◌, arith}
use Rattle.std.proofs.lemmas.List.{drop-drop, length-drop}
use Rattle.instantiate.specs.Growing.{over}
use Rattle.files.specs.Formats.{number}
use Rattle.files.proofs.Bytes.{numbers_none, taken_next, taken_all}
use Rattle.files.proofs.numbers.take_numbers.Goals as goal

pub loop-number-init : goal.loop-number-init
loop-number-init c = record {
  rest = refl;
  inside = omega arith;
  taken = sym (ap (λ ns. over ns c.args.numbers.now) (numbers_none c.args.bytes.now));
}

pub loop-number-preserved : goal.loop-number-preserved
loop-number-preserved c =
    let (long, value, after) = c.in_ok-value.ensures in
    let i = c.loop-number.number-index in
    record {
      rest = after ∙ ap (drop 4) c.loop-number.invariant.rest ∙ drop-drop 4 (4 * i) c.args.bytes.now ∙ ap (λ k. drop k c.args.bytes.now) (omega arith);
      inside = omega (arith, long, ap length c.loop-number.invariant.rest, length-drop (4 * i) c.args.bytes.now);
      taken = taken_next c.args.bytes.now c.args.numbers.now c.loop-number.numbers i _ (omega arith) c.loop-number.invariant.taken (value ∙ ap number c.loop-number.invariant.rest);
    }

pub returns : goal.returns
returns c =
    let bs = c.args.bytes.now in
    let ns = c.args.numbers.now in
    let e : c.loop-number.number-index ≡ length ns = omega arith in
    (omega (arith, e, c.loop-number.invariant.inside), c.loop-number.invariant.rest ∙ ap (λ k. drop (4 * k) bs) e, taken_all bs ns c.loop-number.numbers c.loop-number.number-index (omega (arith, e)) (omega (arith, e)) c.loop-number.invariant.taken)
