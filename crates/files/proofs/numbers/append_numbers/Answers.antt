use Rattle.std.proofs.Common.{◌≡◌, ◌*◌, ◌+◌, ◌<◌, ◌^◌, ◌++◌, length, get_or, take, sym, ap, ◌∙◌, arith}
use Rattle.std.proofs.lemmas.List.Elements.{All-from_get_or}
use Rattle.std.proofs.lemmas.List.{append_assoc, length-append, length-take-le}
use Rattle.std.specs.Int.{to_le_bytes, w32}
use Rattle.instantiate.specs.Growing.{over}
use Rattle.files.specs.Formats.{bytes_of}
use Rattle.files.proofs.Bytes.{bytes_next, bytes_length}
use Rattle.files.proofs.numbers.append_numbers.Goals as goal

pub loop-number-preserved : goal.loop-number-preserved
loop-number-preserved c =
    let i = c.loop-number.number-index in
    let ns = c.args.numbers.now in
    let four : c.to_le_bytes.result ≡ to_le_bytes w32 (get_or ns i 0) = c.to_le_bytes.ensures in
    record {
      next = ap (λ k. k + 4) c.loop-number.invariant.next ∙ omega arith;
      long = c.append.auto.output ∙ c.loop-number.invariant.long;
      wrote = λ written before start old.
          let l : length (bytes_of (take i ns)) ≡ 4 * i = bytes_length (take i ns) ∙ ap (λ k. 4 * k) (length-take-le i ns (omega arith)) in
          c.append.ensures (written ++ bytes_of (take i ns)) before
          (length-append written (bytes_of (take i ns)) ∙ omega (arith, l, start, c.loop-number.invariant.next))
          (c.loop-number.invariant.wrote written before start old)
          ∙ ap (λ bs. over bs before) (ap (λ bs. (written ++ bytes_of (take i ns)) ++ bs) four ∙ append_assoc written (bytes_of (take i ns)) (to_le_bytes w32 (get_or ns i 0)) ∙ ap (λ bs. written ++ bs) (sym (bytes_next ns i 0 (omega arith))));
    }

pub returns-clause-small : goal.returns-clause-small
returns-clause-small c = All-from_get_or (λ n. n < 2 ^ 32) c.args.numbers.now 0 (λ i l. omega (arith, c.type_inv.numbers i))
