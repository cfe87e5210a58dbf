use Rattle.std.proofs.Common.{◌≡◌, ◌-◌, length, get_or, ap, ◌∙◌, arith}
use Rattle.files.proofs.Bytes.{number_read, numbers_length}
use Rattle.files.proofs.reading.take_sizes.Goals as goal

pub returns : goal.returns
returns c =
    let (long, after, taken) = c.in_ok-rest.ensures in
    let n = length c.args.sizes.now in
    let l : length c.take_numbers.new.numbers ≡ n = ap length taken ∙ numbers_length n c.args.input.now in (
      long,
      taken,
      ap (λ k. get_or c.take_numbers.new.numbers (k - 1) 0) l ∙ ap (λ xs. get_or xs (n - 1) 0) taken ∙ number_read n c.args.input.now (n - 1) 0 (omega (arith, c.requires)),
      after,
    )
