-- Refusals, answers and entries, by computing.
use Rattle.std.proofs.Common.{refl, arith}
use Rattle.std.specs.Fmt.{digits}
use Rattle.fault.specs.Faults.{writing_cause}
use Rattle.examples.specs.Refusals.{RefusalsByExample}
use Rattle.examples.specs.Entries.{EntriesByExample}

pub refusals : RefusalsByExample
unfolding writing_cause digits
refusals = record {
  number = refl;
  cause = refl;
  layer = refl;
  text = refl;
  line = refl;
  clash = refl;
  no_memory = refl;
  is_done = refl;
  not_done = refl;
  is_told = refl;
  text_told = refl;
  text_count = refl;
  text_refused = refl;
  text_idle = refl;
}

pub entries : EntriesByExample
entries = record {
  code = refl;
  may_stand = refl;
  may_not = refl;
  power = refl;
  no_power = refl;
  at_first = refl;
  at_second = refl;
  at_third = refl;
  held = λ e n k o. record { count = n; kinds = k; operands = o };
  held_not = λ e ks os n h. absurd (omega (arith, n, h.count));
  read = refl;
  refused = refl;
  coded = refl;
  whether_read = refl;
  kinds_short = refl;
  operands_short = refl;
  long_enough = refl;
}
