-- Outcomes, by computing.
use Rattle.std.proofs.Common.{refl}
use Rattle.std.specs.Fmt.{digits}
use Rattle.fault.specs.Faults.{writing_cause}
use Rattle.planning_c.specs.Examples.{OutcomesByExample}

pub outcomes : OutcomesByExample
unfolding writing_cause digits
outcomes = record {
  refused = refl;
  written = refl;
  not_written = refl;
  checked = refl;
  not_checked = refl;
  places = refl;
  back = refl;
  no_cause = refl;
  no_layer = refl;
  nothing = refl;
  line = refl;
  too_short = refl;
  no_line = refl;
}
