-- Outcomes by example: what a caller in C is told, and what is told back.
use Rattle.std.specs.Prelude.{◌≡◌, [], ◌∷◌, ◌++◌, codes, replicate, Some, None, Ok, Err}
use Rattle.fault.specs.declared.Layer.TheVariants.{Run, File}
use Rattle.fault.specs.Faults.{refusal}
use Rattle.planning_c.specs.Outcomes as c
use Rattle.planning_c.specs.Outcomes.{refusal_told, line_of, with_line, room_with}

pub record OutcomesByExample : Type 0 where
  pub refused : c.refused (refusal 26 Run 65535) ≡ record { number = 26; layer = 3; place = 65535; length = 0 }
  pub written : c.written (Ok 65) ≡ record { number = 0; layer = 0; place = 0; length = 65 }
  pub not_written : c.written (Err (refusal 14 File 65)) ≡ record { number = 14; layer = 5; place = 65; length = 0 }
  pub checked : c.checked (Ok tt) ≡ c.done 0
  pub not_checked : c.checked (Err (refusal 9 File 1)) ≡ record { number = 9; layer = 5; place = 1; length = 0 }
  pub places : (room_with 7).literals ≡ 7
  -- the refusal that is told back; a number that no cause has tells none, nor does one without a layer
  pub back : refusal_told (c.refused (refusal 14 File 65)) ≡ Some (refusal 14 File 65)
  pub no_cause : refusal_told (record { number = 15; layer = 3; place = 0; length = 0 }) ≡ None
  pub no_layer : refusal_told (record { number = 26; layer = 6; place = 0; length = 0 }) ≡ None
  pub nothing : refusal_told (c.done 65) ≡ None
  -- its line, in a buffer that is long enough and in one that is not
  pub line : with_line (line_of (Some (refusal 1 Run 0))) (replicate 18 7) ≡ codes "refused 1 run 0" ++ (10 ∷ 7 ∷ 7 ∷ [])
  pub too_short : with_line (line_of (Some (refusal 1 Run 0))) (7 ∷ 7 ∷ []) ≡ 7 ∷ 7 ∷ []
  pub no_line : line_of None ≡ []
