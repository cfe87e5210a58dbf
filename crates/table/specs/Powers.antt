-- The rule of the table of powers: n to the power k stands at 5 * n + k.
use Rattle.std.specs.Prelude.{ℕ, ◌/◌, ◌%◌, ◌^◌, Bool, ◌==◌}

-- x is right at place i
abbrev pub right : ℕ → ℕ → Bool
right i x = x == (i / 5) ^ (i % 5)
