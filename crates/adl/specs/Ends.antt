-- The place after what was checked.
use Rattle.std.specs.Prelude.{ℕ, Ok, Err, Result}
use Rattle.fault.specs.declared.Fault.{Fault}
use Rattle.adl.specs.declared.declare.Predicates.{Predicates}
use Rattle.adl.specs.declared.declare.Checked.{Checked}
use Rattle.adl.specs.declared.declare.Operators.{Operators}

-- a result by the place that a function takes from it
abbrev pub ended : {A : Type 0} → (A → ℕ) → Result A Fault → Result ℕ Fault
ended place (Ok x) = Ok (place x)
ended place (Err f) = Err f

abbrev pub predicates_end : Result Predicates Fault → Result ℕ Fault
predicates_end = ended (λ p. p.end)

abbrev pub operator_end : Result Checked Fault → Result ℕ Fault
operator_end = ended (λ o. o.end)

abbrev pub operators_end : Result Operators Fault → Result ℕ Fault
operators_end = ended (λ o. o.end)
