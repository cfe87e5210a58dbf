-- What is told where a call failed.
use Rattle.std.proofs.Common.{◌≡◌, ℕ, true, false, sym, ap, ◌∙◌}
use Rattle.std.specs.Prelude.{Ok, Err, Result, MatchResult}
use Rattle.std.specs.Result.{IsErrAnd, is_err}
use Rattle.fault.specs.Faults.{writing_cause, refusal}
use Rattle.fault.specs.declared.Fault.{Fault}
use Rattle.fault.specs.declared.Cause.TheVariants.{ListTooShort}
use Rattle.fault.specs.declared.Layer.TheVariants.{Book}
use Rattle.model.proofs.Values.{clash}

-- a failure is what it is turned into
pub at_failure : {T E : Type 0} (P : T → Type 0) (Q R : E → Type 0) (r : Result T E) → IsErrAnd r R → ((y : E) → R y → Q y) → MatchResult r P Q
at_failure P Q R (Ok x) h k = absurd h
at_failure P Q R (Err y) h k = k y h

-- a call that failed, or did not
pub if_failed : {T E : Type 0} (A B : Type 0) (r : Result T E) → is_err r ≡ true → MatchResult r (λ _. A) (λ _. B) → B
if_failed A B (Ok x) e h = clash e
if_failed A B (Err y) e h = h

pub if_done : {T E : Type 0} (A B : Type 0) (r : Result T E) → is_err r ≡ false → MatchResult r (λ _. A) (λ _. B) → A
if_done A B (Ok x) e h = h
if_done A B (Err y) e h = clash (sym e)

-- the refusal of a list that is too short
pub told_short : (f : Fault) (n m : ℕ) → f ≡ record { cause = ListTooShort; layer = Book; place = m } → m ≡ n → f ≡ refusal 12 Book n
unfolding writing_cause
told_short f n m e h = e ∙ ap (λ (p : ℕ). record { cause = ListTooShort; layer = Book; place = p }) h
