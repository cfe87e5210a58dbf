-- What the calls of a store answer.
use Rattle.std.proofs.Common.{◌≡◌, ℕ, ◌<◌, Bool, ltb, Ok, Err, sym}
use Rattle.std.proofs.lemmas.Bool.{lt-ltb, cond-true}
use Rattle.fault.specs.declared.Layer.TheVariants.{Store}
use Rattle.fault.specs.Faults.{refusal}
use Rattle.model.specs.Meaning.{State}
use Rattle.store.specs.Sets.{answered, after_put, with_fact}

pub answered_in : {X : Type 0} (size k : ℕ) (x : X) → k < size → Ok x ≡ answered size k x
answered_in size k x lt = sym (cond-true (ltb k size) (Ok x) (Err (refusal 31 Store k)) (lt-ltb k size lt))

pub put_in : (size : ℕ) (s : State) (k : ℕ) (present : Bool) → k < size → with_fact s k present ≡ after_put size s k present
put_in size s k present lt = sym (cond-true (ltb k size) (with_fact s k present) s (lt-ltb k size lt))
