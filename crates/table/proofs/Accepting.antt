-- Answers that are no refusal.
use Rattle.std.proofs.Common.{◌≡◌, ℕ, ◌≤◌, Bool, true, false, ltb, List, length, Ok, Err, refl, arith}
use Rattle.std.proofs.lemmas.Bool.{ltb-false}
use Rattle.fault.specs.declared.Fault.{Fault}
use Rattle.fault.specs.declared.Layer.{Layer}
use Rattle.table.specs.Answers.{Answer, done, refuse_if, and_then, is_good, lengths_fit}
use Rattle.table.specs.Reading.{Out, bad, good}

-- a refusal does not accept
no_refusal : {P : Type 0} (f : Fault) → ◌≡◌ {A = Answer} (Err f) (Ok tt) → P
no_refusal f e = let z : ◌≡◌ {A = ℕ} 0 1 = cc in let w : ⊥ = omega arith in absurd w

-- each of two answers is no refusal
pub both_accept : (x y : Answer) → and_then x y ≡ Ok tt → (x ≡ Ok tt) × (y ≡ Ok tt)
both_accept (Ok u) y e = (refl, e)
both_accept (Err f) y e = no_refusal f e

module _ (l : Layer) where
  -- what is not refused failed the test
  pub not_refused : (b : Bool) (n p : ℕ) (rest : Answer) → refuse_if l b n p rest ≡ Ok tt → (b ≡ false) × (rest ≡ Ok tt)
  not_refused true n p rest e = no_refusal _ e
  not_refused false n p rest e = (refl, e)

  -- a reading that is no refusal is good
  pub done_good : {A : Type 0} (o : Out A) → done l o ≡ Ok tt → is_good o ≡ true
  done_good (bad n p) e = no_refusal _ e
  done_good (good x j) e = refl

  -- arrays that are not refused are long enough
  pub long_enough : (n : ℕ) (ks os : List ℕ) → lengths_fit l n ks os ≡ Ok tt → (n ≤ length ks) × (n ≤ length os)
  long_enough n ks os e =
      let a = not_refused (ltb (length ks) n) 2 (length ks) _ e in
      let b = not_refused (ltb (length os) n) 2 (length os) _ a.1 in
      (ltb-false (length ks) n a.0, ltb-false (length os) n b.0)
