-- Reading step by step, beside the answers of the code: what is left to read answers as the whole does.
use Rattle.std.proofs.Common.{◌≡◌, ℕ, zero, suc, ◌+◌, ◌-◌, ◌<◌, ◌∷◌, IfOk, Ok, Err, Result, sym, refl, ap, ◌∙◌, arith}
use Rattle.fault.specs.declared.Fault.{Fault}
use Rattle.fault.specs.declared.Layer.{Layer}
use Rattle.fault.specs.Faults.{refusal}
use Rattle.table.specs.Reading.{Entry, Out, bad, good, then, series, many, next_place}
use Rattle.table.specs.Answers.{answer, heading}

-- what a refusal makes
pub made_refused : {A : Type 0} (P : A → Type 0) (r : Result A Fault) (f : Fault) → r ≡ Err f → IfOk r P
made_refused P (Ok x) f e = absurd (let z : ◌≡◌ {A = ℕ} 0 1 = cc in omega arith)
made_refused P (Err g) f e = tt

-- what the code answers in one layer
module _ (layer : Layer) where
  -- a refused step refuses the whole
  pub refused : {A B : Type 0} (o : Out A) (g : A → ℕ → Out B) (f : Fault) → Err f ≡ answer layer o → Err f ≡ answer layer (then o g)
  refused (bad n p) g f e = e
  refused (good a j) g f e = cc

  -- a refused entry refuses the whole
  pub head_refused : {B : Type 0} (o : Out Entry) (g : Entry → ℕ → Out B) (f : Fault) → Err f ≡ heading layer o → Err f ≡ answer layer (then o g)
  head_refused (bad n p) g f e = let q : f ≡ refusal n layer p = cc in ap Err q
  head_refused (good a j) g f e = cc

  -- an answer `Ok j` was read well
  pub read_well : {A : Type 0} (o : Out A) (j : ℕ) → Ok j ≡ answer layer o → (a : A) × (o ≡ good a j)
  read_well (bad n p) j e = absurd (let z : ◌≡◌ {A = ℕ} 0 1 = cc in omega arith)
  read_well (good a k) j e = let h : k ≡ j = cc in (a, ap (good a) h)

  -- the place after an answer `Ok j` is j
  pub place_after : {A : Type 0} (o : Out A) (j : ℕ) → Ok j ≡ answer layer o → next_place o ≡ j
  place_after o j e = ap (λ x. next_place x) (read_well o j e).1

  -- what is made of what was read does not alter the answer
  pub handed_on : {A B : Type 0} (o : Out A) (g : A → B) → answer layer (then o (λ a k. good (g a) k)) ≡ answer layer o
  handed_on (bad n p) g = refl
  handed_on (good a j) g = refl

  -- after a step that was read well, the whole goes on
  pub step_goes : {A B : Type 0} (o : Out A) (g : A → ℕ → Out B) (j : ℕ) → Ok j ≡ answer layer o → (a : A) × (o ≡ good a j) × (answer layer (g a j) ≡ answer layer (then o g))
  step_goes o g j h = let w = read_well o j h in (w.0, w.1, sym (ap (λ x. answer layer (then x g)) w.1))

  -- items one after the other, each in the light of what came before
  module _ {A S : Type 0} (read : S → ℕ → Out A) (next : S → A → S) where
    pub series_refused : (m : ℕ) (s : S) (i : ℕ) (f : Fault) → 0 < m → Err f ≡ answer layer (read s i) → Err f ≡ answer layer (series read next m s i)
    series_refused zero s i f h e = absurd (omega arith)
    series_refused (suc m) s i f h e = refused (read s i) (λ a j. then (series read next m (next s a) j) λ rest k. good (a ∷ rest) k) f e

    pub series_goes : (m : ℕ) (s : S) (i : ℕ) (a : A) (j : ℕ) → 0 < m → read s i ≡ good a j → answer layer (series read next (m - 1) (next s a) j) ≡ answer layer (series read next m s i)
    series_goes zero s i a j h e = absurd (omega arith)
    series_goes (suc m) s i a j h e =
        let n : suc m - 1 ≡ m = omega arith in
        ap (λ x. answer layer (series read next x (next s a) j)) n
        ∙ sym (handed_on (series read next m (next s a) j) (λ rest. a ∷ rest))
        ∙ sym (ap (λ o. answer layer (then o (λ a' j'. then (series read next m (next s a') j') λ rest k. good (a' ∷ rest) k))) e)

    -- a turn of a loop over m items, of which k are done
    pub series_turn : (m k : ℕ) (s : S) (i : ℕ) (a : A) (j : ℕ) → k < m → read s i ≡ good a j → answer layer (series read next (m - (k + 1)) (next s a) j) ≡ answer layer (series read next (m - k) s i)
    series_turn m k s i a j h e =
        let n : m - (k + 1) ≡ (m - k) - 1 = omega arith in
        ap (λ x. answer layer (series read next x (next s a) j)) n ∙ series_goes (m - k) s i a j (omega arith) e

    pub series_over : (m : ℕ) (s : S) (i : ℕ) → m ≡ 0 → answer layer (series read next m s i) ≡ Ok i
    series_over m s i h = ap (λ n. answer layer (series read next n s i)) h

  -- the same where an item needs nothing of the ones before
  module _ {A : Type 0} (read : ℕ → Out A) where
    pub many_refused : (m i : ℕ) (f : Fault) → 0 < m → Err f ≡ answer layer (read i) → Err f ≡ answer layer (many read m i)
    many_refused m i f h e = series_refused (λ (_ : Unit {0}). read) (λ _ _. tt) m tt i f h e

    -- a turn of a loop over m items, of which k are done
    pub many_turn : (m k i j : ℕ) → k < m → Ok j ≡ answer layer (read i) → answer layer (many read (m - (k + 1)) j) ≡ answer layer (many read (m - k) i)
    many_turn m k i j h e = let w = read_well (read i) j e in series_turn (λ (_ : Unit {0}). read) (λ _ _. tt) m k tt i w.0 j h w.1

    pub many_over : (m i : ℕ) → m ≡ 0 → answer layer (many read m i) ≡ Ok i
    many_over m i h = series_over (λ (_ : Unit {0}). read) (λ _ _. tt) m tt i h
