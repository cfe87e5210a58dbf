-- What holds of every item of a series that was read.
use Rattle.std.proofs.Common.{◌≡◌, ℕ, zero, suc, List, [], length, sym, refl, ap, subst}
use Rattle.model.specs.Forming.{Each}
use Rattle.table.specs.Reading.{Out, good, series, many}
use Rattle.table.proofs.Reading.{series_opens}

-- what holds of every item that is read holds of each of a series, which has as many items as were asked for
pub series_each : {A S : Type 0} (P : A → Type 0) (read : S → ℕ → Out A) (next : S → A → S) → ((s : S) (i : ℕ) (x : A) (j : ℕ) → read s i ≡ good x j → P x)
    → (m : ℕ) (s : S) (i : ℕ) (xs : List A) (k : ℕ) → series read next m s i ≡ good xs k → Each P xs × (length xs ≡ m)
series_each P read next h zero s i xs k e =
    let q : [] ≡ xs = cc in
    subst (λ ys. Each P ys × (length ys ≡ 0)) q (tt, refl)
series_each P read next h (suc m) s i xs k e = series_opens read next m s i xs k e λ x j rest r u q.
    let w = series_each P read next h m (next s x) j rest k u in
    subst (λ ys. Each P ys × (length ys ≡ suc m)) (sym q) ((h s i x j r, w.0), ap suc w.1)

-- the same of items that need nothing of the ones before
pub many_each : {A : Type 0} (P : A → Type 0) (read : ℕ → Out A) → ((i : ℕ) (x : A) (j : ℕ) → read i ≡ good x j → P x)
    → (m i : ℕ) (xs : List A) (k : ℕ) → many read m i ≡ good xs k → Each P xs × (length xs ≡ m)
many_each P read h m i xs k e = series_each P (λ (_ : Unit {0}). read) (λ _ _. tt) (λ _. h) m tt i xs k e
