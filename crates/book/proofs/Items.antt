-- What holds of each item of a list that was read.
use Rattle.std.proofs.Common.{◌≡◌, ℕ, zero, suc, List, [], ◌∷◌, length, sym, refl, ap, subst}
use Rattle.table.specs.Reading.{Out, good, series, many}
use Rattle.table.proofs.Reading.{series_opens}
use Rattle.model.specs.Forming.{Each}

-- what follows from something that holds of each element holds of each
pub each_then : {A : Type 0} (P Q : A → Type 0) → ((x : A) → P x → Q x) → (xs : List A) → Each P xs → Each Q xs
each_then P Q f [] h = tt
each_then P Q f (x ∷ xs) h = (f x h.0, each_then P Q f xs h.1)

-- two things that hold of each element
pub each_both : {A : Type 0} (P Q : A → Type 0) (xs : List A) → Each P xs → Each Q xs → Each (λ x. P x × Q x) xs
each_both P Q [] p q = tt
each_both P Q (x ∷ xs) p q = ((p.0, q.0), each_both P Q xs p.1 q.1)

-- what holds of every item that is read holds of each of a series, which has as many items as were asked for
pub series_each : {A S : Type 0} (P : A → Type 0) (read : S → ℕ → Out A) (next : S → A → S) → ((s : S) (i : ℕ) (x : A) (j : ℕ) → read s i ≡ good x j → P x)
    → (m : ℕ) (s : S) (i : ℕ) (xs : List A) (k : ℕ) → series read next m s i ≡ good xs k → Each P xs × (length xs ≡ m)
series_each P read next h zero s i xs k e =
    let q : [] ≡ xs = cc in
    subst (λ ys. Each P ys × (length ys ≡ 0)) q (tt, refl)
series_each P read next h (suc m) s i xs k e = series_opens read next m s i xs k e λ x j rest r u q.
    let w = series_each P read next h m (next s x) j rest k u in
    subst (λ ys. Each P ys × (length ys ≡ suc m)) (sym q) ((h s i x j r, w.0), ap suc w.1)

-- the same of items that need nothing of the ones before
pub many_each : {A : Type 0} (P : A → Type 0) (read : ℕ → Out A) → ((i : ℕ) (x : A) (j : ℕ) → read i ≡ good x j → P x)
    → (m i : ℕ) (xs : List A) (k : ℕ) → many read m i ≡ good xs k → Each P xs × (length xs ≡ m)
many_each P read h m i xs k e = series_each P (λ (_ : Unit {0}). read) (λ _ _. tt) (λ _. h) m tt i xs k e
