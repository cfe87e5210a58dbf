-- Reading a table entry by entry: the first fault, or what was read and the place after it.
use Rattle.std.specs.Prelude.{ℕ, zero, suc, Bool, cond, List, [], ◌∷◌}

-- a kind and an operand
pub record Entry : Type 0 where
  pub kind : ℕ
  pub operand : ℕ

abbrev pub entry : ℕ → ℕ → Entry
entry k o = record { kind = k; operand = o }

-- what reading from a place gives
pub data Out (A : Type 0) : Type 0 where
  -- the number of the first fault, and its place
  bad : ℕ → ℕ → Out A
  -- what was read, and the place after it
  good : A → ℕ → Out A

-- read on, after what was read
abbrev pub then : {A B : Type 0} → Out A → (A → ℕ → Out B) → Out B
then (bad n p) f = bad n p
then (good a j) f = f a j

-- unless the test passes, the fault with number n at place i
abbrev pub unless : {A : Type 0} → Bool → ℕ → ℕ → Out A → Out A
unless passes n i out = cond passes out (bad n i)

-- m items one after the other, each read in the light of what came before
abbrev pub series : {A S : Type 0} → (S → ℕ → Out A) → (S → A → S) → ℕ → S → ℕ → Out (List A)
series read next zero s i = good [] i
series read next (suc m) s i =
    then (read s i) λ a j. then (series read next m (next s a) j) λ rest k. good (a ∷ rest) k

-- m items one after the other
abbrev pub many : {A : Type 0} → (ℕ → Out A) → ℕ → ℕ → Out (List A)
many read m i = series (λ (_ : Unit {0}). read) (λ _ _. tt) m tt i

-- the place after what was read, or that of the fault
abbrev pub next_place : {A : Type 0} → Out A → ℕ
next_place (bad n p) = p
next_place (good a j) = j

-- where each of m items begins
abbrev pub starts : {A : Type 0} → (ℕ → Out A) → ℕ → ℕ → List ℕ
starts read zero i = []
starts read (suc m) i = i ∷ starts read m (next_place (read i))
