-- Sets of facts, and what the calls of a store do to them.
use Rattle.std.specs.Prelude.{ℕ, Bool, true, false, cond, List, [], ◌∷◌, ◌++◌, map, length, drop, Ok, Err, Result, ◌==◌, nat_lt}
use Rattle.std.specs.List.{range_with_len}
use Rattle.fault.specs.declared.Fault.{Fault}
use Rattle.fault.specs.declared.Layer.TheVariants.{Run, Store}
use Rattle.fault.specs.Faults.{refusal}
use Rattle.model.specs.Meaning.{State}

-- the empty set
abbrev pub none : State
none = λ _. false

-- the set with k, or without it
abbrev pub with_fact : State → ℕ → Bool → State
with_fact s k present = λ j. cond (j == k) present (s j)

-- what a store of that size answers of k
abbrev pub answered : {X : Type 0} → ℕ → ℕ → X → Result X Fault
answered size k x = cond (nat_lt k size) (Ok x) (Err (refusal 31 Store k))

-- what a store of that size answers to a call that needs n places
abbrev pub placed : ℕ → ℕ → Result (Unit {0}) Fault
placed size n = cond (nat_lt size n) (Err (refusal 21 Run n)) (Ok tt)

-- the set after a put to a store of that size
abbrev pub after_put : ℕ → State → ℕ → Bool → State
after_put size s k present = cond (nat_lt k size) (with_fact s k present) s

-- the set after puts of one number after another, up to the first that is refused
abbrev pub put_all : ℕ → State → List ℕ → State
put_all size s [] = s
put_all size s (x ∷ xs) = cond (nat_lt x size) (put_all size (with_fact s x true) xs) s

-- what such puts answer
abbrev pub answered_all : ℕ → List ℕ → Result (Unit {0}) Fault
answered_all size [] = Ok tt
answered_all size (x ∷ xs) = cond (nat_lt x size) (answered_all size xs) (Err (refusal 31 Store x))

-- the image of a set: a byte 0 or 1 for each number below n, the rest as it was
abbrev pub pictured : ℕ → State → List ℕ → List ℕ
pictured n s old = map (λ k. cond (s k) 1 0) (range_with_len 0 n) ++ drop n old

-- an image after a copy of the first n facts of a store of that size
abbrev pub after_copy : ℕ → ℕ → State → List ℕ → List ℕ
after_copy size n s old = cond (nat_lt size n) old (cond (nat_lt (length old) n) old (pictured n s old))

-- what a copy of the first n facts answers, for a store of that size and an image of that length
abbrev pub copied : ℕ → ℕ → ℕ → Result (Unit {0}) Fault
copied size len n = cond (nat_lt size n) (Err (refusal 21 Run n)) (cond (nat_lt len n) (Err (refusal 22 Run n)) (Ok tt))
