-- What the code answers where a table is read: the first fault, which arose in some layer, or the place after what was read.
use Rattle.std.specs.Prelude.{ℕ, Bool, true, false, cond, List, length, Ok, Err, Result, nat_lt}
use Rattle.fault.specs.declared.Fault.{Fault}
use Rattle.fault.specs.declared.Layer.{Layer}
use Rattle.fault.specs.Faults.{refusal}
use Rattle.table.specs.Reading.{Entry, Out, bad, good}

-- nothing but whether it went well
abbrev pub Answer : Type 0
Answer = Result (Unit {0}) Fault

-- the place after what was read, or the fault
abbrev pub answer : {A : Type 0} → Layer → Out A → Result ℕ Fault
answer l (bad n p) = Err (refusal n l p)
answer l (good x j) = Ok j

-- the entry that was read, or the fault
abbrev pub heading : Layer → Out Entry → Result Entry Fault
heading l (bad n p) = Err (refusal n l p)
heading l (good e j) = Ok e

-- whether all was read, or the fault
abbrev pub done : {A : Type 0} → Layer → Out A → Answer
done l (bad n p) = Err (refusal n l p)
done l (good x j) = Ok tt

-- if the test passes, the fault with number n at place p
abbrev pub refuse_if : Layer → Bool → ℕ → ℕ → Answer → Answer
refuse_if l test n p rest = cond test (Err (refusal n l p)) rest

-- after an answer that is no refusal
abbrev pub and_then : Answer → Answer → Answer
and_then (Ok u) next = next
and_then (Err f) next = Err f

-- it went well
abbrev pub is_good : {A : Type 0} → Out A → Bool
is_good (bad n p) = false
is_good (good x j) = true

-- each array has at least as many places as there are entries, kinds first
abbrev pub lengths_fit : Layer → ℕ → List ℕ → List ℕ → Answer
lengths_fit l e ks os = refuse_if l (nat_lt (length ks) e) 2 (length ks) (refuse_if l (nat_lt (length os) e) 2 (length os) (Ok tt))

-- nothing but whether there is a value
abbrev pub whether : {A : Type 0} → Result A Fault → Answer
whether (Ok x) = Ok tt
whether (Err f) = Err f
