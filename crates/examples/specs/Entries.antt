-- Kinds and places of a table, powers, and entries as they are read.
use Rattle.std.specs.Prelude.{◌≡◌, ℕ, true, false, List, [], ◌∷◌, Ok, Err}
use Rattle.fault.specs.declared.Layer.TheVariants.{Task, Book}
use Rattle.fault.specs.Faults.{refusal}
use Rattle.table.specs.Kinds.{code_of}
use Rattle.table.specs.Permits.{permitted}
use Rattle.table.specs.Powers.{right}
use Rattle.table.specs.Reading.{entry, bad, good}
use Rattle.table.specs.Answers.{heading, lengths_fit, whether}
use Rattle.table.specs.Entries.{first, all_coded, Holds}
use Rattle.table.specs.declared.arrays.Entries.{Entries}
use Rattle.table.specs.declared.kind.Kind.TheVariants as kind
use Rattle.table.specs.declared.places.Place.TheVariants as place

pub record EntriesByExample : Type 0 where
  pub code : code_of kind.When ≡ 12
  -- WHEN may begin an effect, and not what a WHEN brings about
  pub may_stand : permitted place.Effect 12 ≡ true
  pub may_not : permitted place.Consequent 12 ≡ false
  -- 32 to the power 3 stands at 163
  pub power : right 163 32768 ≡ true
  pub no_power : right 163 32767 ≡ false
  -- of two entries, TYPE 3 and ATOM 0, the first may stand where a type is wanted; the second may not; there is no third
  pub at_first : first 2 (14 ∷ 2 ∷ []) (3 ∷ 0 ∷ []) place.TypeSet 0 ≡ good (entry 14 3) 1
  pub at_second : first 2 (14 ∷ 2 ∷ []) (3 ∷ 0 ∷ []) place.TypeSet 1 ≡ bad 3 1
  pub at_third : first 2 (14 ∷ 2 ∷ []) (3 ∷ 0 ∷ []) place.TypeSet 2 ≡ bad 4 2
  -- a value that holds one entry, and not two
  pub held : (e : Entries) → e.count ≡ 1 → e.kinds.now ≡ 14 ∷ [] → e.operands.now ≡ 3 ∷ [] → Holds 1 (14 ∷ []) (3 ∷ []) e
  pub held_not : (e : Entries) (ks os : List ℕ) → e.count ≡ 1 → Holds 2 ks os e → ⊥
  -- as the code answers it
  pub read : heading Task (good (entry 14 3) 1) ≡ Ok (entry 14 3)
  pub refused : heading Book (bad 3 1) ≡ Err (refusal 3 Book 1)
  pub coded : all_coded (Ok (record { kind = kind.When; operand = 0 })) ≡ Ok (entry 12 0)
  pub whether_read : whether (Ok (entry 14 3)) ≡ Ok tt
  -- arrays for three entries, of which the first, or the second, is too short
  pub kinds_short : lengths_fit Task 3 (0 ∷ 0 ∷ []) (0 ∷ []) ≡ Err (refusal 2 Task 2)
  pub operands_short : lengths_fit Task 3 (0 ∷ 0 ∷ 0 ∷ []) (0 ∷ []) ≡ Err (refusal 2 Task 1)
  pub long_enough : lengths_fit Task 1 (0 ∷ 0 ∷ []) (0 ∷ []) ≡ Ok tt
