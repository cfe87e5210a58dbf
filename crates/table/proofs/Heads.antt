-- The first tests of an entry, before those that a layer adds.
use Rattle.std.proofs.Common.{◌≡◌, ℕ, ◌+◌, Bool, true, false, ltb, List, get_or, Ok, Err, refl, ap, ◌∙◌, arith}
use Rattle.fault.specs.declared.Fault.{Fault}
use Rattle.fault.specs.Faults.{refusal}
use Rattle.fault.specs.declared.Layer.{Layer}
use Rattle.table.specs.Answers.{heading}
use Rattle.table.specs.Entries.{first}
use Rattle.table.specs.Permits.{permitted}
use Rattle.table.specs.Reading.{Entry, entry, Out, good, unless}
use Rattle.table.specs.declared.places.Place.{Place}

module _ (l : Layer) (i : ℕ) (e : Entry) (rest : Out Entry) where
  refused_by : (a b : Bool) (f : Fault) → Err f ≡ heading l (unless a 4 i (unless b 3 i (good e (i + 1)))) → Err f ≡ heading l (unless a 4 i (unless b 3 i rest))
  refused_by true true f h = cc
  refused_by true false f h = h
  refused_by false b f h = h

  passed_by : (a b : Bool) (x : Entry) → Ok x ≡ heading l (unless a 4 i (unless b 3 i (good e (i + 1)))) → (x ≡ e) × (heading l rest ≡ heading l (unless a 4 i (unless b 3 i rest)))
  passed_by true true x h = let q : x ≡ e = cc in (q, refl)
  passed_by true false x h = absurd (let z : ◌≡◌ {A = ℕ} 0 1 = cc in omega arith)
  passed_by false b x h = absurd (let z : ◌≡◌ {A = ℕ} 0 1 = cc in omega arith)

module _ (l : Layer) (n : ℕ) (ks os : List ℕ) (p : Place) (i : ℕ) (rest : Out Entry) where
  -- an entry that the first tests refuse is refused
  pub first_refused : (f : Fault) → Err f ≡ heading l (first n ks os p i) → Err f ≡ heading l (unless (ltb i n) 4 i (unless (permitted p (get_or ks i 0)) 3 i rest))
  first_refused = refused_by l i (entry (get_or ks i 0) (get_or os i 0)) rest (ltb i n) (permitted p (get_or ks i 0))

  -- of one that passes them the rest decides
  pub first_passed : (x : Entry) → Ok x ≡ heading l (first n ks os p i) → (x ≡ entry (get_or ks i 0) (get_or os i 0)) × (heading l rest ≡ heading l (unless (ltb i n) 4 i (unless (permitted p (get_or ks i 0)) 3 i rest)))
  first_passed = passed_by l i (entry (get_or ks i 0) (get_or os i 0)) rest (ltb i n) (permitted p (get_or ks i 0))

-- the tests that a layer adds: of the nesting, then of the operand
module _ (l : Layer) (n : ℕ) (ks os : List ℕ) (p : Place) (i : ℕ) (nested ranged : Entry → Bool) where
  abbrev there : Entry
  there = entry (get_or ks i 0) (get_or os i 0)

  abbrev in_range : Out Entry
  in_range = unless (ranged there) 5 i (good there (i + 1))

  abbrev pub all_tests : Out Entry
  all_tests = unless (ltb i n) 4 i (unless (permitted p (get_or ks i 0)) 3 i (unless (nested there) 6 i in_range))

  module _ (m : ℕ) (x : Entry) (whole : m ≡ n) (passed : Ok x ≡ heading l (first m ks os p i)) where
    to_nested : (x ≡ there) × (heading l (unless (nested there) 6 i in_range) ≡ heading l all_tests)
    to_nested = first_passed l n ks os p i (unless (nested there) 6 i in_range) x (passed ∙ ap (λ c. heading l (first c ks os p i)) whole)

    pub too_deep : false ≡ nested x → Err (refusal 6 l i) ≡ heading l all_tests
    too_deep h = ap (λ b. heading l (unless b 6 i in_range)) (h ∙ ap nested to_nested.0) ∙ to_nested.1

    module _ (shallow : true ≡ nested x) where
      to_range : heading l in_range ≡ heading l all_tests
      to_range = ap (λ b. heading l (unless b 6 i in_range)) (shallow ∙ ap nested to_nested.0) ∙ to_nested.1

      pub out_of_range : false ≡ ranged x → Err (refusal 5 l i) ≡ heading l all_tests
      out_of_range h = ap (λ b. heading l (unless b 5 i (good there (i + 1)))) (h ∙ ap ranged to_nested.0) ∙ to_range

      pub in_order : true ≡ ranged x → Ok x ≡ heading l all_tests
      in_order h =
          ap Ok to_nested.0
          ∙ ap (λ b. heading l (unless b 5 i (good there (i + 1)))) (h ∙ ap ranged to_nested.0)
          ∙ to_range
