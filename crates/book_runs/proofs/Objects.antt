-- The objects of a name, one after the other.
use Rattle.std.proofs.Common.{◌≡◌, ℕ, zero, suc, ◌+◌, ◌<◌, true, false, eqb, ltb, List, [], ◌∷◌, get_or, sym, ap, ◌∙◌}
use Rattle.std.proofs.lemmas.Bool.{cond-true, cond-false, and_parts, ltb-true}
use Rattle.table.specs.Answers.{is_good}
use Rattle.table.specs.Reading.{Out, bad, good, then, unless, next_place}
use Rattle.book.specs.Tables.{Table, most_names}
use Rattle.book.specs.Reads.{is_object, objects}
use Rattle.book_runs.proofs.Reading.{not_good, passed, first_good, same_end}

module _ (t : Table) where
  -- an object, and then the others
  pub object_more : (m i : ℕ) → is_good (objects t m i) ≡ true → is_object t i ≡ true
      → (n : ℕ) × (is_good (objects t n (i + 1)) ≡ true) × (next_place (objects t n (i + 1)) ≡ next_place (objects t m i))
  unfolding objects
  object_more zero i h e = not_good (List ℕ) 5 i (ap is_good (sym (cond-true (is_object t i) (bad 5 i) (good [] i) e)) ∙ h)
  object_more (suc room) i h e =
      let x = get_or t.operands i 0 in
      let o = objects t room (i + 1) in
      let f : List ℕ → ℕ → Out (List ℕ) = λ os j. good (x ∷ os) j in
      let u = unless (ltb x most_names) 5 i (then o f) in
      let c : objects t (suc room) i ≡ u = cond-true (is_object t i) u (good [] i) e in
      let w = passed (ltb x most_names) 5 i (then o f) (ap is_good (sym c) ∙ h) in
      (room, first_good o f (ap is_good (sym (c ∙ w.1)) ∙ h), sym (ap (λ (y : Out (List ℕ)). next_place y) (c ∙ w.1) ∙ same_end (λ os. x ∷ os) o))

  -- where no object stands, the name ends
  pub objects_end : (m i : ℕ) → is_object t i ≡ false → i ≡ next_place (objects t m i)
  unfolding objects
  objects_end zero i e = sym (ap (λ (o : Out (List ℕ)). next_place o) (cond-false (is_object t i) (bad 5 i) (good [] i) e))
  objects_end (suc m) i e =
      sym (ap (λ (o : Out (List ℕ)). next_place o)
      (cond-false (is_object t i) (unless (ltb (get_or t.operands i 0) most_names) 5 i (then (objects t m (i + 1)) λ os j. good (get_or t.operands i 0 ∷ os) j)) (good [] i) e))

  pub object_inside : (i : ℕ) → is_object t i ≡ true → i < t.entries
  object_inside i e = ltb-true _ _ (and_parts (ltb i t.entries) (eqb (get_or t.kinds i 0) 10) e).0
