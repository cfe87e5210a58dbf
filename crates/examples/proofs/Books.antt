-- Opening, by computing.
use Rattle.std.proofs.Common.{◌≡◌, ℕ, zero, suc, ◌<◌, [], ◌∷◌, slice_index, slice_index_or, List, inl, inr, refl, ap, arith}
use Rattle.model.specs.Trees.{Name}
use Rattle.model.specs.Worked.{name}
use Rattle.model.specs.Lists.{In}
use Rattle.book.specs.Reads.{book, ground, objects}
use Rattle.book.specs.Groups.{Rises}
use Rattle.book.specs.Opens.{book_of}
use Rattle.book_theorems.proofs.Sound.{what_opens_was_written}
use Rattle.worked.proofs.Cases.{come_out}
use Rattle.worked.specs.Tables.{book_table}
use Rattle.examples.specs.Opening.{OpeningByExample, FindingByExample}

pub opening : OpeningByExample
unfolding book ground objects
opening = record {
  good = refl;
  too_many_listed = refl;
  operands_short = refl;
  not_permitted = refl;
  too_few = refl;
  too_many = refl;
  no_fact = refl;
  too_many_objects = refl;
  too_deep = refl;
  deep_enough = refl;
  atoms_fall = refl;
  atom_twice = refl;
  name_twice = refl;
  written = λ c. what_opens_was_written (book_table c).sizes (book_table c).kinds (book_table c).operands (come_out c).opens;
}

-- names with another first object differ
apart : (x y : ℕ) (xs ys : List ℕ) → name 0 (x ∷ xs) ≡ name 0 (y ∷ ys) → x ≡ y
apart x y xs ys e = ap (λ (m : Name). slice_index m.objects 0) e

last_apart : (x y z w : ℕ) → name 0 (x ∷ y ∷ []) ≡ name 0 (z ∷ w ∷ []) → y ≡ w
last_apart x y z w e = ap (λ (m : Name). slice_index m.objects 1) e

-- of the names 0, 1 and 1, 0 only the second is 1, 0
only_second : (k : ℕ) → k < 2 → slice_index_or (name 0 (0 ∷ 1 ∷ []) ∷ name 0 (1 ∷ 0 ∷ []) ∷ []) k (name 0 (1 ∷ 0 ∷ [])) ≡ name 0 (1 ∷ 0 ∷ []) → k ≡ 1
only_second zero l e = absurd (omega (arith, apart 0 1 _ _ e))
only_second (suc zero) l e = refl
only_second (suc (suc k)) l e = absurd (omega arith)

-- and none is 1, 1
none_twice : In (name 0 (1 ∷ 1 ∷ [])) (name 0 (0 ∷ 1 ∷ []) ∷ name 0 (1 ∷ 0 ∷ []) ∷ []) → ⊥
none_twice (inl e) = absurd (omega (arith, apart 1 0 _ _ e))
none_twice (inr (inl e)) = absurd (omega (arith, last_apart 1 1 1 0 e))
none_twice (inr (inr h)) = h

rise : Rises (0 ∷ 2 ∷ [])
rise zero (suc zero) h l = omega arith
rise zero zero h l = absurd (omega arith)
rise (suc i) zero h l = absurd (omega arith)
rise (suc i) (suc j) h l = absurd (omega arith)
rise zero (suc (suc j)) h l = absurd (omega arith)

pub finding : FindingByExample
unfolding book ground objects
finding = record {
  number = refl;
  no_number = refl;
  tells = (omega arith, refl, only_second);
  not_first = λ t. absurd (omega (arith, apart 0 1 _ _ t.1));
  tells_none = none_twice;
  not_none = λ h. h (inr (inl refl));
  stands = refl;
  begin = refl;
  place = refl;
  held_book = λ b same. ap book_of same;
  blank_book = refl;
  is_fact = refl;
  no_fact = refl;
  rise = rise;
  rise_not = λ r. absurd (omega (arith, r 0 1 (omega arith) (omega arith)));
}
