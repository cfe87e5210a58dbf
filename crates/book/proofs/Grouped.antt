-- The two groups of atoms of a book that stands in its table.
use Rattle.std.proofs.Common.{◌≡◌, ℕ, suc, ◌+◌, ◌-◌, ◌≤◌, Bool, true, false, cond, eqb, List, [], ◌∷◌, map, length, take, drop, Some, None, sym, ap, ◌∙◌, subst, arith}
use Rattle.std.proofs.lemmas.List.{length-take-le}
use Rattle.std.specs.List.{between}
use Rattle.model.specs.Lists.{has, position}
use Rattle.model.specs.Books.{Start}
use Rattle.book.specs.Tables.{Table, most_levels}
use Rattle.book.specs.Reads.{goal_place, actions_place}
use Rattle.book.specs.Opens.{accepted, book_of}
use Rattle.book.specs.Finds.{fact_of}
use Rattle.book.specs.Groups.{Rises}
use Rattle.book.proofs.Atoms.{rises}
use Rattle.book.proofs.Reaching.{ground_reaches}
use Rattle.book.proofs.Standing.{stands, opened}
use Rattle.book.proofs.WellFormed.{atoms_rise, always_risen}

-- a place that a search gives is not past the list
one_more : (b : Bool) (p n : ℕ) → p ≤ n → cond b 0 (suc p) ≤ suc n
one_more true p n h = omega arith
one_more false p n h = omega arith

position_small : (x : ℕ) (xs : List ℕ) → position x xs ≤ length xs
position_small x [] = omega arith
position_small x (y ∷ ys) = one_more (eqb x y) (position x ys) (length ys) (position_small x ys)

small_by : (b : Bool) (p q n : ℕ) → q ≤ n → Some p ≡ cond b (Some q) None → p ≤ n
small_by true p q n h e = let z : p ≡ q = cc in omega arith
small_by false p q n h e = absurd (let z : ◌≡◌ {A = ℕ} 0 1 = cc in omega arith)

pub found_small : (xs : List ℕ) (x p : ℕ) → Some p ≡ cond (has x xs) (Some (position x xs)) None → p ≤ length xs
found_small xs x p e = small_by (has x xs) p (position x xs) (length xs) (position_small x xs) e

module _ (t : Table) (h : accepted t ≡ true) (long : t.entries ≤ length t.operands) where
  -- both groups stand among the operands
  pub groups_inside : t.relevant + t.always ≤ length t.operands
  groups_inside =
      let o = opened t h long in
      let w = ground_reaches t most_levels (goal_place t) (book_of t).goal (actions_place t) o.goal in
      omega (arith, w.0, w.1)

  abbrev first_group : List ℕ
  first_group = take t.relevant t.operands

  abbrev second_group : List ℕ
  second_group = between t.relevant (t.relevant + t.always) t.operands

  first_is : first_group ≡ map (λ (s : Start). s.atom) (book_of t).relevant
  first_is = sym (opened t h long).listed

  second_is : second_group ≡ (book_of t).always
  second_is =
      let n : t.relevant + t.always - t.relevant ≡ t.always = omega arith in
      ap (λ m. take m (drop t.relevant t.operands)) n ∙ sym (opened t h long).always

  pub relevant_rises : Rises first_group
  relevant_rises =
      let r = atoms_rise t t.relevant 0 0 (book_of t).relevant t.relevant (stands t h).starts in
      subst (λ xs. Rises xs) (sym first_is) (rises (map (λ (s : Start). s.atom) (book_of t).relevant) r.rise)

  pub always_rises : Rises second_group
  always_rises =
      let r = always_risen t t.always 0 t.relevant (book_of t).always (goal_place t) (stands t h).always in
      subst (λ xs. Rises xs) (sym second_is) (rises (book_of t).always r.rise)

  -- a search in the first group gives the fact, one in the second whether the atom is always true
  pub fact_is : (x : ℕ) → cond (has x first_group) (Some (position x first_group)) None ≡ fact_of (book_of t) x
  fact_is x = ap (λ xs. cond (has x xs) (Some (position x xs)) None) first_is

  pub always_is : (x : ℕ) → has x second_group ≡ has x (book_of t).always
  always_is x = ap (has x) second_is

  -- a fact is below the number of relevant atoms, or that number
  pub fact_small : (x p : ℕ) → Some p ≡ cond (has x first_group) (Some (position x first_group)) None → p ≤ t.relevant
  fact_small x p e =
      let g = groups_inside in
      let l = length-take-le t.relevant t.operands (omega arith) in
      omega (arith, found_small first_group x p e, l)
