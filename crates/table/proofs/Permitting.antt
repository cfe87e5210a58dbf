-- What no place permits.
use Rattle.std.proofs.Common.{◌≡◌, ℕ, ◌<◌, ◌≤◌, false, eqb, arith}
use Rattle.std.proofs.lemmas.Bool.{lt-leb, ne_eqb, or_from}
use Rattle.table.specs.Permits.{permitted}
use Rattle.table.specs.declared.places.Place.{Place}
use Rattle.table.specs.declared.places.Place.TheVariants.{TypeSet, Predicate, Fact, Operator, Parameter, Formula, Term, Effect, Consequent, Negated, Relevant, Always, Ground, Action, Clauses, Clause, Literals, Literal, NegatedFact}

-- a number above all codes is none of them
beyond : (k c : ℕ) → c < 22 → 22 ≤ k → eqb k c ≡ false
beyond k c h g = ne_eqb k c (λ e. omega (arith, e))

-- a number that is no kind's code is permitted nowhere
pub no_kind_permitted : (p : Place) (k : ℕ) → 22 ≤ k → permitted p k ≡ false
no_kind_permitted TypeSet k h = beyond k 14 (omega arith) h
no_kind_permitted Predicate k h = beyond k 15 (omega arith) h
no_kind_permitted Fact k h = beyond k 2 (omega arith) h
no_kind_permitted Operator k h = beyond k 16 (omega arith) h
no_kind_permitted Parameter k h = beyond k 17 (omega arith) h
no_kind_permitted Formula k h = lt-leb k 9 (omega arith)
no_kind_permitted Term k h = or_from _ _ (beyond k 10 (omega arith) h) (beyond k 11 (omega arith) h)
no_kind_permitted Effect k h = or_from _ _ (or_from _ _ (or_from _ _ (or_from _ _ (beyond k 2 (omega arith) h) (beyond k 4 (omega arith) h)) (beyond k 5 (omega arith) h)) (beyond k 8 (omega arith) h)) (beyond k 12 (omega arith) h)
no_kind_permitted Consequent k h = or_from _ _ (or_from _ _ (beyond k 2 (omega arith) h) (beyond k 4 (omega arith) h)) (beyond k 5 (omega arith) h)
no_kind_permitted Negated k h = beyond k 2 (omega arith) h
no_kind_permitted Relevant k h = or_from _ _ (beyond k 19 (omega arith) h) (beyond k 20 (omega arith) h)
no_kind_permitted Always k h = beyond k 21 (omega arith) h
no_kind_permitted Ground k h = or_from _ _ (or_from _ _ (or_from _ _ (or_from _ _ (or_from _ _ (beyond k 0 (omega arith) h) (beyond k 1 (omega arith) h)) (beyond k 4 (omega arith) h)) (beyond k 5 (omega arith) h)) (beyond k 6 (omega arith) h)) (beyond k 13 (omega arith) h)
no_kind_permitted Action k h = beyond k 18 (omega arith) h
no_kind_permitted Clauses k h = beyond k 5 (omega arith) h
no_kind_permitted Clause k h = or_from _ _ (or_from _ _ (beyond k 4 (omega arith) h) (beyond k 12 (omega arith) h)) (beyond k 13 (omega arith) h)
no_kind_permitted Literals k h = beyond k 5 (omega arith) h
no_kind_permitted Literal k h = or_from _ _ (beyond k 4 (omega arith) h) (beyond k 13 (omega arith) h)
no_kind_permitted NegatedFact k h = beyond k 13 (omega arith) h
