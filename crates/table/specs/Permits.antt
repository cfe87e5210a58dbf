-- Which kinds may stand at which place.
use Rattle.std.specs.Prelude.{ℕ, Bool, ◌||◌, ◌==◌, nat_le}
use Rattle.table.specs.declared.places.Place.{Place}
use Rattle.table.specs.declared.places.Place.TheVariants.{TypeSet, Predicate, Fact, Operator, Parameter, Formula, Term, Effect, Consequent, Negated, Relevant, Always, Ground, Action, Clauses, Clause, Literals, Literal, NegatedFact}

-- whether the kind with code k may stand at a place
abbrev pub permitted : Place → ℕ → Bool
permitted TypeSet k = k == 14
permitted Predicate k = k == 15
permitted Fact k = k == 2
permitted Operator k = k == 16
permitted Parameter k = k == 17
permitted Formula k = nat_le k 9
permitted Term k = k == 10 || k == 11
permitted Effect k = k == 2 || k == 4 || k == 5 || k == 8 || k == 12
permitted Consequent k = k == 2 || k == 4 || k == 5
permitted Negated k = k == 2
permitted Relevant k = k == 19 || k == 20
permitted Always k = k == 21
permitted Ground k = k == 0 || k == 1 || k == 4 || k == 5 || k == 6 || k == 13
permitted Action k = k == 18
permitted Clauses k = k == 5
permitted Clause k = k == 4 || k == 12 || k == 13
permitted Literals k = k == 5
permitted Literal k = k == 4 || k == 13
permitted NegatedFact k = k == 13
