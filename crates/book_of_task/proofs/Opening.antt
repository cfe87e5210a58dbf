-- The book of a task within the limits of a task table is within the limits of a book table, and opens.
use Rattle.std.proofs.Common.{◌≡◌, ℕ, zero, suc, ◌+◌, ◌<◌, ◌≤◌, Bool, true, false, cond, List, [], ◌∷◌, ◌++◌, map, length, get_or, subst, sym, refl, inl, inr, arith, length-append}
use Rattle.std.proofs.lemmas.Bool.{ltb-true, and_parts}
use Rattle.model.specs.Lists.{In, gather}
use Rattle.model.specs.Trees.{Formula, constant, atom, equal, negation, junction, implication, quantifier, Formulas, none, more, Change, Consequent, outcome, outcomes, Effect, change, conjunction, for_each, Effects, no_effect, and, Operator, Task, Name, members}
use Rattle.model.specs.Trees as tree
use Rattle.model.specs.Forming.{Each}
use Rattle.model.specs.Meaning.{bind, nothing, operator_of, fits, Literal, Part, parts, all_parts, precondition_of}
use Rattle.model.specs.Settling.{Ground, Round, is, simplify, names, round_two}
use Rattle.model.specs.Books.{plain, when, Action, Book, on_facts, under, clauses, action, actions, book}
use Rattle.model.specs.Opening.{KnownAction, WellFormedBook, levels, levels_all, ground_levels}
use Rattle.model.proofs.Members.{suits_typed, each_in, keep_out, map_out, in_fits}
use Rattle.model.proofs.Numbers.{typed_within}
use Rattle.model.proofs.Opening.{books_formed, stays_shallow}
use Rattle.adl_theorems.specs.Writes.{write_formula, write_formulas, write_change, write_consequent, write_effect, write_effects, SmallOperator}
use Rattle.adl_theorems.specs.Writes as task_limits
use Rattle.book.specs.Tables.{most_levels, most_names}
use Rattle.book_theorems.specs.Writes.{write_action, write_book, ShallowClause, SmallAction, WithinLimits}
use Rattle.book_theorems.specs.Theorems as book_theorems
use Rattle.book_theorems.proofs.Complete.{what_is_written_opens}
use Rattle.book_of_task.specs.Opening.{BooksOfTasksOpen}

-- What holds of each element of a list.

-- what follows from standing in the list
each_from : {A : Type 0} (P : A → Type 0) (xs : List A) → ((x : A) → In x xs → P x) → Each P xs
each_from P [] h = tt
each_from P (x ∷ xs) h = (h x (inl refl), each_from P xs (λ y i. h y (inr i)))

-- what follows from something that holds of each
each_more : {A : Type 0} (P Q : A → Type 0) → ((x : A) → P x → Q x) → (xs : List A) → Each P xs → Each Q xs
each_more P Q h xs e = each_from Q xs (λ x i. h x (each_in P x xs e i))

-- of the elements of two lists together
each_append : {A : Type 0} (P : A → Type 0) (xs ys : List A) → Each P xs → Each P ys → Each P (xs ++ ys)
each_append P [] ys h k = k
each_append P (x ∷ xs) ys h k = (h.0, each_append P xs ys h.1 k)

-- of what is made of each element
each_gather : {A B : Type 0} (P : B → Type 0) (f : A → List B) (xs : List A) → ((x : A) → In x xs → Each P (f x)) → Each P (gather f xs)
each_gather P f [] h = tt
each_gather P f (x ∷ xs) h = each_append P (f x) (gather f xs) (h x (inl refl)) (each_gather P f xs (λ y i. h y (inr i)))

-- Levels and entries.

-- each level of a formula has an entry
mutual
  levels_written : (f : Formula) → levels f ≤ length (write_formula f)
  levels_written (constant b) = omega arith
  levels_written (atom p ts) = omega arith
  levels_written (equal x y) = omega arith
  levels_written (negation f) = let a = levels_written f in omega (arith, a)
  levels_written (junction j fs) = let a = all_levels_written fs in omega (arith, a)
  levels_written (implication f g) =
      let a = levels_written f in
      let b = levels_written g in
      let both = length-append (write_formula f) (write_formula g) in
      omega (arith, a, b, both)
  levels_written (quantifier j ty f) = let a = levels_written f in omega (arith, a)

  all_levels_written : (fs : Formulas) → levels_all fs ≤ length (write_formulas fs)
  all_levels_written none = omega arith
  all_levels_written (more f fs) =
      let a = levels_written f in
      let b = all_levels_written fs in
      let both = length-append (write_formula f) (write_formulas fs) in
      omega (arith, a, b, both)

-- a formula of at most 256 entries becomes one that is not nested too deep
simplified_fits : (t : Task) (r : Round) (sheet : List ℕ) (f : Formula) → length (write_formula f) ≤ 256 → ground_levels (simplify t r sheet f) ≤ most_levels
simplified_fits t r sheet f short =
    let a = stays_shallow t r sheet f in
    let b = levels_written f in
    omega (arith, a, b, short)

-- what a WHEN brings about has an entry
consequent_written : (c : Consequent) → 0 < length (write_consequent c)
consequent_written (outcome c) = by_sign c.adds
  where
    by_sign : (adds : Bool) → 0 < length (write_change (record { adds = adds; predicate = c.predicate; terms = c.terms }))
    by_sign true = omega arith
    by_sign false = omega arith
consequent_written (outcomes cs) = omega arith

-- a condition in an effect leaves at least two of its entries to others: WHEN, and the first of what it brings about
module _ (t : Task) (n : ℕ) (some : 1 ≤ n) where
  abbrev Conditioned : Part → Type 0
  Conditioned p = levels p.condition ≤ n

  mutual
    conditioned : (sheet : List ℕ) (e : Effect) → length (write_effect e) ≤ n + 2 → Each Conditioned (parts t sheet e)
    conditioned sheet (change c) short = (some, tt)
    conditioned sheet (conjunction es) short = all_conditioned sheet es (omega (arith, short))
    conditioned sheet (for_each ty e) short = each_gather Conditioned (λ o. parts t (bind sheet o) e) (members t ty) (λ o _. conditioned (bind sheet o) e (omega (arith, short)))
    conditioned sheet (tree.when f c) short =
        let a = levels_written f in
        let b = consequent_written c in
        let both = length-append (write_formula f) (write_consequent c) in
        (omega (arith, a, b, both, short), tt)

    all_conditioned : (sheet : List ℕ) (es : Effects) → length (write_effects es) ≤ n + 2 → Each Conditioned (all_parts t sheet es)
    all_conditioned sheet no_effect short = tt
    all_conditioned sheet (and e es) short =
        let both = length-append (write_effect e) (write_effects es) in
        each_append Conditioned (parts t sheet e) (all_parts t sheet es)
        (conditioned sheet e (omega (arith, both, short)))
        (all_conditioned sheet es (omega (arith, both, short)))

-- Actions.

-- literals without a condition
plain_shallow : (ls : List Literal) → Each ShallowClause (map plain ls)
plain_shallow [] = tt
plain_shallow (l ∷ ls) = (tt, plain_shallow ls)

-- literals under a shallow condition
under_shallow : (g : Ground) (ls : List Literal) → ground_levels g ≤ 511 → Each ShallowClause (under g ls)
under_shallow g [] h = tt
under_shallow g (l ∷ ls) h = by_tests (is false g) (is true g)
  where
    by_tests : (dropped freed : Bool) → Each ShallowClause (cond dropped [] (cond freed (map plain (l ∷ ls)) (when g (l ∷ ls) ∷ [])))
    by_tests true freed = tt
    by_tests false true = plain_shallow (l ∷ ls)
    by_tests false false = (h, tt)

-- an effect of at most 256 entries has conditions of at most 254 levels, and simplifying at most doubles them
clauses_shallow : (t : Task) (r : Round) (sheet : List ℕ) (e : Effect) → length (write_effect e) ≤ 256 → Each ShallowClause (clauses t r (parts t sheet e))
clauses_shallow t r sheet e short =
    let conditions = conditioned t 254 (omega arith) sheet e short in
    each_gather ShallowClause (λ p. under (simplify t r p.sheet p.condition) (on_facts r p.literals)) (parts t sheet e) (λ p i.
    let a = stays_shallow t r p.sheet p.condition in
    let b : levels p.condition ≤ 254 = each_in (λ q. levels q.condition ≤ 254) p (parts t sheet e) conditions i in
    under_shallow (simplify t r p.sheet p.condition) (on_facts r p.literals) (omega (arith, a, b)))

-- an operator with a number below their count stands among them
operator_in : (ops : List Operator) (i : ℕ) → i < length ops → In (get_or ops i nothing) ops
operator_in [] i h = let z : ⊥ = omega arith in absurd z
operator_in (a ∷ rest) zero h = inl refl
operator_in (a ∷ rest) (suc i) h = inr (operator_in rest i (omega arith))

-- the action of a name that fits is small, since the operator is
action_small : (t : Task) (r : Round) (m : Name) → Each SmallOperator t.operators → fits t m ≡ true → SmallAction (action t r m)
action_small t r m small fit =
    let w = and_parts _ _ fit in
    let o : SmallOperator (operator_of t m.operator) = each_in SmallOperator (operator_of t m.operator) t.operators small (operator_in t.operators m.operator (ltb-true _ _ w.0)) in
    let as_many = (typed_within t (operator_of t m.operator).parameters m.objects (suits_typed t m.operator m.objects w.1)).1 in
    let few = o.parameters in
    record {
      objects = omega (arith, as_many, few);
      precondition = simplified_fits t r m.objects (precondition_of t m) o.precondition.0;
      effect = clauses_shallow t r m.objects (operator_of t m.operator).effect o.effect.0;
    }

-- each action of a book comes from a name that fits
from_name : (t : Task) (r : Round) (P : Action → Type 0) → ((m : Name) → fits t m ≡ true → P (action t r m)) → Each P (actions t r (names t))
from_name t r P h = each_from P (actions t r (names t)) (λ a i.
    let among = keep_out _ a (map (action t r) (names t)) i in
    let named = map_out (action t r) a (names t) among.0 in
    subst P (sym named.2) (h named.0 (in_fits t named.0 named.1)))

-- each action has an entry
actions_written : (xs : List Action) → length xs ≤ length (gather write_action xs)
actions_written [] = omega arith
actions_written (a ∷ rest) =
    let more_actions = actions_written rest in
    let both = length-append (write_action a) (gather write_action rest) in
    omega (arith, more_actions, both)

-- so a book has no more actions than entries
few_actions : (b : Book) → length b.actions ≤ length (write_book b)
unfolding write_book
few_actions b = let a = actions_written b.actions in simp length-append (omega (arith, a))

-- The whole book.

-- a book of a few objects and operators is one of more
wider : (n o : ℕ) (b : Book) → n ≤ most_names → o ≤ most_names → WellFormedBook n o b → book_theorems.WellFormed b
wider n o b few_objects few_operators w = record {
  relevant_within = w.relevant_within;
  relevant_rise = w.relevant_rise;
  always_within = w.always_within;
  always_rise = w.always_rise;
  apart = w.apart;
  few = w.few;
  goal = w.goal;
  actions = each_more (KnownAction (length b.relevant) n o) (KnownAction (length b.relevant) most_names most_names) (λ a k. record {
    operator = let h = k.operator in omega (arith, h, few_operators);
    objects = each_more (λ x. x < n) (λ x. x < most_names) (λ x h. omega (arith, h, few_objects)) a.name.objects k.objects;
    precondition = k.precondition;
    effect = k.effect;
  }) b.actions w.actions;
  names_rise = w.names_rise;
}

-- the book is within the limits: its atoms are the task's, and its actions and its goal are as shown above
book_within : (t : Task) → task_limits.WithinLimits t → length (write_book (book t)) ≤ 1048576 → WithinLimits (book t)
book_within t limits short = record {
  atoms = limits.few_atoms;
  actions = let a = few_actions (book t) in omega (arith, a, short);
  entries = short;
  goal = simplified_fits t (round_two t) [] t.goal limits.goal.0;
  each_action = from_name t (round_two t) SmallAction (λ m fit. action_small t (round_two t) m limits.each_operator fit);
}

-- a well-formed book within the limits opens
pub books_of_tasks_open : BooksOfTasksOpen
books_of_tasks_open t formed limits short z ks os written kinds operands =
    what_is_written_opens (book t)
    (wider t.objects (length t.operators) (book t) limits.objects limits.operators (books_formed t formed))
    (book_within t limits short)
    z ks os written kinds operands
