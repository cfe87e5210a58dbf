-- Predicates noted change after change, and what all operators touch.
use Rattle.std.proofs.Common.{◌≡◌, ℕ, ◌+◌, ◌<◌, ◌≤◌, Bool, true, false, not, ◌||◌, eqb, ◌⊎◌, List, [], ◌∷◌, ◌++◌, length, get_or, set, take, sym, refl, ap, ◌∙◌, subst, inl, inr, ⊎_elim, get_or-set_same, get_or-set_other, arith}
use Rattle.std.proofs.Math.Bool.{or_assoc, or-false, not-not}
use Rattle.std.proofs.lemmas.Bool.{eq-eqb, ne_eqb, or_left, or_right, cases_eq}
use Rattle.std.proofs.lemmas.List.{append-nil, get_or-take, take_more, take_all}
use Rattle.model.specs.Lists.{gather, any_of}
use Rattle.model.specs.Trees as tree
use Rattle.model.specs.Trees.{Term, Change, changes_in}
use Rattle.model.specs.Meaning.{nothing, operator_of}
use Rattle.model.specs.Settling.{touches, inertia}
use Rattle.adl.specs.declared.operator_places.OperatorPlaces.{OperatorPlaces}
use Rattle.adl.specs.declared.task.Task.{Task}
use Rattle.adl.specs.Held.{held, tree_of}
use Rattle.adl_theorems.proofs.Standing.{operators_length}
use Rattle.runs.specs.declared.touched.Touched.{Touched}
use Rattle.runs.specs.Effects.{EffectAt}
use Rattle.runs.specs.Touching.{adds, deletes, Touches}
use Rattle.runs.proofs.Fittings.{unplaced, places_of, operator_begun}
use Rattle.runs.proofs.Turns.{operator_effect}
use Rattle.runs.proofs.Walks.{gather_append, any_append}

-- Tests.

-- what some pass, and then others
then_others : {A : Type 0} (p : A → Bool) (x y z : Bool) (xs ys : List A) → y ≡ (x || any_of p xs) → z ≡ (y || any_of p ys) → z ≡ (x || any_of p (xs ++ ys))
then_others p x y z xs ys d e =
    e ∙ ap (λ b. b || any_of p ys) d ∙ or_assoc x (any_of p xs) (any_of p ys) ∙ ap (λ b. x || b) (sym (any_append p xs ys))

-- a test that is set passes, and the others are as they were
one_set : (xs : List Bool) (i p : ℕ) → i < length xs → get_or (set xs i true) p false ≡ (get_or xs p false || (eqb p i || false))
one_set xs i p h =
    ⊎_elim
    (λ e. ap (λ n. get_or (set xs i true) n false) e ∙ get_or-set_same xs i true false h ∙ sym (or_right (get_or xs p false) (eqb p i || false) (or_left (eqb p i) false (eq-eqb p i e))))
    (λ n. get_or-set_other xs i p true false n ∙ sym (or-false (get_or xs p false)) ∙ ap (λ b. get_or xs p false || (b || false)) (sym (ne_eqb p i n)))
    (cases_eq p i)

-- Changes.

-- what is noted of some changes is noted of equal ones
pub touched_as : (x y : Touched) (cs ds : List Change) → ds ≡ cs → Touches x cs y → Touches x ds y
touched_as x y cs ds e t = subst (λ zs. Touches x zs y) (sym e) t

-- no change, nothing noted
pub none_touched : (x : Touched) (cs : List Change) → cs ≡ [] → Touches x cs x
none_touched x cs e = touched_as x x [] cs e (record { added = λ p h. sym (or-false (adds x p)); deleted = λ p h. sym (or-false (deletes x p)) })

-- some changes, and then others
pub touched_after : (x y z : Touched) (cs ds es : List Change) → es ≡ cs ++ ds → Touches x cs y → Touches y ds z → Touches x es z
touched_after x y z cs ds es e a b =
    touched_as x z (cs ++ ds) es e
    (record {
      added = λ p h. then_others (touches true p) (adds x p) (adds y p) (adds z p) cs ds (a.added p h) (b.added p h);
      deleted = λ p h. then_others (touches false p) (deletes x p) (deletes y p) (deletes z p) cs ds (a.deleted p h) (b.deleted p h);
    })

-- one change, by the predicate of its atom
pub one_touched : (x y : Touched) (c : Change) (b : Bool) (i : ℕ) (ts : List Term) → c ≡ record { adds = b; predicate = i; terms = ts } → i < length x.added → i < length x.deleted
    → ((b ≡ true) × (y ≡ record { added = set x.added i true; deleted = x.deleted })) ⊎ ((b ≡ false) × (y ≡ record { added = x.added; deleted = set x.deleted i true }))
    → Touches x (c ∷ []) y
one_touched x y c b i ts e k l (inl w) =
    let made : Bool → Change = λ z. record { adds = z; predicate = i; terms = ts } in
    subst (λ z. Touches x (c ∷ []) z) (sym w.1)
    (subst (λ d. Touches x (d ∷ []) (record { added = set x.added i true; deleted = x.deleted })) (sym (e ∙ ap made w.0))
    (record { added = λ p h. one_set x.added i p k; deleted = λ p h. sym (or-false (deletes x p)) }))
one_touched x y c b i ts e k l (inr w) =
    let made : Bool → Change = λ z. record { adds = z; predicate = i; terms = ts } in
    subst (λ z. Touches x (c ∷ []) z) (sym w.1)
    (subst (λ d. Touches x (d ∷ []) (record { added = x.added; deleted = set x.deleted i true })) (sym (e ∙ ap made w.0))
    (record { added = λ p h. sym (or-false (adds x p)); deleted = λ p h. one_set x.deleted i p l }))

-- Operators.

-- every change of an operator
abbrev pub changes_of : tree.Operator → List Change
changes_of a = changes_in a.effect

any_gather : {A B : Type 0} (p : B → Bool) (f : A → List B) (xs : List A) → any_of p (gather f xs) ≡ any_of (λ x. any_of p (f x)) xs
any_gather p f [] = refl
any_gather p f (x ∷ xs) = any_append p (f x) (gather f xs) ∙ ap (λ b. any_of p (f x) || b) (any_gather p f xs)

-- what all operators touch
touched_all : (t : tree.Task) (b : Bool) (p n : ℕ) → length t.operators ≤ n → any_of (touches b p) (gather changes_of (take n t.operators)) ≡ not (inertia t b p)
touched_all t b p n h =
    ap (λ xs. any_of (touches b p) (gather changes_of xs)) (take_all n t.operators h)
    ∙ any_gather (touches b p) changes_of t.operators
    ∙ sym (not-not (any_of (λ a. any_of (touches b p) (changes_of a)) t.operators))

module _ (k : Task) where
  -- the changes of the operators below n
  abbrev pub changes_below : ℕ → List Change
  changes_below n = gather changes_of (take n (tree_of k).operators)

  module _ (o : ℕ) (h : o < k.table.sizes.operators) where
    -- the effect of an operator stands at its place among those that the loop goes over
    pub effect_kept : EffectAt (held k) (get_or (held k).operands (places_of k o).start 0) (get_or (take k.table.sizes.operators k.operators) o unplaced).effect (operator_of (tree_of k) o).effect (operator_begun k o h).0
    effect_kept =
        subst (λ (x : OperatorPlaces). EffectAt (held k) (get_or (held k).operands (places_of k o).start 0) x.effect (operator_of (tree_of k) o).effect (operator_begun k o h).0)
        (sym (get_or-take k.table.sizes.operators k.operators o unplaced h)) (operator_effect k o h)

    -- one operator more
    pub operator_touched : (x y z : Touched) → Touches x (changes_below o) y → Touches y (changes_of (operator_of (tree_of k) o)) z → Touches x (changes_below (o + 1)) z
    operator_touched x y z a b =
        let ops = (tree_of k).operators in
        let c = changes_of (get_or ops o nothing) in
        let e : changes_below (o + 1) ≡ changes_below o ++ c =
        ap (gather changes_of) (take_more ops o nothing (omega (arith, operators_length (held k) k.formed)))
        ∙ gather_append changes_of (take o ops) (get_or ops o nothing ∷ []) ∙ ap (λ cs. changes_below o ++ cs) (append-nil c) in
        touched_after x y z (changes_below o) c (changes_below (o + 1)) e a b

  module _ (x y : Touched) (n : ℕ) (h : k.table.sizes.operators ≤ n) (s : Touches x (changes_below n) y) (p : ℕ) (l : p < 32) where
    -- what was noted of all operators, where nothing was noted before
    pub all_added : adds x p ≡ false → adds y p ≡ not (inertia (tree_of k) true p)
    all_added e =
        s.added p (omega arith) ∙ ap (λ b. b || any_of (touches true p) (changes_below n)) e
        ∙ touched_all (tree_of k) true p n (omega (arith, operators_length (held k) k.formed))

    pub all_deleted : deletes x p ≡ false → deletes y p ≡ not (inertia (tree_of k) false p)
    all_deleted e =
        s.deleted p (omega arith) ∙ ap (λ b. b || any_of (touches false p) (changes_below n)) e
        ∙ touched_all (tree_of k) false p n (omega (arith, operators_length (held k) k.formed))
