-- Where the first literal that clashes begins.
use Rattle.std.proofs.Common.{◌≡◌, ℕ, ◌+◌, Bool, true, false, cond, ◌||◌, not, List, [], ◌∷◌, ◌++◌, map, length, sym, refl, ap, ◌∙◌, arith}
use Rattle.std.proofs.Math.Option.{Option, some, none}
use Rattle.std.proofs.lemmas.List.{length-append, length-map}
use Rattle.model.specs.Lists.{gather}
use Rattle.model.specs.Trees.{Task, Name, Formula, Consequent, outcome, outcomes, Consequents, no_outcome, also, outcomes_of, all_outcomes, Effect, change, conjunction, for_each, when, Effects, no_effect, and, members}
use Rattle.model.specs.Meaning.{Literal, Part, ground, bind, parts, all_parts, literals_where, precondition_of, effect_of, operator_of}
use Rattle.model.specs.Settling.{Round, is, simplify, possible, reach}
use Rattle.adl_theorems.specs.Writes.{write_consequent, write_effect}
use Rattle.book_of_task.specs.Clashes.{clashes, some_clashes}
use Rattle.book_of_task.specs.Places.{outcome_places, all_outcome_places, part_places, all_part_places, effect_place, or_else, clash_in, clash_in_parts, clash_of}
use Rattle.runs.specs.Clauses.{parts_clash}
use Rattle.runs.proofs.Walks.{any_append}

-- Nothing clashes.

neither : (a b : Bool) → (a || b) ≡ false → (a ≡ false) × (b ≡ false)
neither true b e = (e, cc)
neither false b e = (refl, e)

pub both_none : (x y : Option ℕ) → x ≡ none → y ≡ none → or_else x y ≡ none
both_none x y p q = ap (λ v. or_else v y) p ∙ q

none_in : (r : Round) (ls : List Literal) (is : List ℕ) → some_clashes r ls ≡ false → clash_in r ls is ≡ none
none_in r [] is e = refl
none_in r (l ∷ ls) [] e = refl
none_in r (l ∷ ls) (i ∷ is) e =
    let w = neither (clashes r l) (some_clashes r ls) e in
    ap (λ (b : Bool). cond b (some i) (clash_in r ls is)) w.0 ∙ none_in r ls is w.1

none_if : (b : Bool) (r : Round) (ls : List Literal) (is : List ℕ) → some_clashes r (cond b ls []) ≡ false → cond b (clash_in r ls is) none ≡ none
none_if true r ls is e = none_in r ls is e
none_if false r ls is e = refl

module _ (t : Task) (r : Round) where
  -- the first part does not clash, nor do the others
  no_part : (p : Part) (ps : List Part) → parts_clash t r (p ∷ ps) ≡ false
      → (some_clashes r (cond (possible t r p.sheet p.condition) p.literals []) ≡ false) × (parts_clash t r ps ≡ false)
  no_part p ps e =
      let first = cond (possible t r p.sheet p.condition) p.literals [] in
      neither (some_clashes r first) (parts_clash t r ps) (sym (any_append (clashes r) first (literals_where (possible t r) ps)) ∙ e)

  none_in_parts : (ps : List Part) (iss : List (List ℕ)) → parts_clash t r ps ≡ false → clash_in_parts t r ps iss ≡ none
  none_in_parts [] iss e = refl
  none_in_parts (p ∷ ps) [] e = refl
  none_in_parts (p ∷ ps) (is ∷ iss) e =
      let w = no_part p ps e in
      both_none _ _ (none_if (possible t r p.sheet p.condition) r p.literals is w.0) (none_in_parts ps iss w.1)

none_when : (b : Bool) (t : Task) (r : Round) (ps : List Part) (iss : List (List ℕ)) → some_clashes r (cond b (literals_where (possible t r) ps) []) ≡ false
    → cond b (clash_in_parts t r ps iss) none ≡ none
none_when true t r ps iss e = none_in_parts t r ps iss e
none_when false t r ps iss e = refl

pub none_of : (t : Task) (r : Round) (m : Name) → some_clashes r (reach t r m) ≡ false → clash_of t r m ≡ none
none_of t r m e = none_when (possible t r m.objects (precondition_of t m)) t r (effect_of t m) (part_places t (effect_place t m.operator) (operator_of t m.operator).effect) e

-- The first of some literals, and of some parts.

-- a first thing stays the first if what comes after it grows
still_first : (b : Bool) (x y z : Option ℕ) (p : ℕ) → (y ≡ some p → z ≡ some p) → cond b x y ≡ some p → cond b x z ≡ some p
still_first true x y z p f e = e
still_first false x y z p f e = f e

still_or_else : (x y z : Option ℕ) (p : ℕ) → (y ≡ some p → z ≡ some p) → or_else x y ≡ some p → or_else x z ≡ some p
still_or_else none y z p f e = f e
still_or_else (some i) y z p f e = e

module _ (r : Round) (p : ℕ) where
  -- others come after it
  before_others : (ls ms : List Literal) (is js : List ℕ) → clash_in r ls is ≡ some p → clash_in r (ls ++ ms) (is ++ js) ≡ some p
  before_others [] ms is js e = absurd (let q : ◌≡◌ {A = Option ℕ} none (some p) = e in cc)
  before_others (l ∷ ls) ms [] js e = absurd (let q : ◌≡◌ {A = Option ℕ} none (some p) = e in cc)
  before_others (l ∷ ls) ms (i ∷ is) js e = still_first (clashes r l) (some i) _ _ p (before_others ls ms is js) e

  -- others that do not clash come before it
  behind_others : (ls ms : List Literal) (is js : List ℕ) → length ls ≡ length is → some_clashes r ls ≡ false → clash_in r ms js ≡ some p → clash_in r (ls ++ ms) (is ++ js) ≡ some p
  behind_others [] ms [] js n h e = e
  behind_others [] ms (i ∷ is) js n h e = absurd (let q : ◌≡◌ {A = ℕ} (length {A = ℕ} []) (length (i ∷ is)) = n in omega arith)
  behind_others (l ∷ ls) ms [] js n h e = absurd (let q : ◌≡◌ {A = ℕ} (length (l ∷ ls)) (length {A = ℕ} []) = n in omega arith)
  behind_others (l ∷ ls) ms (i ∷ is) js n h e =
      let w = neither (clashes r l) (some_clashes r ls) h in
      ap (λ (b : Bool). cond b (some i) (clash_in r (ls ++ ms) (is ++ js))) w.0 ∙ behind_others ls ms is js (omega (arith, n)) w.1 e

  -- both
  pub first_inside : (ls ms ns : List Literal) (is js ks : List ℕ) {xs : List Literal} {hs : List ℕ} → xs ≡ (ls ++ ms) ++ ns → hs ≡ (is ++ js) ++ ks → length ls ≡ length is
      → some_clashes r ls ≡ false → clash_in r ms js ≡ some p → clash_in r xs hs ≡ some p
  first_inside ls ms ns is js ks {xs} {hs} x y n h e =
      ap (λ zs. clash_in r zs hs) x ∙ ap (clash_in r ((ls ++ ms) ++ ns)) y ∙ before_others (ls ++ ms) ns (is ++ js) ks (behind_others ls ms is js n h e)

module _ (t : Task) (r : Round) (p : ℕ) where
  before_other_parts : (ps qs : List Part) (iss jss : List (List ℕ)) → clash_in_parts t r ps iss ≡ some p → clash_in_parts t r (ps ++ qs) (iss ++ jss) ≡ some p
  before_other_parts [] qs iss jss e = absurd (let q : ◌≡◌ {A = Option ℕ} none (some p) = e in cc)
  before_other_parts (x ∷ ps) qs [] jss e = absurd (let q : ◌≡◌ {A = Option ℕ} none (some p) = e in cc)
  before_other_parts (x ∷ ps) qs (is ∷ iss) jss e =
      still_or_else (cond (possible t r x.sheet x.condition) (clash_in r x.literals is) none) _ _ p (before_other_parts ps qs iss jss) e

  behind_other_parts : (ps qs : List Part) (iss jss : List (List ℕ)) → length ps ≡ length iss → parts_clash t r ps ≡ false → clash_in_parts t r qs jss ≡ some p
      → clash_in_parts t r (ps ++ qs) (iss ++ jss) ≡ some p
  behind_other_parts [] qs [] jss n h e = e
  behind_other_parts [] qs (is ∷ iss) jss n h e = absurd (let q : ◌≡◌ {A = ℕ} (length {A = Part} []) (length (is ∷ iss)) = n in omega arith)
  behind_other_parts (x ∷ ps) qs [] jss n h e = absurd (let q : ◌≡◌ {A = ℕ} (length (x ∷ ps)) (length {A = List ℕ} []) = n in omega arith)
  behind_other_parts (x ∷ ps) qs (is ∷ iss) jss n h e =
      let w = no_part t r x ps h in
      ap (λ v. or_else v (clash_in_parts t r (ps ++ qs) (iss ++ jss))) (none_if (possible t r x.sheet x.condition) r x.literals is w.0)
      ∙ behind_other_parts ps qs iss jss (omega (arith, n)) w.1 e

  pub first_part_inside : (ps qs us : List Part) (iss jss kss : List (List ℕ)) {xs : List Part} {hss : List (List ℕ)} → xs ≡ (ps ++ qs) ++ us → hss ≡ (iss ++ jss) ++ kss → length ps ≡ length iss
      → parts_clash t r ps ≡ false → clash_in_parts t r qs jss ≡ some p → clash_in_parts t r xs hss ≡ some p
  first_part_inside ps qs us iss jss kss {xs} {hss} x y n h e =
      ap (λ zs. clash_in_parts t r zs hss) x ∙ ap (clash_in_parts t r ((ps ++ qs) ++ us)) y ∙ before_other_parts (ps ++ qs) us (iss ++ jss) kss (behind_other_parts ps qs iss jss n h e)

  -- the literals of one part, if it is not dropped
  pub first_in_part : (sh : List ℕ) (f : Formula) (ls : List Literal) (at : List ℕ) → is false (simplify t r sh f) ≡ false → clash_in r ls at ≡ some p
      → clash_in_parts t r (record { sheet = sh; condition = f; literals = ls } ∷ []) (at ∷ []) ≡ some p
  first_in_part sh f ls at e h = ap (λ (b : Bool). or_else (cond (not b) (clash_in r ls at) none) none) e ∙ ap (λ o. or_else o none) h

-- Each literal has its place, and each part its places.

mutual
  changes_placed : (i : ℕ) (c : Consequent) → length (outcomes_of c) ≡ length (outcome_places i c)
  changes_placed i (outcome c) = refl
  changes_placed i (outcomes cs) = all_changes_placed (i + 1) cs

  all_changes_placed : (i : ℕ) (cs : Consequents) → length (all_outcomes cs) ≡ length (all_outcome_places i cs)
  all_changes_placed i no_outcome = refl
  all_changes_placed i (also c cs) =
      let n = i + length (write_consequent c) in
      omega (
        arith,
        changes_placed i c,
        all_changes_placed n cs,
        length-append (outcomes_of c) (all_outcomes cs),
        length-append (outcome_places i c) (all_outcome_places n cs),
      )

pub literals_placed : (t : Task) (sh : List ℕ) (i : ℕ) (c : Consequent) → length (map (ground t sh) (outcomes_of c)) ≡ length (outcome_places i c)
literals_placed t sh i c = length-map (outcomes_of c) (ground t sh) ∙ changes_placed i c

pub as_many : {A B C : Type 0} (F : A → List B) (G : A → List C) → ((x : A) → length (F x) ≡ length (G x)) → (xs : List A) → length (gather F xs) ≡ length (gather G xs)
as_many F G h [] = refl
as_many F G h (x ∷ xs) = omega (arith, h x, as_many F G h xs, length-append (F x) (gather F xs), length-append (G x) (gather G xs))

mutual
  pub parts_placed : (t : Task) (sh : List ℕ) (i : ℕ) (e : Effect) → length (parts t sh e) ≡ length (part_places t i e)
  parts_placed t sh i (change c) = refl
  parts_placed t sh i (conjunction es) = all_parts_placed t sh (i + 1) es
  parts_placed t sh i (for_each ty e) = as_many (λ o. parts t (bind sh o) e) (λ o. part_places t (i + 1) e) (λ o. parts_placed t (bind sh o) (i + 1) e) (members t ty)
  parts_placed t sh i (when f c) = refl

  all_parts_placed : (t : Task) (sh : List ℕ) (i : ℕ) (es : Effects) → length (all_parts t sh es) ≡ length (all_part_places t i es)
  all_parts_placed t sh i no_effect = refl
  all_parts_placed t sh i (and e es) =
      let n = i + length (write_effect e) in
      omega (
        arith,
        parts_placed t sh i e,
        all_parts_placed t sh n es,
        length-append (parts t sh e) (all_parts t sh es),
        length-append (part_places t i e) (all_part_places t n es),
      )

-- one more thing, and one more place or list of places
pub as_many_more : {A B : Type 0} (xs zs : List A) (is js : List B) → length xs ≡ length is → length zs ≡ length js → length (xs ++ zs) ≡ length (is ++ js)
as_many_more xs zs is js e q = omega (arith, e, q, length-append xs zs, length-append is js)
