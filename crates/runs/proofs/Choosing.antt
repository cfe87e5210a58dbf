-- Lists of objects that are begun, one object more each time, and the lists that suit an operator.
use Rattle.std.proofs.Common.{◌≡◌, ℕ, ◌+◌, ◌<◌, Bool, true, false, cond, not, ◌&&◌, ◌||◌, nat_eq, ◌⊎◌, List, [], ◌∷◌, ◌++◌, map, get_or, sym, refl, ap, ap₂, ◌∙◌, subst, ⊎_elim}
use mathlib.Core.Path.{fun_ext}
use Rattle.std.proofs.Math.Bool.{and-true, and-false}
use Rattle.std.proofs.lemmas.Bool.{cond-true, cond-false}
use Rattle.std.proofs.lemmas.List.{append-nil, append_assoc, map-append, map-id}
use Rattle.std.specs.List.{All}
use Rattle.table.specs.declared.places.Place.TheVariants as place
use Rattle.table.specs.Reading.{good, many}
use Rattle.model.specs.Lists.{below, keep, gather, any_of, has, distinct}
use Rattle.model.specs.Trees.{Task, members}
use Rattle.model.specs.Meaning.{operator_of}
use Rattle.model.specs.Settling.{tuples, choices}
use Rattle.adl.specs.Tables.{Table, outermost}
use Rattle.adl.specs.Reads.{parameter}
use Rattle.table.proofs.Reading.{series_first}
use Rattle.adl.proofs.Heads.{operand_read}
use Rattle.adl_theorems.proofs.Standing.{parameter_read}
use Rattle.runs.specs.Chosen.{chosen, Unused, choices_from}
use Rattle.runs.proofs.Fittings.{eq_turned}
use Rattle.runs.proofs.Walks.{keep_append, any_append, none_kept, more_kept}

-- Lists.

keep_gather : {A B : Type 0} (p : B → Bool) (f : A → List B) (xs : List A) → keep p (gather f xs) ≡ gather (λ x. keep p (f x)) xs
keep_gather p f [] = refl
keep_gather p f (x ∷ xs) = keep_append p (f x) (gather f xs) ∙ ap (λ ys. keep p (f x) ++ ys) (keep_gather p f xs)

map_cond : {A B : Type 0} (f : A → B) (b : Bool) (x : A) (xs : List A) → cond b (f x ∷ map f xs) (map f xs) ≡ map f (cond b (x ∷ xs) xs)
map_cond f true x xs = refl
map_cond f false x xs = refl

keep_map : {A B : Type 0} (p : B → Bool) (f : A → B) (xs : List A) → keep p (map f xs) ≡ map f (keep (λ x. p (f x)) xs)
keep_map p f [] = refl
keep_map p f (x ∷ xs) = ap (λ ys. cond (p (f x)) (f x ∷ ys) ys) (keep_map p f xs) ∙ map_cond f (p (f x)) x (keep (λ x. p (f x)) xs)

cond_same : {A : Type 0} (b : Bool) (x : A) → cond b x x ≡ x
cond_same true x = refl
cond_same false x = refl

keep_no : {A : Type 0} (xs : List A) → keep (λ _. false) xs ≡ []
keep_no [] = refl
keep_no (x ∷ xs) = keep_no xs

-- Objects that are new.

-- all different, and different from those before
abbrev fresh : List ℕ → List ℕ → Bool
fresh before os = distinct os && not (any_of (λ x. has x before) os)

-- among those before or the last of them: four tests, two of them exchanged
exchanged : (a e b f g : Bool) → e ≡ f → ((a || (e || false)) || (b || g)) ≡ ((a || b) || (f || g))
exchanged true e b f g h = refl
exchanged false true true f g h = refl
exchanged false true false f g h = ap (λ x. x || g) h
exchanged false false true f g h = refl
exchanged false false false f g h = ap (λ x. x || g) h

seen : (before : List ℕ) (o : ℕ) (os : List ℕ) → any_of (λ x. has x (before ++ (o ∷ []))) os ≡ (any_of (λ x. has x before) os || has o os)
seen before o [] = refl
seen before o (x ∷ os) =
    ap₂ ◌||◌ (any_append (nat_eq x) before (o ∷ [])) (seen before o os)
    ∙ exchanged (has x before) (nat_eq x o) (any_of (λ x. has x before) os) (nat_eq o x) (has o os) (eq_turned x o)

none_seen : (os : List ℕ) → any_of (λ x. has x []) os ≡ false
none_seen [] = refl
none_seen (x ∷ os) = none_seen os

regrouped : (h d a : Bool) → ((not h && d) && not a) ≡ (d && not (a || h))
regrouped true true true = refl
regrouped true true false = refl
regrouped true false a = refl
regrouped false true true = refl
regrouped false true false = refl
regrouped false false a = refl

-- an object before others: it is new, and they are new after it
fresh_first : (b h d a c : Bool) → c ≡ (a || h) → ((not h && d) && not (b || a)) ≡ cond b false (d && not c)
fresh_first true h d a c e = and-false (not h && d)
fresh_first false h d a c e = regrouped h d a ∙ ap (λ x. d && not x) (sym e)

module _ (t : Task) where
  -- lists that begin with o, if it is new
  first_new : (b : Bool) (o : ℕ) (p : List ℕ → Bool) (ls : List (List ℕ)) → cond b [] (map (λ os. o ∷ os) (keep p ls)) ≡ map (λ os. o ∷ os) (keep (λ os. cond b false (p os)) ls)
  first_new true o p ls = sym (ap (map (λ os. o ∷ os)) (keep_no ls))
  first_new false o p ls = refl

  -- the choices after some objects are the lists whose objects are new
  choices_fresh : (before tys : List ℕ) → choices_from t before tys ≡ keep (fresh before) (tuples t tys)
  choices_fresh before [] = refl
  choices_fresh before (ty ∷ tys) =
      ap (λ f. gather f (members t ty)) (fun_ext (λ o. with_first o (choices_fresh (before ++ (o ∷ [])) tys)))
      ∙ sym (keep_gather (fresh before) (λ o. map (λ os. o ∷ os) (tuples t tys)) (members t ty))
    where
      with_first : (o : ℕ) → choices_from t (before ++ (o ∷ [])) tys ≡ keep (fresh (before ++ (o ∷ []))) (tuples t tys)
          → cond (has o before) [] (map (λ os. o ∷ os) (choices_from t (before ++ (o ∷ [])) tys)) ≡ keep (fresh before) (map (λ os. o ∷ os) (tuples t tys))
      with_first o e =
          ap (λ ls. cond (has o before) [] (map (λ os. o ∷ os) ls)) e
          ∙ first_new (has o before) o (fresh (before ++ (o ∷ []))) (tuples t tys)
          ∙ ap (λ p. map (λ os. o ∷ os) (keep p (tuples t tys))) (fun_ext (λ os. sym (fresh_first (has o before) (has o os) (distinct os) (any_of (λ x. has x before) os) (any_of (λ x. has x (before ++ (o ∷ []))) os) (seen before o os))))
          ∙ sym (keep_map (fresh before) (λ os. o ∷ os) (tuples t tys))

  -- after none they are those that suit
  choices_are : (tys : List ℕ) → choices_from t [] tys ≡ keep distinct (tuples t tys)
  choices_are tys =
      choices_fresh [] tys
      ∙ ap (λ p. keep p (tuples t tys)) (fun_ext (λ os. ap (λ b. distinct os && not b) (none_seen os) ∙ and-true (distinct os)))

-- Lists that are begun.

-- what goes on with one object more
gone_on : (before : List ℕ) (o : ℕ) (ls : List (List ℕ)) → map (λ os. before ++ os) (map (λ os. o ∷ os) ls) ≡ map (λ os. (before ++ (o ∷ [])) ++ os) ls
gone_on before o [] = refl
gone_on before o (os ∷ ls) = ap₂ ◌∷◌ (sym (append_assoc before (o ∷ []) os)) (gone_on before o ls)

module _ (t : Task) where
  module _ (p : ℕ → Bool) (before rest : List ℕ) where
    -- the lists that go on with o
    abbrev pub going_on : ℕ → List (List ℕ)
    going_on o = cond (has o before) [] (map (λ os. o ∷ os) (choices_from t (before ++ (o ∷ [])) rest))

    -- the lists that go on with the objects below o
    abbrev pub gone_below : ℕ → List (List ℕ)
    gone_below o = map (λ os. before ++ os) (gather going_on (keep p (below o)))

    -- there is none below 0
    pub none_below : (xs : List (List ℕ)) → xs ≡ xs ++ gone_below 0
    none_below xs = sym (append-nil xs) ∙ ap (λ ls. xs ++ map (λ os. before ++ os) ls) (sym (none_kept p going_on))

    more_below : (o : ℕ) → gone_below (o + 1) ≡ gone_below o ++ map (λ os. before ++ os) (cond (p o) (going_on o) [])
    more_below o =
        ap (map (λ os. before ++ os)) (more_kept p going_on o)
        ∙ map-append (λ os. before ++ os) (gather going_on (keep p (below o))) (cond (p o) (going_on o) [])

    module _ (xs ys : List (List ℕ)) (o : ℕ) (h : ys ≡ xs ++ gone_below o) where
      -- o is taken
      pub object_taken : (zs : List (List ℕ)) → p o ≡ true → has o before ≡ false → zs ≡ ys ++ map (λ os. (before ++ (o ∷ [])) ++ os) (choices_from t (before ++ (o ∷ [])) rest) → zs ≡ xs ++ gone_below (o + 1)
      object_taken zs a b e =
          let goes = choices_from t (before ++ (o ∷ [])) rest in
          let made = map (λ os. o ∷ os) goes in
          e ∙ ap (λ ls. ls ++ map (λ os. (before ++ (o ∷ [])) ++ os) goes) h
          ∙ append_assoc xs (gone_below o) (map (λ os. (before ++ (o ∷ [])) ++ os) goes)
          ∙ ap (λ ls. xs ++ (gone_below o ++ ls)) (sym (ap (map (λ os. before ++ os)) (cond-true (p o) (going_on o) [] a ∙ cond-false (has o before) [] made b) ∙ gone_on before o goes))
          ∙ ap (λ ls. xs ++ ls) (sym (more_below o))

      -- o is passed over
      pub object_passed : (p o ≡ false) ⊎ (has o before ≡ true) → ys ≡ xs ++ gone_below (o + 1)
      object_passed c =
          let made = map (λ os. o ∷ os) (choices_from t (before ++ (o ∷ [])) rest) in
          let none : cond (p o) (going_on o) [] ≡ [] = ⊎_elim (λ a. cond-false (p o) (going_on o) [] a) (λ b. ap (λ ls. cond (p o) ls []) (cond-true (has o before) [] made b) ∙ cond_same (p o) []) c in
          h ∙ ap (λ ls. xs ++ ls) (sym (more_below o ∙ ap (λ ls. gone_below o ++ map (λ os. before ++ os) ls) none ∙ append-nil (gone_below o)))

    -- after all members of the first type
    pub all_gone : (xs ys : List (List ℕ)) (o n ty : ℕ) (tys : List ℕ) → o ≡ n → ys ≡ xs ++ gone_below o → keep p (below n) ≡ members t ty → tys ≡ ty ∷ rest → ys ≡ xs ++ map (λ os. before ++ os) (choices_from t before tys)
    all_gone xs ys o n ty tys e h m q =
        h ∙ ap (λ i. xs ++ gone_below i) e ∙ ap (λ os. xs ++ map (λ rs. before ++ rs) (gather going_on os)) m
        ∙ ap (λ zs. xs ++ map (λ rs. before ++ rs) (choices_from t before zs)) (sym q)

  -- one object more, by equal values
  pub one_longer : (rest before longer : List ℕ) (o n m : ℕ) (xs ys : List (List ℕ)) → m ≡ n → longer ≡ before ++ (o ∷ []) → map (chosen m) ys ≡ map (chosen m) xs ++ map (λ os. longer ++ os) (choices_from t longer rest)
      → map (chosen n) ys ≡ map (chosen n) xs ++ map (λ os. (before ++ (o ∷ [])) ++ os) (choices_from t (before ++ (o ∷ [])) rest)
  one_longer rest before longer o n m xs ys e q h =
      subst (λ l. map (chosen n) ys ≡ map (chosen n) xs ++ map (λ os. l ++ os) (choices_from t l rest)) q
      (subst (λ k. map (chosen k) ys ≡ map (chosen k) xs ++ map (λ os. longer ++ os) (choices_from t longer rest)) e h)

  -- the lists of all objects of an operator
  pub all_chosen : (i n m : ℕ) (xs ys : List (List ℕ)) → n ≡ m → xs ≡ [] → map (chosen m) ys ≡ map (chosen m) xs ++ map (λ os. [] ++ os) (choices_from t [] (operator_of t i).parameters)
      → map (chosen n) ys ≡ choices t i
  all_chosen i n m xs ys e q h =
      ap (λ k. map (chosen k) ys) e ∙ h ∙ ap (λ zs. map (chosen m) zs ++ map (λ os. [] ++ os) (choices_from t [] (operator_of t i).parameters)) q
      ∙ map-id (choices_from t [] (operator_of t i).parameters) ∙ choices_are t (operator_of t i).parameters

-- what is unused of some arrays, by equal numbers
pub unused_as : (m n : ℕ) (xs ys : List (List ℕ)) → m ≡ n → (All (Unused m) xs → All (Unused m) ys) → All (Unused n) xs → All (Unused n) ys
unused_as m n xs ys e h = subst (λ k. All (Unused k) xs → All (Unused k) ys) e h

-- Parameters.

-- the first parameter stands inside the table, and names a type
pub first_inside : (t : Table) (n i : ℕ) (tys : List ℕ) (j : ℕ) → 0 < n → many (parameter t) n i ≡ good tys j → (i < t.entries) × (get_or t.operands i 0 < t.types)
first_inside t n i tys j h e =
    let w = series_first (λ (_ : Unit {0}). parameter t) (λ _ _. tt) n tt i tys j h e in
    ((operand_read t place.Parameter (outermost 0 i) i w.0 w.1 w.3).0.inside, (parameter_read t i w.0 w.1 w.3).1)
