-- Handing over the literals of an effect, part by part and member by member.
use Rattle.std.proofs.Common.{◌≡◌, ℕ, zero, suc, ◌+◌, ◌<◌, ◌≤◌, Bool, true, false, cond, ◌||◌, List, [], ◌∷◌, ◌++◌, get_or, fold, sym, refl, ap, ◌∙◌, ⊎_elim, add-one, arith}
use Rattle.std.proofs.Math.Bool.{or_assoc}
use Rattle.std.proofs.lemmas.List.Sums.{fold-append}
use Rattle.std.proofs.lemmas.List.{append-nil, append_assoc, map-append}
use Rattle.std.proofs.lemmas.Bool.{cases_lt}
use Rattle.model.specs.Lists.{below, keep, gather, any_of}
use Rattle.model.specs.Meaning.{State, Literal, Part, value, bind, ground, parts, all_parts}
use Rattle.model.specs.Trees.{Task, Formula, outcomes_of, all_outcomes, Consequent, Effect, for_each, when, in_set, members}
use Rattle.adl.specs.Tables.{Table}
use Rattle.adl.specs.Reads.{consequents_of, effects_of}
use Rattle.adl.specs.Loads.{accepted, task_of}
use Rattle.runs.specs.Effects.{consequent_literals, consequents_literals, effect_literals, effects_literals}
use Rattle.adl_theorems.proofs.Standing.{same_objects, type_at}

-- Lists.

pub gather_append : {A B : Type 0} (F : A → List B) (xs ys : List A) → gather F (xs ++ ys) ≡ gather F xs ++ gather F ys
gather_append F [] ys = refl
gather_append F (x ∷ xs) ys = ap (λ zs. F x ++ zs) (gather_append F xs ys) ∙ sym (append_assoc (F x) (gather F xs) (gather F ys))

-- gathering from what was gathered
pub gather_gather : {A B C : Type 0} (F : B → List C) (G : A → List B) (xs : List A) → gather F (gather G xs) ≡ gather (λ x. gather F (G x)) xs
gather_gather F G [] = refl
gather_gather F G (x ∷ xs) = gather_append F (G x) (gather G xs) ∙ ap (λ zs. gather F (G x) ++ zs) (gather_gather F G xs)

pub cond_append : {A : Type 0} (b : Bool) (x : A) (xs ys : List A) → cond b (x ∷ (xs ++ ys)) (xs ++ ys) ≡ cond b (x ∷ xs) xs ++ ys
cond_append true x xs ys = refl
cond_append false x xs ys = refl

pub keep_append : {A : Type 0} (p : A → Bool) (xs ys : List A) → keep p (xs ++ ys) ≡ keep p xs ++ keep p ys
keep_append p [] ys = refl
keep_append p (x ∷ xs) ys = ap (λ zs. cond (p x) (x ∷ zs) zs) (keep_append p xs ys) ∙ cond_append (p x) x (keep p xs) (keep p ys)

pub any_append : {A : Type 0} (p : A → Bool) (xs ys : List A) → any_of p (xs ++ ys) ≡ (any_of p xs || any_of p ys)
any_append p [] ys = refl
any_append p (x ∷ xs) ys = ap (λ b. p x || b) (any_append p xs ys) ∙ sym (or_assoc (p x) (any_of p xs) (any_of p ys))

gather_one : {B : Type 0} (b : Bool) (F : ℕ → List B) (i : ℕ) → gather F (cond b (i ∷ []) []) ≡ cond b (F i) []
gather_one true F i = append-nil (F i)
gather_one false F i = refl

-- Members of a type.

-- there is none below 0
pub none_kept : {B : Type 0} (p : ℕ → Bool) (F : ℕ → List B) → gather F (keep p (below 0)) ≡ []
unfolding below
none_kept p F = refl

pub suc_kept : {B : Type 0} (p : ℕ → Bool) (F : ℕ → List B) (i : ℕ) → gather F (keep p (below (suc i))) ≡ gather F (keep p (below i)) ++ cond (p i) (F i) []
unfolding below
suc_kept p F i =
    ap (gather F) (keep_append p (below i) (i ∷ [])) ∙ gather_append F (keep p (below i)) (keep p (i ∷ []))
    ∙ ap (λ zs. gather F (keep p (below i)) ++ zs) (gather_one (p i) F i)

pub more_kept : {B : Type 0} (p : ℕ → Bool) (F : ℕ → List B) (i : ℕ) → gather F (keep p (below (i + 1))) ≡ gather F (keep p (below i)) ++ cond (p i) (F i) []
more_kept p F i = ap (λ n. gather F (keep p (below n))) (add-one i) ∙ suc_kept p F i

-- one turn of the loop over the members, at a member and at another object
module _ {A B : Type 0} (f : B → A → B) (a : B) (p : ℕ → Bool) (F : ℕ → List A) where
  pub with_member : (x y : B) (i : ℕ) → p i ≡ true → x ≡ fold f a (gather F (keep p (below i))) → y ≡ fold f x (F i) → y ≡ fold f a (gather F (keep p (below (i + 1))))
  with_member x y i e q r =
      r ∙ ap (λ z. fold f z (F i)) q ∙ sym (fold-append f a (gather F (keep p (below i))) (F i))
      ∙ ap (λ (b : Bool). fold f a (gather F (keep p (below i)) ++ cond b (F i) [])) (sym e) ∙ ap (fold f a) (sym (more_kept p F i))

  pub without_member : (x : B) (i : ℕ) → p i ≡ false → x ≡ fold f a (gather F (keep p (below i))) → x ≡ fold f a (gather F (keep p (below (i + 1))))
  without_member x i e q =
      q ∙ sym (fold-append f a (gather F (keep p (below i))) [])
      ∙ ap (λ (b : Bool). fold f a (gather F (keep p (below i)) ++ cond b (F i) [])) (sym e) ∙ ap (fold f a) (sym (more_kept p F i))

  -- what takes no more is left as it is by the other members
  module _ (full : B → Bool) (stays : (x : B) (l : A) → full x ≡ true → f x l ≡ x) where
    full_stays : (x : B) (ls : List A) → full x ≡ true → fold f x ls ≡ x
    full_stays x [] h = refl
    full_stays x (l ∷ ls) h = ap (λ (y : B). fold f y ls) (stays x l h) ∙ full_stays x ls h

    pub stops : (x : B) (i k : ℕ) → i ≤ k → full x ≡ true → x ≡ fold f a (gather F (keep p (below i))) → x ≡ fold f a (gather F (keep p (below k)))
    stops x i zero l h q = q ∙ ap (λ (j : ℕ). fold f a (gather F (keep p (below j)))) (let e : i ≡ 0 = omega arith in e)
    stops x i (suc k) l h q =
        ⊎_elim
        (λ lt.
        let r = stops x i k (omega arith) h q in
        let rest = cond (p k) (F k) [] in
        sym (ap (fold f a) (suc_kept p F k) ∙ fold-append f a (gather F (keep p (below k))) rest ∙ ap (λ (y : B). fold f y rest) (sym r) ∙ full_stays x rest h))
        (λ ge. q ∙ ap (λ (j : ℕ). fold f a (gather F (keep p (below j)))) (let e : i ≡ suc k = omega arith in e))
        (cases_lt i (suc k))

-- the members of a type, by the set that the table has for it
pub members_in : (t : Table) → accepted t ≡ true → (ty : ℕ) → ty < t.types → keep (in_set (get_or t.operands ty 0)) (below t.objects) ≡ members (task_of t) ty
members_in t h ty l =
    ap (λ s. keep (in_set s) (below t.objects)) (sym (type_at t h ty l)) ∙ ap (λ n. keep (in_set (get_or (task_of t).types ty 0)) (below n)) (sym (same_objects t h))

-- Literals.

module _ {B : Type 0} (f : B → Literal → B) (T : Task) (sh : List ℕ) (a b : B) where
  -- what is known of a consequent is known of an equal one
  pub from_consequent : (c d : Consequent) → c ≡ d → b ≡ fold f a (consequent_literals T sh d) → b ≡ fold f a (consequent_literals T sh c)
  from_consequent c d q p = p ∙ ap (λ (h : Consequent). fold f a (consequent_literals T sh h)) (sym q)

  -- the first consequent and the others
  pub first_and_rest : (c : Consequent) (ds cs : List Consequent) (x : B) → cs ≡ c ∷ ds → x ≡ fold f a (consequent_literals T sh c) → b ≡ fold f x (consequents_literals T sh ds)
      → b ≡ fold f a (consequents_literals T sh cs)
  first_and_rest c ds cs x m p q =
      q ∙ ap (λ (z : B). fold f z (consequents_literals T sh ds)) p ∙ sym (fold-append f a (consequent_literals T sh c) (consequents_literals T sh ds))
      ∙ ap (fold f a) (sym (map-append (ground T sh) (outcomes_of c) (all_outcomes (consequents_of ds)))) ∙ ap (λ (h : List Consequent). fold f a (consequents_literals T sh h)) (sym m)

  module _ (s : State) where
    -- what is known of an effect is known of an equal one
    pub from_effect : (e g : Effect) → e ≡ g → b ≡ fold f a (effect_literals T s sh g) → b ≡ fold f a (effect_literals T s sh e)
    from_effect e g q p = p ∙ ap (λ (h : Effect). fold f a (effect_literals T s sh h)) (sym q)

    -- the first effect and the others
    pub first_effect_and_rest : (e : Effect) (fs es : List Effect) (x : B) → es ≡ e ∷ fs → x ≡ fold f a (effect_literals T s sh e) → b ≡ fold f x (effects_literals T s sh fs)
        → b ≡ fold f a (effects_literals T s sh es)
    first_effect_and_rest e fs es x m p q =
        q ∙ ap (λ (z : B). fold f z (effects_literals T s sh fs)) p
        ∙ sym (fold-append f a (effect_literals T s sh e) (effects_literals T s sh fs))
        ∙ ap (fold f a) (sym (gather_append (λ (p : Part). cond (value T s p.sheet p.condition) p.literals []) (parts T sh e) (all_parts T sh (effects_of fs))))
        ∙ ap (λ (h : List Effect). fold f a (effects_literals T s sh h)) (sym m)

    -- an effect for each member
    pub for_members : (ty : ℕ) (e : Effect) → b ≡ fold f a (gather (λ o. effect_literals T s (bind sh o) e) (members T ty)) → b ≡ fold f a (effect_literals T s sh (for_each ty e))
    for_members ty e p =
        p ∙ ap (fold f a) (sym (gather_gather (λ (p : Part). cond (value T s p.sheet p.condition) p.literals []) (λ o. parts T (bind sh o) e) (members T ty)))

    -- a WHEN whose condition is true
    pub when_true : (x : Formula) (c : Consequent) (v : Bool) → v ≡ true → v ≡ value T s sh x → b ≡ fold f a (consequent_literals T sh c) → b ≡ fold f a (effect_literals T s sh (when x c))
    when_true x c v h k p =
        p ∙ ap (fold f a) (sym (append-nil (consequent_literals T sh c)))
        ∙ ap (λ (z : Bool). fold f a (cond z (consequent_literals T sh c) [] ++ [])) (sym h ∙ k)

  -- a WHEN whose condition is false
  pub when_false : (s : State) (x : Formula) (c : Consequent) (v : Bool) → v ≡ false → v ≡ value T s sh x → a ≡ fold f a (effect_literals T s sh (when x c))
  when_false s x c v h k = ap (λ (z : Bool). fold f a (cond z (consequent_literals T sh c) [] ++ [])) (sym h ∙ k)
