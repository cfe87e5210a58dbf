-- Searching for an action by its name.
use Rattle.std.proofs.Common.{◌≡◌, ℕ, zero, suc, ◌+◌, ◌<◌, ◌≤◌, true, false, cond, List, [], ◌∷◌, length, get_or, Some, None, Option, sym, refl, ap, ◌∙◌, inl, inr, ⊎_elim, arith}
use lib.ListN.{length-map}
use Rattle.std.proofs.lemmas.Bool.{cases_Bool, cases_lt}
use Rattle.model.specs.Lists.{In}
use Rattle.model.specs.Trees.{Name}
use Rattle.model.specs.Books.{Action, same_name}
use Rattle.model.specs.Opening.{NameBefore}
use Rattle.model.proofs.Members.{same_name_true, same_name_refl}
use Rattle.model.proofs.Values.{clash}
use Rattle.book.specs.Tables.{Table}
use Rattle.book.specs.Reads.{precedes, listed, actions_place}
use Rattle.book.specs.Opens.{accepted, book_of}
use Rattle.book.specs.Finds.{names_of, number_from, Tells}
use Rattle.book.proofs.Order.{not_before_itself, precedes_trans, name_precedes}
use Rattle.book.proofs.Atoms.{rises_by}
use Rattle.book.proofs.Standing.{stands, opened}
use Rattle.book.proofs.WellFormed.{names_rise}

-- a name is not the same as one that comes before it, or after it
apart : (m k : Name) → precedes (listed m) (listed k) ≡ true → same_name m k ≡ false
apart m k p = ⊎_elim (λ e. clash (sym (not_before_itself (listed m)) ∙ ap (λ (n : Name). precedes (listed m) (listed n)) (same_name_true m k e) ∙ p)) (λ e. e) (cases_Bool (same_name m k))

apart_back : (m k : Name) → precedes (listed k) (listed m) ≡ true → same_name m k ≡ false
apart_back m k p = ⊎_elim (λ e. clash (sym (not_before_itself (listed m)) ∙ ap (λ (n : Name). precedes (listed n) (listed m)) (same_name_true m k e) ∙ p)) (λ e. e) (cases_Bool (same_name m k))

-- The number of an action, by places.
number_none : (acts : List Action) (m d : Name) (k : ℕ) → ((j : ℕ) → j < length acts → same_name m (get_or (names_of acts) j d) ≡ false) → None ≡ number_from k acts m
number_none [] m d k h = refl
number_none (a ∷ acts) m d k h =
    number_none acts m d (k + 1) (λ j l. h (suc j) (omega arith)) ∙ sym (ap (λ b. cond b (Some k) (number_from (k + 1) acts m)) (h 0 (omega arith)))

number_at : (acts : List Action) (m d : Name) (k i : ℕ) → i < length acts → same_name m (get_or (names_of acts) i d) ≡ true → ((j : ℕ) → j < i → same_name m (get_or (names_of acts) j d) ≡ false) → Some (k + i) ≡ number_from k acts m
number_at [] m d k i l e h = absurd (omega arith)
number_at (a ∷ acts) m d k zero l e h = let z : k + 0 ≡ k = omega arith in ap Some z ∙ sym (ap (λ b. cond b (Some k) (number_from (k + 1) acts m)) e)
number_at (a ∷ acts) m d k (suc i) l e h =
    let z : k + suc i ≡ k + 1 + i = omega arith in
    ap Some z ∙ number_at acts m d (k + 1) i (omega arith) e (λ j g. h (suc j) (omega arith)) ∙ sym (ap (λ b. cond b (Some k) (number_from (k + 1) acts m)) (h 0 (omega arith)))

not_in : (acts : List Action) (m d : Name) → ((j : ℕ) → j < length acts → same_name m (get_or (names_of acts) j d) ≡ false) → In m (names_of acts) → ⊥
not_in [] m d h i = i
not_in (a ∷ acts) m d h (inl e) = clash (sym (h 0 (omega arith)) ∙ ap (same_name m) (sym e) ∙ same_name_refl m)
not_in (a ∷ acts) m d h (inr i) = not_in acts m d (λ j l. h (suc j) (omega arith)) i

-- What is told of a name.
pub record Told (acts : List Action) (m : Name) (r : Option ℕ) : Type 0 where
  pub number : r ≡ number_from 0 acts m
  pub exact : Tells r acts m

told_none : (acts : List Action) (m : Name) → ((j : ℕ) → j < length acts → same_name m (get_or (names_of acts) j m) ≡ false) → Told acts m None
told_none acts m h = record { number = number_none acts m m 0 h; exact = not_in acts m m h }

module _ (t : Table) (h : accepted t ≡ true) (long : t.entries ≤ length t.operands) (m : Name) where
  abbrev acts : List Action
  acts = (book_of t).actions

  abbrev pub nth : ℕ → Name
  nth k = get_or (names_of acts) k m

  -- names rise
  rising : (a b : ℕ) → a < b → b < t.actions → precedes (listed (nth a)) (listed (nth b)) ≡ true
  rising a b l g =
      let o = opened t h long in
      let n : length (names_of acts) ≡ length acts = length-map acts (λ (x : Action). x.name) in
      let r = (names_rise t t.actions [] (actions_place t) acts t.entries (stands t h).actions).1 in
      name_precedes (nth a) (nth b) (rises_by NameBefore (names_of acts) r m a b l (omega (arith, n, o.actions_count)))

  -- all names of the first k actions come before
  abbrev pub Passed : ℕ → Type 0
  Passed k = (j : ℕ) → j < k → precedes (listed (nth j)) (listed m) ≡ true

  pub passed_more : (k : ℕ) → Passed k → precedes (listed (nth k)) (listed m) ≡ true → Passed (k + 1)
  passed_more k p q j l = ⊎_elim (λ f. p j f) (λ f. let z : j ≡ k = omega arith in ap (λ x. precedes (listed (nth x)) (listed m)) z ∙ q) (cases_lt j k)

  pub passed_all : (k : ℕ) → t.actions ≤ k → Passed k → Told acts m None
  passed_all k l p = let o = opened t h long in told_none acts m (λ j g. apart_back m (nth j) (p j (omega (arith, o.actions_count))))

  pub passed_by : (k : ℕ) → k < t.actions → Passed k → precedes (listed m) (listed (nth k)) ≡ true → Told acts m None
  passed_by k l p q =
      let o = opened t h long in
      told_none acts m λ j g. ⊎_elim
      (λ f. apart_back m (nth j) (p j f))
      (λ f. apart m (nth j) (⊎_elim
      (λ x. precedes_trans (listed m) (listed (nth k)) (listed (nth j)) q (rising k j x (omega (arith, o.actions_count))))
      (λ x. let z : j ≡ k = omega arith in ap (λ y. precedes (listed m) (listed (nth y))) z ∙ q)
      (cases_lt k j)))
      (cases_lt j k)

  pub found : (k : ℕ) → k < t.actions → nth k ≡ m → Told acts m (Some k)
  found k l e =
      let o = opened t h long in
      let i : k < length acts = omega (arith, o.actions_count) in
      let z : k ≡ 0 + k = omega arith in
      let before : (j : ℕ) → j < k → precedes (listed (nth j)) (listed m) ≡ true = λ j g. ap (λ (n : Name). precedes (listed (nth j)) (listed n)) (sym e) ∙ rising j k g l in
      record {
        number = ap Some z ∙ number_at acts m m 0 k i (ap (same_name m) e ∙ same_name_refl m) (λ j g. apart_back m (nth j) (before j g));
        exact = (
          i,
          e,
          λ j g f. ⊎_elim
              (λ x. clash (sym (not_before_itself (listed m)) ∙ ap (λ (n : Name). precedes (listed n) (listed m)) (sym f) ∙ before j x))
              (λ x. ⊎_elim
              (λ y. clash (sym (not_before_itself (listed m)) ∙ ap (λ (n : Name). precedes (listed m) (listed n)) (sym f) ∙ ap (λ (n : Name). precedes (listed n) (listed (nth j))) (sym e) ∙ rising k j y (omega (arith, o.actions_count))))
              (λ y. omega arith)
              (cases_lt k j))
              (cases_lt j k),
        );
      }
