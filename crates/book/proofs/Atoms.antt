-- Atoms in groups that rise.
use Rattle.std.proofs.Common.{◌≡◌, ℕ, zero, suc, ◌+◌, ◌<◌, ◌≤◌, Bool, true, false, cond, not, ◌&&◌, ◌||◌, eqb, leb, List, [], ◌∷◌, length, get_or, take, drop, slice_get, Some, None, Ok, Err, Option, Result, sym, refl, ap, ◌∙◌, ⊎_elim, arith, eq-eqb, ne_eqb, le-leb}
use borrow.Author.Tests.{lt-leb}
use Rattle.std.specs.Option.{is_some, option_eq}
use Rattle.std.proofs.lemmas.Bool.{and_left, and_right, and_from, or_left, or_right, or_from, cases_lt, cases_eq}
use Rattle.fault.specs.declared.Fault.{Fault}
use Rattle.fault.specs.declared.Layer.TheVariants as layer
use Rattle.fault.specs.Faults.{refusal}
use Rattle.table.specs.declared.places.Place.{Place}
use Rattle.table.specs.declared.places.Place.TheVariants as place
use Rattle.table.specs.Reading.{Entry, Out, bad, good, then, unless, series}
use Rattle.table.proofs.Answering.{head_refused, handed_on}
use Rattle.model.specs.Lists.{has, position}
use Rattle.model.specs.Books.{Start}
use Rattle.model.specs.Forming.{Each}
use Rattle.model.specs.Opening.{RisingBy, Rising}
use Rattle.book.specs.Tables.{Table, most_levels, head}
use Rattle.book.specs.Reads.{start, after_start, starts_in, is_listed, always_true, after_atom, always_in}
use Rattle.book.specs.Groups.{Rises, member, members_in}
use Rattle.book.specs.Views.{answer, heading}
use Rattle.book.proofs.Heading.{headed}

-- Lists of numbers, by places.
pub has_at : (xs : List ℕ) (x k : ℕ) → k < length xs → get_or xs k 0 ≡ x → has x xs ≡ true
has_at [] x k h e = absurd (omega arith)
has_at (y ∷ ys) x zero h e = or_left (eqb x y) (has x ys) (eq-eqb x y (sym e))
has_at (y ∷ ys) x (suc k) h e = or_right (eqb x y) (has x ys) (has_at ys x k (omega arith) e)

pub has_nowhere : (xs : List ℕ) (x : ℕ) → ((k : ℕ) → k < length xs → get_or xs k 0 ≡ x → ⊥) → has x xs ≡ false
has_nowhere [] x h = refl
has_nowhere (y ∷ ys) x h = or_from (eqb x y) (has x ys) (ne_eqb x y (λ e. h 0 (omega arith) (sym e))) (has_nowhere ys x (λ k l e. h (suc k) (omega arith) e))

pub position_at : (xs : List ℕ) (x k : ℕ) → k < length xs → get_or xs k 0 ≡ x → ((j : ℕ) → j < k → get_or xs j 0 ≡ x → ⊥) → position x xs ≡ k
position_at [] x k h e n = absurd (omega arith)
position_at (y ∷ ys) x zero h e n = ap (λ b. cond b 0 (suc (position x ys))) (eq-eqb x y (sym e))
position_at (y ∷ ys) x (suc k) h e n =
    ap (λ b. cond b 0 (suc (position x ys))) (ne_eqb x y (λ q. n 0 (omega arith) (sym q)))
    ∙ ap suc (position_at ys x k (omega arith) e (λ j l q. n (suc j) (omega arith) q))

-- what is below x can be left out at the front
pub has_past : (xs : List ℕ) (x i : ℕ) → ((k : ℕ) → k < i → get_or xs k 0 < x) → has x (drop i xs) ≡ has x xs
has_past xs x zero h = refl
has_past [] x (suc i) h = refl
has_past (y ∷ ys) x (suc i) h = has_past ys x i (λ k l. h (suc k) (omega arith)) ∙ sym (ap (λ b. b || has x ys) (ne_eqb x y (λ e. omega (arith, h 0 (omega arith), e))))

-- where none is below x, only the first can be x
pub has_first : (xs : List ℕ) → Rises xs → (x : ℕ) → ((k : ℕ) → k < length xs → x ≤ get_or xs k 0) → option_eq eqb (slice_get xs 0) (Some x) ≡ has x xs
has_first [] rise x h = refl
has_first (y ∷ ys) rise x h = ⊎_elim
    (λ e. eq-eqb y x e ∙ sym (has_at (y ∷ ys) x 0 (omega arith) e))
    (λ n. ne_eqb y x n ∙ sym (has_nowhere (y ∷ ys) x (λ k l e. ⊎_elim (λ p. omega (arith, rise 0 k p l, h 0 (omega arith), e)) (λ z. let f : k ≡ 0 = omega arith in n (sym (ap (λ j. get_or (y ∷ ys) j 0) f) ∙ e)) (cases_lt 0 k))))
    (cases_eq y x)

-- a search for x in a list that rises
pub found_at : (xs : List ℕ) → Rises xs → (x k : ℕ) → k < length xs → get_or xs k 0 ≡ x → Some k ≡ cond (has x xs) (Some (position x xs)) None
found_at xs r x k h e =
    let p = position_at xs x k h e (λ j l q. omega (arith, r j k l h, e, q)) in
    ap Some (sym p) ∙ sym (ap (λ b. cond b (Some (position x xs)) None) (has_at xs x k h e))

pub not_found : (xs : List ℕ) (x i : ℕ) → ((k : ℕ) → k < i → get_or xs k 0 < x) → ((k : ℕ) → i ≤ k → k < length xs → x < get_or xs k 0) → None ≡ cond (has x xs) (Some (position x xs)) None
not_found xs x i below beyond =
    sym (ap (λ b. cond b (Some (position x xs)) None) (has_nowhere xs x (λ k l e. ⊎_elim (λ f. omega (arith, below k f, e)) (λ f. omega (arith, beyond k f l, e)) (cases_lt k i))))

-- whether the search has found it
has_place : (b : Bool) (k : ℕ) → b ≡ is_some (cond b (Some k) None)
has_place true k = refl
has_place false k = refl

pub has_by : (xs : List ℕ) (x : ℕ) (r : Option ℕ) → r ≡ cond (has x xs) (Some (position x xs)) None → has x xs ≡ is_some r
has_by xs x r e = has_place (has x xs) (position x xs) ∙ ap is_some (sym e)

-- An atom of a group, from its head.
module _ (t : Table) (p : Place) (others : List ℕ) (low i : ℕ) where
  abbrev as_member : Entry → ℕ → Out Entry
  as_member e j = unless (leb low e.operand && not (has e.operand others)) 8 i (good e j)

  pub member_refused : (f : Fault) → Err f ≡ heading (head t p most_levels i) → Err f ≡ answer (member t p others low i)
  member_refused f h = head_refused layer.Book (head t p most_levels i) as_member f h

  module _ (e : Entry) (h : Ok e ≡ heading (head t p most_levels i)) where
    member_is : member t p others low i ≡ as_member e (i + 1)
    member_is = ap (λ o. then o as_member) (headed t p most_levels i e h)

    pub too_low : e.operand < low → Err (refusal 8 layer.Book i) ≡ answer (member t p others low i)
    too_low l = sym (ap (λ (o : Out Entry). answer o) (member_is ∙ ap (λ b. unless b 8 i (good e (i + 1))) (and_left (leb low e.operand) (not (has e.operand others)) (lt-leb low e.operand l))))

    pub among_others : has e.operand others ≡ true → Err (refusal 8 layer.Book i) ≡ answer (member t p others low i)
    among_others l =
        sym (ap (λ (o : Out Entry). answer o) (member_is ∙ ap (λ b. unless b 8 i (good e (i + 1))) (and_right (leb low e.operand) (not (has e.operand others)) (ap not l))))

    pub member_goes : low ≤ e.operand → has e.operand others ≡ false → member t p others low i ≡ good e (i + 1)
    member_goes l n = member_is ∙ ap (λ b. unless b 8 i (good e (i + 1))) (and_from (leb low e.operand) (not (has e.operand others)) (le-leb low e.operand l) (ap not n))

-- Other things made of what is read leave the answer as it is.
module _ {A B S : Type 0} (read : S → ℕ → Out A) (f : A → B) (made : S → ℕ → Out B) (next : S → B → S)
    (same : (s : S) (i : ℕ) → made s i ≡ then (read s i) (λ a j. good (f a) j)) where
  abbrev rest_read : ℕ → S → A → ℕ → Out (List A)
  rest_read m s a j = then (series read (λ s a. next s (f a)) m (next s (f a)) j) λ rest k. good (a ∷ rest) k

  abbrev rest_made : ℕ → S → B → ℕ → Out (List B)
  rest_made m s b j = then (series made next m (next s b) j) λ rest k. good (b ∷ rest) k

  after_one : (m : ℕ) (s : S) (o : Out A) → ((a : A) (j : ℕ) → answer (series read (λ s a. next s (f a)) m (next s (f a)) j) ≡ answer (series made next m (next s (f a)) j))
      → answer (then o (rest_read m s)) ≡ answer (then (then o (λ a j. good (f a) j)) (rest_made m s))
  after_one m s (bad n p) h = refl
  after_one m s (good a j) h =
      handed_on layer.Book (series read (λ s a. next s (f a)) m (next s (f a)) j) (λ rest. a ∷ rest)
      ∙ h a j
      ∙ sym (handed_on layer.Book (series made next m (next s (f a)) j) (λ rest. f a ∷ rest))

  series_made : (m : ℕ) (s : S) (i : ℕ) → answer (series read (λ s a. next s (f a)) m s i) ≡ answer (series made next m s i)
  series_made zero s i = refl
  series_made (suc m) s i = after_one m s (read s i) (λ a j. series_made m (next s (f a)) j) ∙ sym (ap (λ o. answer (then o (rest_made m s))) (same s i))

-- The atoms of both groups.
made_unless : {A B : Type 0} (f : A → B) (b : Bool) (i : ℕ) (a : A) (j : ℕ) → unless b 8 i (good (f a) j) ≡ then (unless b 8 i (good a j)) (λ x k. good (f x) k)
made_unless f true i a j = refl
made_unless f false i a j = refl

made_head : {B : Type 0} (f : Entry → B) (p q : Entry → Bool) (i : ℕ) (o : Out Entry) → ((e : Entry) → p e ≡ q e)
    → then o (λ e j. unless (p e) 8 i (good (f e) j)) ≡ then (then o (λ e j. unless (q e) 8 i (good e j))) (λ e j. good (f e) j)
made_head f p q i (bad n k) h = refl
made_head f p q i (good e j) h = ap (λ b. unless b 8 i (good (f e) j)) (h e) ∙ made_unless f (q e) i e j

and_true : (b : Bool) → b ≡ b && true
and_true true = refl
and_true false = refl

pub relevant_answer : (t : Table) → answer (members_in t place.Relevant [] t.relevant 0) ≡ answer (starts_in t)
relevant_answer t =
    let f : Entry → Start = λ e. record { atom = e.operand; starts = eqb e.kind 19 } in
    series_made (member t place.Relevant []) f (start t) after_start
    (λ low i. made_head f (λ e. leb low e.operand) (λ e. leb low e.operand && true) i (head t place.Relevant most_levels i) (λ e. and_true (leb low e.operand)))
    t.relevant 0 0

pub always_answer : (t : Table) (i : ℕ) → answer (members_in t place.Always (take t.relevant t.operands) t.always i) ≡ answer (always_in t i)
always_answer t i =
    let f : Entry → ℕ = λ e. e.operand in
    series_made (member t place.Always (take t.relevant t.operands)) f (always_true t) after_atom
    (λ low i. let q : Entry → Bool = λ e. leb low e.operand && not (is_listed t e.operand) in made_head f q q i (head t place.Always most_levels i) (λ e. refl))
    t.always 0 i

-- What rises, by places.
each_at : {A : Type 0} (P : A → Type 0) (xs : List A) → Each P xs → (d : A) (k : ℕ) → k < length xs → P (get_or xs k d)
each_at P [] h d k l = absurd (omega arith)
each_at P (x ∷ xs) h d zero l = h.0
each_at P (x ∷ xs) h d (suc k) l = each_at P xs h.1 d k (omega arith)

pub rises_by : {A : Type 0} (R : A → A → Type 0) (xs : List A) → RisingBy R xs → (d : A) (a b : ℕ) → a < b → b < length xs → R (get_or xs a d) (get_or xs b d)
rises_by R [] h d a b l m = absurd (omega arith)
rises_by R (x ∷ xs) h d zero zero l m = absurd (omega arith)
rises_by R (x ∷ xs) h d zero (suc b) l m = each_at (R x) xs h.0 d b (omega arith)
rises_by R (x ∷ xs) h d (suc a) zero l m = absurd (omega arith)
rises_by R (x ∷ xs) h d (suc a) (suc b) l m = rises_by R xs h.1 d a b (omega arith) (omega arith)

pub rises : (xs : List ℕ) → Rising xs → Rises xs
rises xs h a b l m = rises_by ◌<◌ xs h 0 a b l m
