-- Readings that went well, from their first entry on.
use Rattle.std.proofs.Common.{◌≡◌, ℕ, zero, suc, ◌+◌, ◌<◌, ◌≤◌, Bool, true, false, cond, ◌||◌, eqb, List, [], ◌∷◌, get_or, sym, refl, ap, ◌∙◌, arith}
use Rattle.table.specs.declared.places.Place.{Place}
use Rattle.table.specs.declared.places.Place.TheVariants as place
use Rattle.table.specs.Permits.{permitted}
use Rattle.table.specs.Reading.{Entry, Out, bad, good, then, many}
use Rattle.model.specs.Trees.{Term, Formula, constant, atom, equal, negation, junction, implication, quantifier}
use Rattle.adl.specs.Tables.{Table, Around, entry_at, arity, deeper, within_bounds, in_range, head}
use Rattle.table.proofs.Reading.{bad_is_not_good, first_step}
use Rattle.adl.proofs.Heads.{found}
use Rattle.adl.specs.Reads.{term_of, term, terms, junction_of, formulas_of, formula_by, formula}

-- the place after what was read
pub last : {A : Type 0} (x y : A) (k l : ℕ) → good x k ≡ good y l → k ≡ l
last x y k l e = cc

-- what is known of an entry that may stand at its place
pub record Headed (t : Table) (p : Place) (a : Around) (i : ℕ) : Type 0 where
  pub inside : i < t.entries
  pub permits : permitted p (get_or t.kinds i 0) ≡ true
  pub bounded : within_bounds a i (entry_at t i) ≡ true
  pub ranged : in_range t a (entry_at t i) ≡ true

-- the entry that was read is the one that stands there
pub headed : (t : Table) (p : Place) (a : Around) (i : ℕ) (e : Entry) (j : ℕ) → head t p a i ≡ good e j → Headed t p a i × (e ≡ entry_at t i) × (j ≡ i + 1)
headed t p a i e j h =
    let f = found t p a i e j h in
    (record { inside = f.inside; permits = f.allowed; bounded = f.bounded; ranged = f.ranged }, f.is, f.ends)

-- a reading goes on from its first entry
pub on_from : {B : Type 0} (t : Table) (p : Place) (a : Around) (i : ℕ) (g : Entry → ℕ → Out B) (b : B) (l : ℕ) → then (head t p a i) g ≡ good b l
    → Headed t p a i × (g (entry_at t i) (i + 1) ≡ good b l)
on_from t p a i g b l e =
    let w = first_step (head t p a i) g b l e in
    let h = headed t p a i w.0 w.1 w.2 in
    (h.0, ap (λ n. g (entry_at t i) n) (sym h.2) ∙ ap (λ x. g x w.1) (sym h.1) ∙ w.3)

-- Terms.

-- an entry that is read as a term, and the place after it
pub term_read : (t : Table) (a : Around) (i : ℕ) (x : Term) (j : ℕ) → term t a i ≡ good x j → Headed t place.Term a i × (x ≡ term_of (entry_at t i)) × (j ≡ i + 1)
term_read t a i x j e =
    let w = on_from t place.Term a i (λ e k. good (term_of e) k) x j e in
    let q : good (term_of (entry_at t i)) (i + 1) ≡ good x j = w.1 in
    let p : term_of (entry_at t i) ≡ x = cc in
    let r : i + 1 ≡ j = cc in
    (w.0, sym p, sym r)

-- no items take no place
pub none_read : {A : Type 0} (read : ℕ → Out A) (m i : ℕ) (xs : List A) (j : ℕ) → m ≡ 0 → many read m i ≡ good xs j → (xs ≡ []) × (j ≡ i)
none_read {A} read m i xs j h e =
    let q : ◌≡◌ {A = Out (List A)} (good [] i) (good xs j) = ap (λ n. many read n i) (sym h) ∙ e in
    let p : [] ≡ xs = cc in
    let r : i ≡ j = cc in
    (sym p, sym r)

-- the first of m + 1 items, and the others after it
pub first_read : {A : Type 0} (read : ℕ → Out A) (m i : ℕ) (xs : List A) (j : ℕ) → many read (suc m) i ≡ good xs j
    → (x : A) × (k : ℕ) × (ys : List A) × (read i ≡ good x k) × (many read m k ≡ good ys j) × (xs ≡ x ∷ ys)
first_read read m i xs j e =
    let w = first_step (read i) (λ x k. then (many read m k) λ rest l. good (x ∷ rest) l) xs j e in
    let v = first_step (many read m w.1) (λ rest l. good (w.0 ∷ rest) l) xs j w.3 in
    let q : good (w.0 ∷ v.0) v.1 ≡ good xs j = v.3 in
    let p : w.0 ∷ v.0 ≡ xs = cc in
    let r : v.1 ≡ j = cc in
    (w.0, w.1, v.0, w.2, v.2 ∙ ap (good v.0) r, sym p)

-- a reading of so many items, each of which goes on, does not go back
pub items_go_on : {A : Type 0} (read : ℕ → Out A) → ((i : ℕ) (x : A) (j : ℕ) → read i ≡ good x j → i < j) → (m i : ℕ) (xs : List A) (j : ℕ) → many read m i ≡ good xs j → i ≤ j
items_go_on read h zero i xs j e = omega (arith, (none_read read 0 i xs j refl e).1)
items_go_on read h (suc m) i xs j e =
    let w = first_read read m i xs j e in
    omega (arith, h i w.0 w.1 w.3, items_go_on read h m w.1 w.2 j w.4)

-- a term has one entry
pub term_goes_on : (t : Table) (a : Around) (i : ℕ) (x : Term) (j : ℕ) → term t a i ≡ good x j → i < j
term_goes_on t a i x j e = omega (arith, (term_read t a i x j e).2)

-- what follows the first entry does not go back
parts_go_on : (t : Table) (read : Around → ℕ → Out Formula) → ((a : Around) (i : ℕ) (f : Formula) (j : ℕ) → read a i ≡ good f j → i < j)
    → (a : Around) (e : Entry) (j : ℕ) (f : Formula) (l : ℕ) → formula_by t read a e j ≡ good f l → j ≤ l
parts_go_on t read h a e j f l q = by_kind (eqb e.kind 2) (eqb e.kind 3) (eqb e.kind 4) (eqb e.kind 5 || eqb e.kind 6) (eqb e.kind 7) (eqb e.kind 8 || eqb e.kind 9) q
  where
    by_kind : (is_atom is_equal is_not is_list is_imply is_quantifier : Bool) →
        cond is_atom (then (terms t a e.operand j) λ ts k. good (atom e.operand ts) k)
        (cond is_equal (then (term t a j) λ x k. then (term t a k) λ y l. good (equal x y) l)
        (cond is_not (then (read a j) λ f k. good (negation f) k)
        (cond is_list (then (many (read a) e.operand j) λ fs k. good (junction (junction_of e.kind) (formulas_of fs)) k)
        (cond is_imply (then (read a j) λ f k. then (read a k) λ g l. good (implication f g) l)
        (cond is_quantifier (then (read (deeper a) j) λ f k. good (quantifier (junction_of e.kind) e.operand f) k)
        (good (constant (eqb e.kind 0)) j)))))) ≡ good f l → j ≤ l
    by_kind true is_equal is_not is_list is_imply is_quantifier x =
        let w = first_step (terms t a e.operand j) (λ ts k. good (atom e.operand ts) k) f l x in
        omega (arith, items_go_on (term t a) (term_goes_on t a) (arity t e.operand) j w.0 w.1 w.2, last (atom e.operand w.0) f w.1 l w.3)
    by_kind false true is_not is_list is_imply is_quantifier x =
        let w = first_step (term t a j) (λ x k. then (term t a k) λ y l. good (equal x y) l) f l x in
        let u = first_step (term t a w.1) (λ y l. good (equal w.0 y) l) f l w.3 in
        omega (arith, term_goes_on t a j w.0 w.1 w.2, term_goes_on t a w.1 u.0 u.1 u.2, last (equal w.0 u.0) f u.1 l u.3)
    by_kind false false true is_list is_imply is_quantifier x =
        let w = first_step (read a j) (λ g k. good (negation g) k) f l x in
        omega (arith, h a j w.0 w.1 w.2, last (negation w.0) f w.1 l w.3)
    by_kind false false false true is_imply is_quantifier x =
        let w = first_step (many (read a) e.operand j) (λ fs k. good (junction (junction_of e.kind) (formulas_of fs)) k) f l x in
        omega (arith, items_go_on (read a) (h a) e.operand j w.0 w.1 w.2, last (junction (junction_of e.kind) (formulas_of w.0)) f w.1 l w.3)
    by_kind false false false false true is_quantifier x =
        let w = first_step (read a j) (λ g k. then (read a k) λ o m. good (implication g o) m) f l x in
        let u = first_step (read a w.1) (λ o m. good (implication w.0 o) m) f l w.3 in
        omega (arith, h a j w.0 w.1 w.2, h a w.1 u.0 u.1 u.2, last (implication w.0 u.0) f u.1 l u.3)
    by_kind false false false false false true x =
        let w = first_step (read (deeper a) j) (λ g k. good (quantifier (junction_of e.kind) e.operand g) k) f l x in
        omega (arith, h (deeper a) j w.0 w.1 w.2, last (quantifier (junction_of e.kind) e.operand w.0) f w.1 l w.3)
    by_kind false false false false false false x = omega (arith, last (constant (eqb e.kind 0)) f j l x)

-- a formula has at least one entry
pub goes_on : (t : Table) (room : ℕ) (a : Around) (i : ℕ) (f : Formula) (j : ℕ) → formula t room a i ≡ good f j → i < j
unfolding formula
goes_on t zero a i f j e = let w = on_from t place.Formula a i (λ e j. bad 6 i) f j e in bad_is_not_good 6 i f j w.1
goes_on t (suc r) a i f j e =
    let w = on_from t place.Formula a i (λ e k. formula_by t (formula t r) a e k) f j e in
    omega (arith, parts_go_on t (formula t r) (goes_on t r) a (entry_at t i) (i + 1) f j w.1)
