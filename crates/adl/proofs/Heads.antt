-- The first entry of what is read.
use Rattle.std.proofs.Common.{◌≡◌, ℕ, ◌+◌, ◌<◌, Bool, true, false, ltb, get_or, Ok, sym, refl, ap, ◌∙◌, arith}
use Rattle.std.proofs.lemmas.Bool.{ltb-true}
use Rattle.table.specs.declared.places.Place.{Place}
use Rattle.table.specs.Permits.{permitted}
use Rattle.table.specs.Reading.{Entry, Out, good, then, unless}
use Rattle.adl.specs.Tables.{Table, Around, entry_at, within_bounds, in_range, head}
use Rattle.adl.specs.Views.{answer, heading}
use Rattle.table.proofs.Reading.{passed, first_step}

-- an entry that the code was given
after_tests : (a b c d : Bool) (x e : Entry) (i : ℕ) → Ok e ≡ heading (unless a 4 i (unless b 3 i (unless c 6 i (unless d 5 i (good x (i + 1)))))) → unless a 4 i (unless b 3 i (unless c 6 i (unless d 5 i (good x (i + 1))))) ≡ good e (i + 1)
after_tests true true true true x e i h = let q : x ≡ e = cc in ap (λ y. good y (i + 1)) q
after_tests true true true false x e i h = absurd (let z : ◌≡◌ {A = ℕ} 0 1 = cc in omega arith)
after_tests true true false d x e i h = absurd (let z : ◌≡◌ {A = ℕ} 0 1 = cc in omega arith)
after_tests true false c d x e i h = absurd (let z : ◌≡◌ {A = ℕ} 0 1 = cc in omega arith)
after_tests false b c d x e i h = absurd (let z : ◌≡◌ {A = ℕ} 0 1 = cc in omega arith)

pub headed : (t : Table) (p : Place) (a : Around) (i : ℕ) (e : Entry) → Ok e ≡ heading (head t p a i) → head t p a i ≡ good e (i + 1)
headed t p a i e h =
    after_tests (ltb i t.entries) (permitted p (get_or t.kinds i 0)) (within_bounds a i (entry_at t i)) (in_range t a (entry_at t i)) (entry_at t i) e i h

-- after an entry that the code was given, the whole goes on
pub head_goes : {B : Type 0} (t : Table) (p : Place) (a : Around) (i : ℕ) (e : Entry) (g : Entry → ℕ → Out B) → Ok e ≡ heading (head t p a i) → answer (g e (i + 1)) ≡ answer (then (head t p a i) g)
head_goes t p a i e g h = sym (ap (λ x. answer (then x g)) (headed t p a i e h))

-- the same table and the same that is known around a place
pub alike : {X : Type 0} (f : Table → Around → X) {t u : Table} {a b : Around} → t ≡ u → a ≡ b → f t a ≡ f u b
alike f {t} {u} {a} {b} p q = ap (λ x. f x a) p ∙ ap (λ y. f u y) q

-- what is known of an entry that was read
pub record Found (t : Table) (p : Place) (a : Around) (i : ℕ) (e : Entry) (j : ℕ) : Type 0 where
  pub inside : i < t.entries
  pub allowed : permitted p (get_or t.kinds i 0) ≡ true
  pub bounded : within_bounds a i (entry_at t i) ≡ true
  pub ranged : in_range t a (entry_at t i) ≡ true
  pub is : e ≡ entry_at t i
  pub ends : j ≡ i + 1

pub found : (t : Table) (p : Place) (a : Around) (i : ℕ) (e : Entry) (j : ℕ) → head t p a i ≡ good e j → Found t p a i e j
found t p a i e j h =
    let last = good (entry_at t i) (i + 1) in
    let third = unless (in_range t a (entry_at t i)) 5 i last in
    let second = unless (within_bounds a i (entry_at t i)) 6 i third in
    let first = unless (permitted p (get_or t.kinds i 0)) 3 i second in
    let w = passed (ltb i t.entries) 4 i first e j h in
    let x = passed (permitted p (get_or t.kinds i 0)) 3 i second e j w.1 in
    let y = passed (within_bounds a i (entry_at t i)) 6 i third e j x.1 in
    let z = passed (in_range t a (entry_at t i)) 5 i last e j y.1 in
    let q : good (entry_at t i) (i + 1) ≡ good e j = z.1 in
    let u : entry_at t i ≡ e = cc in
    let v : i + 1 ≡ j = cc in
    record { inside = ltb-true i t.entries w.0; allowed = x.0; bounded = y.0; ranged = z.0; is = sym u; ends = sym v }

-- a reading of one entry's operand
pub operand_read : (t : Table) (p : Place) (a : Around) (i x j : ℕ) → then (head t p a i) (λ e k. good e.operand k) ≡ good x j → Found t p a i (entry_at t i) j × (x ≡ get_or t.operands i 0)
operand_read t p a i x j h =
    let w = first_step (head t p a i) (λ e k. good e.operand k) x j h in
    let f = found t p a i w.0 w.1 w.2 in
    let q : good w.0.operand w.1 ≡ good x j = w.3 in
    let u : w.0.operand ≡ x = cc in
    let v : w.1 ≡ j = cc in (
      record { inside = f.inside; allowed = f.allowed; bounded = f.bounded; ranged = f.ranged; is = refl; ends = sym v ∙ f.ends },
      sym u ∙ ap (λ (e : Entry). e.operand) f.is,
    )
