-- The first entry of what is read.
use Rattle.std.proofs.Common.{◌≡◌, ℕ, ◌+◌, Bool, true, false, ltb, get_or, Ok, Err, Result, sym, ap, arith}
use Rattle.std.specs.Result.{IsErrAnd}
use Rattle.fault.specs.declared.Fault.{Fault}
use Rattle.table.specs.declared.places.Place.{Place}
use Rattle.table.specs.Permits.{permitted}
use Rattle.table.specs.Reading.{Entry, Out, good, then, unless}
use Rattle.book.specs.Tables.{Table, entry_at, in_range, head}
use Rattle.book.specs.Views.{answer, heading}

-- a refusal that is handed on
pub handed_back : {A : Type 0} (r : Result A Fault) (f : Fault) → IsErrAnd r (λ g. g ≡ f) → r ≡ Err f
handed_back (Ok x) f h = absurd h
handed_back (Err g) f h = ap Err h

-- an entry that the code was given
after_tests : (a b c d : Bool) (x e : Entry) (i : ℕ) → Ok e ≡ heading (unless a 4 i (unless b 3 i (unless c 6 i (unless d 5 i (good x (i + 1)))))) → (unless a 4 i (unless b 3 i (unless c 6 i (unless d 5 i (good x (i + 1))))) ≡ good e (i + 1)) × (x ≡ e)
after_tests true true true true x e i h = let q : x ≡ e = cc in (ap (λ y. good y (i + 1)) q, q)
after_tests true true true false x e i h = absurd (let z : ◌≡◌ {A = ℕ} 0 1 = cc in omega arith)
after_tests true true false d x e i h = absurd (let z : ◌≡◌ {A = ℕ} 0 1 = cc in omega arith)
after_tests true false c d x e i h = absurd (let z : ◌≡◌ {A = ℕ} 0 1 = cc in omega arith)
after_tests false b c d x e i h = absurd (let z : ◌≡◌ {A = ℕ} 0 1 = cc in omega arith)

module _ (t : Table) (p : Place) (levels i : ℕ) (e : Entry) (h : Ok e ≡ heading (head t p levels i)) where
  both : (head t p levels i ≡ good e (i + 1)) × (entry_at t i ≡ e)
  both = after_tests (ltb i t.entries) (permitted p (get_or t.kinds i 0)) (ltb 0 levels) (in_range t (entry_at t i)) (entry_at t i) e i h

  pub headed : head t p levels i ≡ good e (i + 1)
  headed = both.0

  -- it is the entry that stands there
  pub head_is : entry_at t i ≡ e
  head_is = both.1

  -- after an entry that the code was given, the whole goes on
  pub head_goes : {B : Type 0} (g : Entry → ℕ → Out B) → answer (g e (i + 1)) ≡ answer (then (head t p levels i) g)
  head_goes g = sym (ap (λ x. answer (then x g)) headed)
