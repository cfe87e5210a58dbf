-- Entries of a book that were read.
use Rattle.std.proofs.Common.{◌≡◌, ℕ, ◌+◌, ◌<◌, ◌≤◌, true, not, ◌&&◌, eqb, ltb, leb, get_or, sym, ap, ◌∙◌, subst, arith}
use Rattle.std.proofs.lemmas.Bool.{ltb-true, leb-true, and_parts}
use Rattle.table.specs.declared.places.Place.{Place}
use Rattle.table.specs.declared.places.Place.TheVariants as place
use Rattle.table.specs.Permits.{permitted}
use Rattle.table.specs.Reading.{Entry, entry, Out, good, then, unless}
use Rattle.table.proofs.Reading.{passed, first_step}
use Rattle.model.specs.Books.{Start}
use Rattle.book.specs.Tables.{Table, entry_at, most_levels, in_range, head}
use Rattle.book.specs.Reads.{start, is_listed, always_true}

-- what is known of an entry that may stand at its place
pub record Headed (t : Table) (p : Place) (levels i : ℕ) : Type 0 where
  pub inside : i < t.entries
  pub permits : permitted p (get_or t.kinds i 0) ≡ true
  pub levelled : 0 < levels
  pub ranged : in_range t (entry_at t i) ≡ true

-- the entry that was read is the one that stands there
pub headed : (t : Table) (p : Place) (levels i : ℕ) (e : Entry) (j : ℕ) → head t p levels i ≡ good e j → Headed t p levels i × (e ≡ entry_at t i) × (j ≡ i + 1)
headed t p levels i e j h =
    let last = good (entry_at t i) (i + 1) in
    let third = unless (in_range t (entry_at t i)) 5 i last in
    let second = unless (ltb 0 levels) 6 i third in
    let first = unless (permitted p (get_or t.kinds i 0)) 3 i second in
    let w = passed (ltb i t.entries) 4 i first e j h in
    let x = passed (permitted p (get_or t.kinds i 0)) 3 i second e j w.1 in
    let y = passed (ltb 0 levels) 6 i third e j x.1 in
    let z = passed (in_range t (entry_at t i)) 5 i last e j y.1 in
    let q : good (entry_at t i) (i + 1) ≡ good e j = z.1 in
    let u : entry_at t i ≡ e = cc in
    let v : i + 1 ≡ j = cc in
    (record { inside = ltb-true i t.entries w.0; permits = x.0; levelled = ltb-true 0 levels y.0; ranged = z.0 }, sym u, sym v)

-- a reading goes on from its first entry
pub on_from : {B : Type 0} (t : Table) (p : Place) (levels i : ℕ) (g : Entry → ℕ → Out B) (b : B) (l : ℕ) → then (head t p levels i) g ≡ good b l
    → Headed t p levels i × (g (entry_at t i) (i + 1) ≡ good b l)
on_from t p levels i g b l e =
    let w = first_step (head t p levels i) g b l e in
    let h = headed t p levels i w.0 w.1 w.2 in
    (h.0, ap (λ n. g (entry_at t i) n) (sym h.2) ∙ ap (λ x. g x w.1) (sym h.1) ∙ w.3)

-- the operand is in the range of a kind that is known
pub ranged_at : (t : Table) (k o n : ℕ) → in_range t (entry k o) ≡ true → k ≡ n → in_range t (entry n o) ≡ true
ranged_at t k o n h e = subst (λ x. in_range t (entry x o) ≡ true) e h

-- an atom that starts true or false
pub record StartRead (t : Table) (low i : ℕ) (s : Start) (j : ℕ) : Type 0 where
  pub headed : Headed t place.Relevant most_levels i
  pub atom : s.atom ≡ get_or t.operands i 0
  pub starts : s.starts ≡ eqb (get_or t.kinds i 0) 19
  pub above : low ≤ s.atom
  pub ends : j ≡ i + 1

pub start_read : (t : Table) (low i : ℕ) (s : Start) (j : ℕ) → start t low i ≡ good s j → StartRead t low i s j
start_read t low i s j e =
    let o = get_or t.operands i 0 in
    let b : Start = record { atom = o; starts = eqb (get_or t.kinds i 0) 19 } in
    let w = on_from t place.Relevant most_levels i (λ e j. unless (leb low e.operand) 8 i (good (record { atom = e.operand; starts = eqb e.kind 19 }) j)) s j e in
    let v = passed (leb low o) 8 i (good b (i + 1)) s j w.1 in
    let q : good b (i + 1) ≡ good s j = v.1 in
    let x : b ≡ s = cc in
    let y : i + 1 ≡ j = cc in
    let a : o ≡ s.atom = ap (λ (z : Start). z.atom) x in
    record {
      headed = w.0;
      atom = sym a;
      starts = sym (ap (λ (z : Start). z.starts) x);
      above = omega (arith, leb-true low o v.0);
      ends = sym y;
    }

-- an atom that is always true
pub record AlwaysRead (t : Table) (low i k j : ℕ) : Type 0 where
  pub headed : Headed t place.Always most_levels i
  pub atom : k ≡ get_or t.operands i 0
  pub above : low ≤ k
  pub apart : not (is_listed t k) ≡ true
  pub ends : j ≡ i + 1

pub always_read : (t : Table) (low i k j : ℕ) → always_true t low i ≡ good k j → AlwaysRead t low i k j
always_read t low i k j e =
    let o = get_or t.operands i 0 in
    let w = on_from t place.Always most_levels i (λ e j. unless (leb low e.operand && not (is_listed t e.operand)) 8 i (good e.operand j)) k j e in
    let v = passed (leb low o && not (is_listed t o)) 8 i (good o (i + 1)) k j w.1 in
    let u = and_parts (leb low o) (not (is_listed t o)) v.0 in
    let q : good o (i + 1) ≡ good k j = v.1 in
    let x : o ≡ k = cc in
    let y : i + 1 ≡ j = cc in
    record {
      headed = w.0;
      atom = sym x;
      above = omega (arith, leb-true low o u.0);
      apart = ap (λ z. not (is_listed t z)) (sym x) ∙ u.1;
      ends = sym y;
    }
