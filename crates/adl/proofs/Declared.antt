-- The declarations of a table.
use Rattle.std.proofs.Common.{◌≡◌, ℕ, ◌+◌, ◌-◌, ◌^◌, ◌<◌, ◌≤◌, Bool, true, false, cond, ◌&&◌, leb, List, [], ◌∷◌, get_or, Some, None, Ok, sym, refl, ap, ◌∙◌, subst, arith}
use Rattle.std.proofs.Math.Nat.{pow-le-pow_left, pow-le-pow_right}
use Rattle.std.proofs.lemmas.Bool.{ltb-true, eqb-true, leb-true, le-leb, and_parts}
use Rattle.table.specs.declared.places.Place.TheVariants as place
use Rattle.table.specs.Reading.{Entry, entry, Out, good, then, unless, series}
use Rattle.model.specs.Trees.{atoms_of}
use Rattle.adl.specs.Tables.{Table, Around, in_range, outermost, head}
use Rattle.adl.specs.Reads.{type_set, with_atoms, predicate, parameter}
use Rattle.adl.specs.Views.{answer, heading}
use Rattle.fault.specs.declared.Layer.TheVariants as layer
use Rattle.table.proofs.Answering.{read_well, series_turn}
use Rattle.table.proofs.Reading.{first_step, passed, series_first}
use Rattle.adl.proofs.Heads.{headed, found, operand_read}

-- a power that the table of powers has
power_under : (b : Bool) (x y : ℕ) → Some y ≡ cond b (Some x) None → (b ≡ true) × (y ≡ x)
power_under true x y e = let q : y ≡ x = cc in (refl, q)
power_under false x y e = absurd (let z : ◌≡◌ {A = ℕ} 0 1 = cc in omega arith)

pub power_found : (n k y : ℕ) → Some y ≡ cond (leb n 32 && leb k 4) (Some (n ^ k)) None → (y ≡ n ^ k) × (y ≤ 1048576)
power_found n k y e =
    let w = power_under (leb n 32 && leb k 4) (n ^ k) y e in
    let v = and_parts (leb n 32) (leb k 4) w.0 in
    let a : n ^ k ≤ 32 ^ k = pow-le-pow_left (leb-true n 32 v.0) k in
    let b : 32 ^ k ≤ 32 ^ 4 = pow-le-pow_right {n = 32} (omega arith) (leb-true k 4 v.1) in
    let c : y ≡ n ^ k = w.1 in
    (c, omega arith)

-- Predicates.
module _ (t : Table) where
  pub predicate_goes : (before i : ℕ) (e : Entry) → Ok e ≡ heading (head t place.Predicate (outermost 0 i) i) → before + t.objects ^ e.operand ≤ 65536 → predicate t before i ≡ good e.operand (i + 1)
  predicate_goes before i e h few =
      ap (λ x. then x (λ y j. unless (leb (with_atoms t before y.operand) 65536) 7 i (good y.operand j))) (headed t place.Predicate (outermost 0 i) i e h)
      ∙ ap (λ b. unless b 7 i (good e.operand (i + 1))) (le-leb (before + t.objects ^ e.operand) 65536 few)

  -- a turn of the loop over m predicates, of which k are done
  pub predicates_turn : (m k s i s' j : ℕ) → k < m → Ok j ≡ answer (predicate t s i) → ((a l : ℕ) → predicate t s i ≡ good a l → s' ≡ with_atoms t s a)
      → answer (series (predicate t) (with_atoms t) (m - (k + 1)) s' j) ≡ answer (series (predicate t) (with_atoms t) (m - k) s i)
  predicates_turn m k s i s' j h e n =
      let w = read_well layer.Task (predicate t s i) j e in
      ap (λ x. answer (series (predicate t) (with_atoms t) (m - (k + 1)) x j)) (n w.0 j w.1)
      ∙ series_turn layer.Task (predicate t) (with_atoms t) m k s i w.0 j h w.1

  -- what m predicates add to s atoms makes the whole
  abbrev pub Counts : ℕ → ℕ → ℕ → Out (List ℕ) → Type 0
  Counts m s i whole =
      (ps : List ℕ) (l : ℕ) → whole ≡ good ps l
      → (rest : List ℕ) × (series (predicate t) (with_atoms t) m s i ≡ good rest l) × (s + atoms_of t.objects rest ≡ atoms_of t.objects ps)

  pub counts_turn : (m k s i s' j : ℕ) (whole : Out (List ℕ)) → k < m → Ok j ≡ answer (predicate t s i) → ((a l : ℕ) → predicate t s i ≡ good a l → s' ≡ with_atoms t s a) → Counts (m - k) s i whole → Counts (m - (k + 1)) s' j whole
  counts_turn m k s i s' j whole h e n c ps l q =
      let w = c ps l q in
      let v = series_first (predicate t) (with_atoms t) (m - k) s i w.0 l (omega arith) w.1 in
      let x = read_well layer.Task (predicate t s i) j e in
      let g : good v.0 v.1 ≡ good x.0 j = sym v.3 ∙ x.1 in
      let y : v.1 ≡ j = cc in
      let z : s' ≡ with_atoms t s v.0 = n v.0 v.1 v.3 in
      let r : m - (k + 1) ≡ m - k - 1 = omega arith in
      let u : s + atoms_of t.objects (v.0 ∷ v.2) ≡ atoms_of t.objects ps = ap (λ xs. s + atoms_of t.objects xs) (sym v.5) ∙ w.2 in (
        v.2,
        ap (λ a. series (predicate t) (with_atoms t) a s' j) r ∙ ap (λ a. series (predicate t) (with_atoms t) (m - k - 1) a j) z ∙ ap (λ a. series (predicate t) (with_atoms t) (m - k - 1) (with_atoms t s v.0) a) (sym y) ∙ v.4,
        omega arith,
      )

  pub counts_none : (s i : ℕ) (m : ℕ) → s ≡ 0 → Counts (m - 0) s i (series (predicate t) (with_atoms t) m s i)
  counts_none s i m z ps l q =
      let n : m - 0 ≡ m = omega arith in
      (ps, ap (λ x. series (predicate t) (with_atoms t) x s i) n ∙ q, omega arith)

  -- when none is left, the whole is counted
  pub counts_all : (m s i : ℕ) (whole : Out (List ℕ)) → m ≡ 0 → Counts m s i whole → (ps : List ℕ) (l : ℕ) → whole ≡ good ps l → s ≡ atoms_of t.objects ps
  counts_all m s i whole z c ps l q =
      let w = c ps l q in
      let e : good [] i ≡ good w.0 l = sym (ap (λ x. series (predicate t) (with_atoms t) x s i) z) ∙ w.1 in
      let n : [] ≡ w.0 = cc in
      let y : s + 0 ≡ atoms_of t.objects ps = ap (λ xs. s + atoms_of t.objects xs) n ∙ w.2 in
      omega (arith, y)

-- an operand in the range of its kind
pub range_of : (t : Table) (a : Around) (k n o : ℕ) → k ≡ n → in_range t a (entry k o) ≡ true → in_range t a (entry n o) ≡ true
range_of t a k n o e h = subst (λ x. in_range t a (entry x o) ≡ true) e h

-- a predicate that was read
pub record PredicateRead (t : Table) (s i a j : ℕ) : Type 0 where
  pub is : a ≡ get_or t.operands i 0
  pub small : a < 4
  pub ends : j ≡ i + 1
  pub few : with_atoms t s a ≤ 65536

pub predicate_read : (t : Table) (s i a j : ℕ) → predicate t s i ≡ good a j → PredicateRead t s i a j
predicate_read t s i a j e =
    let g : Entry → ℕ → Out ℕ = λ y l. unless (leb (with_atoms t s y.operand) 65536) 7 i (good y.operand l) in
    let w = first_step (head t place.Predicate (outermost 0 i) i) g a j e in
    let v = passed (leb (with_atoms t s w.0.operand) 65536) 7 i (good w.0.operand w.1) a j w.3 in
    let f = found t place.Predicate (outermost 0 i) i w.0 w.1 w.2 in
    let q : good w.0.operand w.1 ≡ good a j = v.1 in
    let u : w.1 ≡ j = cc in
    let o : w.0.operand ≡ a = cc in
    let b : a ≡ get_or t.operands i 0 = sym o ∙ ap (λ (x : Entry). x.operand) f.is in
    let k = get_or t.kinds i 0 in
    let r = range_of t (outermost 0 i) k 15 (get_or t.operands i 0) (eqb-true k 15 f.allowed) f.ranged in
    record {
      is = b;
      small = omega (arith, ltb-true (get_or t.operands i 0) 4 r);
      ends = sym u ∙ f.ends;
      few = subst (λ x. with_atoms t s x ≤ 65536) o (leb-true (with_atoms t s w.0.operand) 65536 v.0);
    }

-- what is read of one entry ends one place on
pub predicate_single : (t : Table) (s i a j : ℕ) → predicate t s i ≡ good a j → j ≡ i + 1
predicate_single t s i a j e = (predicate_read t s i a j e).ends

pub type_single : (t : Table) (i a j : ℕ) → type_set t i ≡ good a j → j ≡ i + 1
type_single t i a j e = (operand_read t place.TypeSet (outermost 0 i) i a j e).0.ends

pub parameter_single : (t : Table) (i a j : ℕ) → parameter t i ≡ good a j → j ≡ i + 1
parameter_single t i a j e = (operand_read t place.Parameter (outermost 0 i) i a j e).0.ends
