-- Formulas and effects: what follows the first entry.
use Rattle.std.proofs.Common.{◌≡◌, ℕ, zero, suc, ◌+◌, ◌-◌, ◌<◌, ltb, ◌⊎◌, List, Ok, Err, Result, sym, ap, ◌∙◌, ⊎_elim, arith, lt-ltb}
use Rattle.fault.specs.declared.Fault.{Fault}
use Rattle.fault.specs.declared.Layer.TheVariants as layer
use Rattle.table.specs.declared.places.Place.TheVariants as place
use Rattle.table.specs.declared.kind.Kind.{Kind}
use Rattle.table.specs.declared.kind.Kind.TheVariants.{Not, And, Or, When}
use Rattle.table.specs.Kinds.{code_of}
use Rattle.table.specs.Reading.{Entry, entry, Out, bad, good, then, unless, many}
use Rattle.table.proofs.Answering.{head_refused, handed_on, step_goes}
use Rattle.table.proofs.Codes.{apart}
use Rattle.model.specs.Meaning.{Literal}
use Rattle.model.specs.Settling.{Ground, negated, group}
use Rattle.model.specs.Books.{when}
use Rattle.book.specs.Tables.{Table, head}
use Rattle.book.specs.Reads.{junction_of, grounds_of, ground_by, ground, literal, literals, clause_by, clause}
use Rattle.book.specs.Views.{answer, heading}
use Rattle.book.proofs.Heading.{head_goes}

-- Formulas.
pub ground_refused : (t : Table) (levels i : ℕ) (f : Fault) → Err f ≡ heading (head t place.Ground levels i) → Err f ≡ answer (ground t levels i)
unfolding ground
ground_refused t zero i f e = head_refused layer.Book (head t place.Ground zero i) (λ _ _. bad 6 i) f e
ground_refused t (suc levels) i f e = head_refused layer.Book (head t place.Ground (suc levels) i) (ground_by (ground t levels)) f e

pub ground_goes : (t : Table) (levels i : ℕ) (e : Entry) → 0 < levels → Ok e ≡ heading (head t place.Ground levels i) → answer (ground_by (ground t (levels - 1)) e (i + 1)) ≡ answer (ground t levels i)
unfolding ground
ground_goes t zero i e z h = absurd (omega arith)
ground_goes t (suc levels) i e z h =
    let n : suc levels - 1 ≡ levels = omega arith in
    ap (λ r. answer (ground_by (ground t r) e (i + 1))) n ∙ head_goes t place.Ground (suc levels) i e h (ground_by (ground t levels))

module _ (read : ℕ → Out Ground) (k : Kind) (o j : ℕ) where
  -- the answer after a first entry of that kind
  abbrev pub ground_after : Kind → Result ℕ Fault
  ground_after x = answer (ground_by read (entry (code_of x) o) j)

  pub after_not : k ≡ Not → answer (read j) ≡ ground_after k
  after_not h = sym (handed_on layer.Book (read j) negated) ∙ ap ground_after (sym h)

  pub after_junction : (k ≡ And) ⊎ (k ≡ Or) → answer (many read o j) ≡ ground_after k
  after_junction =
      ⊎_elim
      (λ h. sym (handed_on layer.Book (many read o j) (λ gs. group (junction_of 5) (grounds_of gs))) ∙ ap ground_after (sym h))
      (λ h. sym (handed_on layer.Book (many read o j) (λ gs. group (junction_of 6) (grounds_of gs))) ∙ ap ground_after (sym h))

  pub after_leaf : (k ≡ Not → ⊥) → (k ≡ And → ⊥) → (k ≡ Or → ⊥) → Ok j ≡ ground_after k
  after_leaf a1 a2 a3 = rw (apart k Not a1, apart k And a2, apart k Or a3)

-- Literals of a WHEN.
module _ (t : Table) (i : ℕ) (e : Entry) (h : Ok e ≡ heading (head t place.Literals 511 i)) where
  abbrev after_literals : Entry → ℕ → Out (List Literal)
  after_literals x j = unless (ltb 0 x.operand) 5 i (many (literal t) x.operand j)

  pub some_literals : (e.operand ≡ 0 → ⊥) → answer (many (literal t) e.operand (i + 1)) ≡ answer (literals t i)
  some_literals z = sym (ap (λ b. answer (unless b 5 i (many (literal t) e.operand (i + 1)))) (lt-ltb 0 e.operand (omega (arith, z)))) ∙ head_goes t place.Literals 511 i e h after_literals

-- A part of an effect.
module _ (t : Table) (i : ℕ) (k : Kind) (o : ℕ) (e : Ok (entry (code_of k) o) ≡ heading (head t place.Clause 512 i)) where
  to_clause : answer (clause_by t (entry (code_of k) o) (i + 1)) ≡ answer (clause t i)
  to_clause = head_goes t place.Clause 512 i (entry (code_of k) o) e (clause_by t)

  abbrev after : Kind → Result ℕ Fault
  after x = answer (clause_by t (entry (code_of x) o) (i + 1))

  pub when_goes : k ≡ When → (l : ℕ) → Ok l ≡ answer (ground t 511 (i + 1)) → answer (literals t l) ≡ answer (clause t i)
  when_goes h l g =
      let w = step_goes layer.Book (ground t 511 (i + 1)) (λ x m. then (literals t m) λ ls n. good (when x ls) n) l g in
      sym (handed_on layer.Book (literals t l) (when w.0)) ∙ w.2 ∙ ap after (sym h) ∙ to_clause
