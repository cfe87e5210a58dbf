-- Formulas, consequents and effects: what follows the first entry.
use Rattle.std.proofs.Common.{◌≡◌, ℕ, zero, suc, ◌+◌, ◌-◌, ◌<◌, true, ◌⊎◌, Ok, Err, Result, sym, ap, ◌∙◌, ⊎_elim, arith}
use Rattle.fault.specs.declared.Fault.{Fault}
use Rattle.table.specs.declared.places.Place.TheVariants as place
use Rattle.table.specs.declared.kind.Kind.{Kind}
use Rattle.table.specs.declared.kind.Kind.TheVariants.{Atom, Equal, Not, And, Or, Imply, Forall, Exists, When}
use Rattle.table.specs.Kinds.{code_of}
use Rattle.table.specs.Reading.{Entry, entry, Out, bad, good, then, many}
use Rattle.model.specs.Trees.{Formula, atom, equal, negation, junction, implication, quantifier, Consequent, outcome, outcomes, Effect, change, conjunction, for_each, when}
use Rattle.adl.specs.Tables.{Table, Around, deeper, head, most_entries}
use Rattle.adl.specs.Reads.{term, terms, junction_of, formulas_of, consequents_of, effects_of, formula_by, formula, change_by, consequent_by, consequent, effect_by, effect}
use Rattle.adl.specs.Loads.{faulty}
use Rattle.adl.specs.Views.{answer, heading}
use Rattle.fault.specs.declared.Layer.TheVariants as layer
use Rattle.table.proofs.Answering.{refused, head_refused, handed_on, step_goes}
use Rattle.adl.proofs.Heads.{head_goes}
use Rattle.table.proofs.Codes.{apart}

-- Formulas.
pub formula_refused : (t : Table) (room : ℕ) (a : Around) (i : ℕ) (f : Fault) → Err f ≡ heading (head t place.Formula a i) → Err f ≡ answer (formula t room a i)
unfolding formula
formula_refused t zero a i f e = head_refused layer.Task (head t place.Formula a i) (λ _ _. bad 6 i) f e
formula_refused t (suc room) a i f e = head_refused layer.Task (head t place.Formula a i) (formula_by t (formula t room) a) f e

pub formula_too_deep : (t : Table) (room : ℕ) (a : Around) (i : ℕ) (e : Entry) → room ≡ 0 → Ok e ≡ heading (head t place.Formula a i) → Err (faulty 6 i) ≡ answer (formula t room a i)
unfolding formula
formula_too_deep t zero a i e z h = head_goes {B = Formula} t place.Formula a i e (λ _ _. bad 6 i) h
formula_too_deep t (suc room) a i e z h = absurd (omega arith)

pub formula_goes : (t : Table) (room : ℕ) (a : Around) (i : ℕ) (e : Entry) → 0 < room → Ok e ≡ heading (head t place.Formula a i) → answer (formula_by t (formula t (room - 1)) a e (i + 1)) ≡ answer (formula t room a i)
unfolding formula
formula_goes t zero a i e z h = absurd (omega arith)
formula_goes t (suc room) a i e z h =
    let n : suc room - 1 ≡ room = omega arith in
    ap (λ r. answer (formula_by t (formula t r) a e (i + 1))) n ∙ head_goes t place.Formula a i e (formula_by t (formula t room) a) h

module _ (t : Table) (read : Around → ℕ → Out Formula) (a : Around) (k : Kind) (o j : ℕ) where
  -- the answer after a first entry of that kind
  abbrev pub formula_after : Kind → Result ℕ Fault
  formula_after x = answer (formula_by t read a (entry (code_of x) o) j)

  pub after_atom : k ≡ Atom → answer (terms t a o j) ≡ formula_after k
  after_atom h = sym (handed_on layer.Task (terms t a o j) (atom o)) ∙ ap formula_after (sym h)

  pub after_equal : k ≡ Equal → (l : ℕ) → Ok l ≡ answer (term t a j) → answer (term t a l) ≡ formula_after k
  after_equal h l e =
      let w = step_goes layer.Task (term t a j) (λ x m. then (term t a m) λ y n. good (equal x y) n) l e in
      sym (handed_on layer.Task (term t a l) (equal w.0)) ∙ w.2 ∙ ap formula_after (sym h)

  pub equal_refused : k ≡ Equal → (f : Fault) → Err f ≡ answer (term t a j) → Err f ≡ formula_after k
  equal_refused h f e = refused layer.Task (term t a j) (λ x m. then (term t a m) λ y n. good (equal x y) n) f e ∙ ap formula_after (sym h)

  pub after_not : k ≡ Not → answer (read a j) ≡ formula_after k
  after_not h = sym (handed_on layer.Task (read a j) negation) ∙ ap formula_after (sym h)

  pub after_junction : (k ≡ And) ⊎ (k ≡ Or) → answer (many (read a) o j) ≡ formula_after k
  after_junction =
      ⊎_elim
      (λ h. sym (handed_on layer.Task (many (read a) o j) (λ fs. junction (junction_of 5) (formulas_of fs))) ∙ ap formula_after (sym h))
      (λ h. sym (handed_on layer.Task (many (read a) o j) (λ fs. junction (junction_of 6) (formulas_of fs))) ∙ ap formula_after (sym h))

  pub after_imply : k ≡ Imply → (l : ℕ) → Ok l ≡ answer (read a j) → answer (read a l) ≡ formula_after k
  after_imply h l e =
      let w = step_goes layer.Task (read a j) (λ f m. then (read a m) λ g n. good (implication f g) n) l e in
      sym (handed_on layer.Task (read a l) (implication w.0)) ∙ w.2 ∙ ap formula_after (sym h)

  pub imply_refused : k ≡ Imply → (f : Fault) → Err f ≡ answer (read a j) → Err f ≡ formula_after k
  imply_refused h f e = refused layer.Task (read a j) (λ x m. then (read a m) λ y n. good (implication x y) n) f e ∙ ap formula_after (sym h)

  pub after_quantifier : (k ≡ Forall) ⊎ (k ≡ Exists) → answer (read (deeper a) j) ≡ formula_after k
  after_quantifier =
      ⊎_elim
      (λ h. sym (handed_on layer.Task (read (deeper a) j) (quantifier (junction_of 8) o)) ∙ ap formula_after (sym h))
      (λ h. sym (handed_on layer.Task (read (deeper a) j) (quantifier (junction_of 9) o)) ∙ ap formula_after (sym h))

  pub after_constant : (k ≡ Atom → ⊥) → (k ≡ Equal → ⊥) → (k ≡ Not → ⊥) → (k ≡ And → ⊥) → (k ≡ Or → ⊥) → (k ≡ Imply → ⊥) → (k ≡ Forall → ⊥) → (k ≡ Exists → ⊥) → Ok j ≡ formula_after k
  after_constant a1 a2 a3 a4 a5 a6 a7 a8 =
      rw (apart k Atom a1, apart k Equal a2, apart k Not a3, apart k And a4, apart k Or a5, apart k Imply a6, apart k Forall a7, apart k Exists a8)

-- Atoms that are added or deleted.
pub change_adds : (t : Table) (a : Around) (k : Kind) (o j : ℕ) → (k ≡ Not → ⊥) → answer (terms t a o j) ≡ answer (change_by t a (entry (code_of k) o) j)
change_adds t a k o j h =
    rw (apart k Not h) (sym (handed_on layer.Task (terms t a o j) (λ ts. record { adds = true; predicate = o; terms = ts })))

-- Consequents.
pub consequent_refused : (t : Table) (room : ℕ) (a : Around) (i : ℕ) (f : Fault) → Err f ≡ heading (head t place.Consequent a i) → Err f ≡ answer (consequent t room a i)
unfolding consequent
consequent_refused t zero a i f e = head_refused layer.Task (head t place.Consequent a i) (λ _ _. bad 6 i) f e
consequent_refused t (suc room) a i f e = head_refused layer.Task (head t place.Consequent a i) (consequent_by t (consequent t room a) a) f e

pub consequent_too_deep : (t : Table) (room : ℕ) (a : Around) (i : ℕ) (e : Entry) → room ≡ 0 → Ok e ≡ heading (head t place.Consequent a i) → Err (faulty 6 i) ≡ answer (consequent t room a i)
unfolding consequent
consequent_too_deep t zero a i e z h = head_goes {B = Consequent} t place.Consequent a i e (λ _ _. bad 6 i) h
consequent_too_deep t (suc room) a i e z h = absurd (omega arith)

pub consequent_goes : (t : Table) (room : ℕ) (a : Around) (i : ℕ) (e : Entry) → 0 < room → Ok e ≡ heading (head t place.Consequent a i) → answer (consequent_by t (consequent t (room - 1) a) a e (i + 1)) ≡ answer (consequent t room a i)
unfolding consequent
consequent_goes t zero a i e z h = absurd (omega arith)
consequent_goes t (suc room) a i e z h =
    let n : suc room - 1 ≡ room = omega arith in
    ap (λ r. answer (consequent_by t (consequent t r a) a e (i + 1))) n ∙ head_goes t place.Consequent a i e (consequent_by t (consequent t room a) a) h

module _ (t : Table) (read : ℕ → Out Consequent) (a : Around) (k : Kind) (o j : ℕ) where
  -- the answer after a first entry of that kind
  abbrev pub consequent_after : Kind → Result ℕ Fault
  consequent_after x = answer (consequent_by t read a (entry (code_of x) o) j)

  pub after_and : k ≡ And → answer (many read o j) ≡ consequent_after k
  after_and h = sym (handed_on layer.Task (many read o j) (λ cs. outcomes (consequents_of cs))) ∙ ap consequent_after (sym h)

  pub after_outcome : (k ≡ And → ⊥) → answer (change_by t a (entry (code_of k) o) j) ≡ consequent_after k
  after_outcome h = rw (apart k And h) (sym (handed_on layer.Task (change_by t a (entry (code_of k) o) j) outcome))

-- Effects.
pub effect_refused : (t : Table) (room : ℕ) (a : Around) (i : ℕ) (f : Fault) → Err f ≡ heading (head t place.Effect a i) → Err f ≡ answer (effect t room a i)
unfolding effect
effect_refused t zero a i f e = head_refused layer.Task (head t place.Effect a i) (λ _ _. bad 6 i) f e
effect_refused t (suc room) a i f e = head_refused layer.Task (head t place.Effect a i) (effect_by t (effect t room) a) f e

pub effect_too_deep : (t : Table) (room : ℕ) (a : Around) (i : ℕ) (e : Entry) → room ≡ 0 → Ok e ≡ heading (head t place.Effect a i) → Err (faulty 6 i) ≡ answer (effect t room a i)
unfolding effect
effect_too_deep t zero a i e z h = head_goes {B = Effect} t place.Effect a i e (λ _ _. bad 6 i) h
effect_too_deep t (suc room) a i e z h = absurd (omega arith)

pub effect_goes : (t : Table) (room : ℕ) (a : Around) (i : ℕ) (e : Entry) → 0 < room → Ok e ≡ heading (head t place.Effect a i) → answer (effect_by t (effect t (room - 1)) a e (i + 1)) ≡ answer (effect t room a i)
unfolding effect
effect_goes t zero a i e z h = absurd (omega arith)
effect_goes t (suc room) a i e z h =
    let n : suc room - 1 ≡ room = omega arith in
    ap (λ r. answer (effect_by t (effect t r) a e (i + 1))) n ∙ head_goes t place.Effect a i e (effect_by t (effect t room) a) h

module _ (t : Table) (read : Around → ℕ → Out Effect) (a : Around) (k : Kind) (o j : ℕ) where
  -- the answer after a first entry of that kind
  abbrev pub effect_after : Kind → Result ℕ Fault
  effect_after x = answer (effect_by t read a (entry (code_of x) o) j)

  pub after_conjunction : k ≡ And → answer (many (read a) o j) ≡ effect_after k
  after_conjunction h = sym (handed_on layer.Task (many (read a) o j) (λ es. conjunction (effects_of es))) ∙ ap effect_after (sym h)

  pub after_forall : k ≡ Forall → answer (read (deeper a) j) ≡ effect_after k
  after_forall h = sym (handed_on layer.Task (read (deeper a) j) (for_each o)) ∙ ap effect_after (sym h)

  pub after_when : k ≡ When → (l : ℕ) → Ok l ≡ answer (formula t most_entries a j) → answer (consequent t most_entries a l) ≡ effect_after k
  after_when h l e =
      let w = step_goes layer.Task (formula t most_entries a j) (λ f m. then (consequent t most_entries a m) λ c n. good (when f c) n) l e in
      sym (handed_on layer.Task (consequent t most_entries a l) (when w.0)) ∙ w.2 ∙ ap effect_after (sym h)

  pub when_refused : k ≡ When → (f : Fault) → Err f ≡ answer (formula t most_entries a j) → Err f ≡ effect_after k
  when_refused h f e = refused layer.Task (formula t most_entries a j) (λ x m. then (consequent t most_entries a m) λ y n. good (when x y) n) f e ∙ ap effect_after (sym h)

  pub after_change : (k ≡ And → ⊥) → (k ≡ Forall → ⊥) → (k ≡ When → ⊥) → answer (change_by t a (entry (code_of k) o) j) ≡ effect_after k
  after_change a1 a2 a3 = rw (apart k And a1, apart k Forall a2, apart k When a3) (sym (handed_on layer.Task (change_by t a (entry (code_of k) o) j) change))
