-- The operators of a table, part after part, and the places where they begin.
use Rattle.std.proofs.Common.{◌≡◌, ℕ, ◌+◌, ◌-◌, ◌<◌, List, [], ◌∷◌, ◌++◌, map, length, get_or, take, set, Ok, Err, sym, ap, ◌∙◌, append_assoc, arith}
use Rattle.std.proofs.lemmas.List.{take_more_set, append-nil}
use Rattle.fault.specs.declared.Fault.{Fault}
use Rattle.table.specs.declared.places.Place.TheVariants as place
use Rattle.table.specs.Reading.{Entry, Out, good, then, many, next_place, starts}
use Rattle.model.specs.Trees.{Formula, Operator}
use Rattle.adl.specs.Tables.{Table, outermost, head}
use Rattle.adl.specs.Reads.{formula, effect, parameter, operator, precondition_place, effect_place}
use Rattle.adl.specs.Views.{answer, heading}
use Rattle.fault.specs.declared.Layer.TheVariants as layer
use Rattle.table.proofs.Answering.{refused, read_well, place_after, handed_on}
use Rattle.table.proofs.Reading.{singles_end, starts_turn, starts_over}
use Rattle.adl.proofs.Heads.{headed, found}
use Rattle.adl.proofs.Declared.{parameter_single}

module _ (t : Table) (i : ℕ) (e : Entry) (first : Ok e ≡ heading (head t place.Operator (outermost 0 i) i)) (k : ℕ) (second : Ok k ≡ answer (many (parameter t) e.operand (i + 1))) where
  abbrev after_precondition : List ℕ → Formula → ℕ → Out Operator
  after_precondition tys f l = then (effect t 256 (outermost e.operand l) l) λ g m. good (record { parameters = tys; precondition = f; effect = g }) m

  abbrev after_parameters : List ℕ → Out Operator
  after_parameters tys = then (formula t 256 (outermost e.operand k) k) (after_precondition tys)

  to_precondition : (tys : List ℕ) × (operator t i ≡ after_parameters tys)
  to_precondition =
      let w = read_well layer.Task (many (parameter t) e.operand (i + 1)) k second in
      let g : Entry → List ℕ → ℕ → Out Operator = λ x tys l. then (formula t 256 (outermost x.operand l) l) λ f n. then (effect t 256 (outermost x.operand n) n) λ h m. good (record { parameters = tys; precondition = f; effect = h }) m in (
        w.0,
        ap (λ o. then o (λ x j. then (many (parameter t) x.operand j) (g x))) (headed t place.Operator (outermost 0 i) i e first)
            ∙ ap (λ o. then o (g e)) w.1,
      )

  pub precondition_refused : (f : Fault) → Err f ≡ answer (formula t 256 (outermost e.operand k) k) → Err f ≡ answer (operator t i)
  precondition_refused f h =
      refused layer.Task (formula t 256 (outermost e.operand k) k) (after_precondition to_precondition.0) f h ∙ sym (ap (λ (o : Out Operator). answer o) to_precondition.1)

  -- the operator answers as its effect does
  pub effect_answers : (l : ℕ) → Ok l ≡ answer (formula t 256 (outermost e.operand k) k) → answer (effect t 256 (outermost e.operand l) l) ≡ answer (operator t i)
  effect_answers l third =
      let w = read_well layer.Task (formula t 256 (outermost e.operand k) k) l third in
      let n : operator t i ≡ after_precondition to_precondition.0 w.0 l = to_precondition.1 ∙ ap (λ o. then o (after_precondition to_precondition.0)) w.1 in
      sym (handed_on layer.Task (effect t 256 (outermost e.operand l) l) (λ g. record { parameters = to_precondition.0; precondition = w.0; effect = g }))
      ∙ sym (ap (λ (o : Out Operator). answer o) n)

  -- the effect begins where the precondition ends
  pub effect_begins : (l : ℕ) → Ok l ≡ answer (formula t 256 (outermost e.operand k) k) → l ≡ effect_place t i
  effect_begins l third =
      let f = found t place.Operator (outermost 0 i) i e (i + 1) (headed t place.Operator (outermost 0 i) i e first) in
      let n : e.operand ≡ get_or t.operands i 0 = ap (λ (x : Entry). x.operand) f.is in
      let w = read_well layer.Task (many (parameter t) e.operand (i + 1)) k second in
      let z : k ≡ i + 1 + e.operand = singles_end (λ (_ : Unit {0}). parameter t) (λ _ _. tt) (λ _ x a j h. parameter_single t x a j h) e.operand tt (i + 1) w.0 k w.1 in
      let y : k ≡ precondition_place t i = z ∙ ap (λ x. i + 1 + x) n in
      sym (place_after layer.Task (formula t 256 (outermost e.operand k) k) l third)
      ∙ ap (λ x. next_place (formula t 256 (outermost x k) k)) n
      ∙ ap (λ x. next_place (formula t 256 (outermost (get_or t.operands i 0) x) x)) y

-- What a loop notes of the places where items begin, i of which are done.
pub noted : {A B : Type 0} (read : ℕ → Out A) (f : ℕ → B) (m i from to : ℕ) (v : B) (vs whole : List B) → i < m → i < length vs → v ≡ f from → next_place (read from) ≡ to
    → take i vs ++ map f (starts read (m - i) from) ≡ whole → take (i + 1) (set vs i v) ++ map f (starts read (m - (i + 1)) to) ≡ whole
noted read f m i from to v vs whole h n same e inv =
    ap (λ xs. xs ++ map f (starts read (m - (i + 1)) to)) (take_more_set vs i v n ∙ ap (λ x. take i vs ++ x ∷ []) same)
    ∙ append_assoc (take i vs) (f from ∷ []) (map f (starts read (m - (i + 1)) to))
    ∙ ap (λ ys. take i vs ++ map f ys) (sym (starts_turn read m i from to h e))
    ∙ inv

-- when none is left, all are noted
pub all_noted : {A B : Type 0} (read : ℕ → Out A) (f : ℕ → B) (m i from : ℕ) (vs whole : List B) → i ≡ m → take i vs ++ map f (starts read (m - i) from) ≡ whole → take m vs ≡ whole
all_noted read f m i from vs whole e inv =
    let z : m - i ≡ 0 = omega arith in
    ap (λ n. take n vs) (sym e) ∙ sym (append-nil (take i vs)) ∙ ap (λ ys. take i vs ++ map f ys) (sym (starts_over read (m - i) from z)) ∙ inv
