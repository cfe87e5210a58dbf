-- Where the effects of operators begin, by what is written before them.
use Rattle.std.proofs.Common.{◌≡◌, ℕ, zero, suc, ◌+◌, ◌<◌, List, length, get_or, take, ap, ◌∙◌, arith}
use Rattle.std.proofs.lemmas.List.{length-append}
use Rattle.table.specs.Reading.{Entry, Out, good, next_place, starts, many}
use Rattle.table.proofs.Reading.{series_opens}
use Rattle.model.specs.Lists.{gather}
use Rattle.model.specs.Meaning.{operator_of}
use Rattle.model.specs.Trees.{Formula, Consequent, Effect}
use Rattle.adl.specs.Tables.{Table, most_entries, outermost}
use Rattle.adl.specs.Reads as table
use Rattle.adl.specs.Reads.{fact, operator, operator_places, facts_place, goal_place, precondition_place}
use Rattle.adl.specs.Held.{held, tree_of}
use Rattle.adl.specs.declared.task.Task.{Task}
use Rattle.adl_theorems.specs.Writes.{write_formula, write_consequent, write_effect, write_fact, write_operator}
use Rattle.adl_theorems.proofs.Standing.{stands, types_length, arities_length}
use Rattle.adl_theorems.proofs.Stretches.{spells_many}
use Rattle.adl_theorems.proofs.Spelling.{fact_spelled, formula_spelled, consequent_spelled, effect_spelled, operator_spelled}
use Rattle.book_of_task.specs.Places as written
use Rattle.runs.specs.Standing.{FormulaAt}
use Rattle.runs.specs.Effects.{ConsequentAt, EffectAt}
use Rattle.runs.proofs.Fittings.{places_of, operator_starts, operator_begun, effect_starts}

-- what is written one after the other begins where what was written before it ends
starts_at : {A : Type 0} (read : ℕ → Out A) (code : A → List Entry) → ((i : ℕ) (x : A) (j : ℕ) → read i ≡ good x j → j ≡ i + length (code x))
    → (m i : ℕ) (xs : List A) (k o : ℕ) → o < m → many read m i ≡ good xs k → get_or (starts read m i) o 0 ≡ i + length (gather code (take o xs))
starts_at read code h zero i xs k o l e = absurd (omega arith)
starts_at read code h (suc m) i xs k zero l e = omega arith
starts_at read code h (suc m) i xs k (suc o) l e = series_opens (λ (_ : Unit {0}). read) (λ _ _. tt) m tt i xs k e λ x j rest r u q.
    let below : get_or (starts read m j) o 0 ≡ j + length (gather code (take o rest)) = starts_at read code h m j rest k o (omega arith) u in
    let ends : j ≡ i + length (code x) = h i x j r in
    let both : length (gather code (take (suc o) xs)) ≡ length (code x) + length (gather code (take o rest)) =
    ap (λ ys. length (gather code (take (suc o) ys))) q ∙ length-append (code x) (gather code (take o rest)) in
    ap (λ n. get_or (starts read m n) o 0) (ap (λ y. next_place y) r) ∙ omega arith

-- a formula, a consequent and an effect end where what is written of them does
pub formula_ends : {t : Table} {v i : ℕ} {f : Formula} {j : ℕ} → FormulaAt t v i f j → j ≡ i + length (write_formula f)
formula_ends {t} {v} {i} {f} {j} s = (formula_spelled t s.room s.around i f j s.reads).0.place

pub consequent_ends : {t : Table} {v i : ℕ} {c : Consequent} {j : ℕ} → ConsequentAt t v i c j → j ≡ i + length (write_consequent c)
consequent_ends {t} {v} {i} {c} {j} s = (consequent_spelled t s.room s.around i c j s.reads).place

pub effect_ends : {t : Table} {v i : ℕ} {e : Effect} {j : ℕ} → EffectAt t v i e j → j ≡ i + length (write_effect e)
effect_ends {t} {v} {i} {e} {j} s = (effect_spelled t s.room s.around i e j s.reads).0.place

module _ (k : Task) where
  -- the operators
  operators_begin : table.operators_place (held k) ≡ written.operators_place (tree_of k)
  operators_begin =
      let t = held k in
      let s = stands t k.formed in
      let facts = spells_many t t.entries write_fact (fact t) (fact_spelled t) t.facts (facts_place t) (tree_of k).facts (goal_place t) s.facts in
      let goal = (formula_spelled t most_entries (outermost 0 (goal_place t)) (goal_place t) (tree_of k).goal (table.operators_place t) s.goal).0 in
      omega (arith, facts.place, goal.place, types_length t k.formed, arities_length t k.formed)

  module _ (o : ℕ) (h : o < k.table.sizes.operators) where
    -- an operator
    operator_begins : (places_of k o).start ≡ written.operators_place (tree_of k) + length (gather write_operator (take o (tree_of k).operators))
    unfolding operator_places
    operator_begins =
        let t = held k in
        operator_starts k o h
        ∙ starts_at (operator t) write_operator (λ i x j e. (operator_spelled t i x j e).0.place) t.operators (table.operators_place t) (tree_of k).operators t.entries o h (stands t k.formed).operators
        ∙ ap (λ n. n + length (gather write_operator (take o (tree_of k).operators))) operators_begin

    -- its effect
    pub effect_begins_at : (places_of k o).effect ≡ written.effect_place (tree_of k) o
    effect_begins_at =
        let t = held k in
        let i = (places_of k o).start in
        let r = (operator_begun k o h).1 in
        let a = operator_of (tree_of k) o in
        let f = (formula_spelled t most_entries (outermost (get_or t.operands i 0) (precondition_place t i)) (precondition_place t i) a.precondition (table.effect_place t i) r.precondition).0 in
        effect_starts k o h ∙ omega (arith, f.place, r.count, operator_begins)
