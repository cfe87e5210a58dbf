-- The whole table, part after part.
use Rattle.std.proofs.Common.{◌≡◌, ℕ, ◌<◌, ◌≤◌, leb, List, map, take, IfOk, Ok, Err, Result, sym, refl, ap, ◌∙◌, arith, le-leb}
use borrow.Author.Tests.{lt-leb}
use Rattle.fault.specs.declared.Fault.{Fault}
use Rattle.table.specs.Reading.{Out, bad, good, then, unless, series, many, next_place, starts}
use Rattle.model.specs.Trees as tree
use Rattle.model.specs.Trees.{atoms_of, atoms}
use Rattle.adl.specs.Tables.{Table, outermost}
use Rattle.adl.specs.Reads.{type_set, with_atoms, predicate, fact, formula, operator, task, facts_place, goal_place, operators_place, operator_places}
use Rattle.adl.specs.Kept.{places_from}
use Rattle.table.specs.Answers.{is_good, whether}
use Rattle.adl.specs.Loads.{faulty, done, task_in}
use Rattle.adl.specs.Views.{answer}
use Rattle.table.specs.Answers.{whether}
use Rattle.adl.specs.Records.{Placed}
use Rattle.adl.specs.declared.declare.Places.{Places}
use Rattle.fault.specs.declared.Layer.TheVariants as layer
use Rattle.table.proofs.Answering.{refused, read_well, place_after, made_refused}
use Rattle.table.proofs.Reading.{singles_end}
use Rattle.adl.proofs.Declared.{type_single, predicate_single}

-- a refusal of a task
pub done_refused : (o : Out tree.Task) (f : Fault) → Err f ≡ answer o → Err f ≡ done o
done_refused (bad n p) f e = let h : f ≡ faulty n p = cc in ap Err h
done_refused (good b j) f e = cc

-- what a check of all entries promises of its answer
pub record CheckedAll (t : Table) (r : Result Places Fault) : Type 0 where
  pub same : whether r ≡ done (task t)
  pub placed : IfOk r (Placed t)

pub all_refused : (t : Table) (r : Result Places Fault) (f : Fault) → r ≡ Err f → Err f ≡ answer (task t) → CheckedAll t r
all_refused t r f e h = record { same = ap whether e ∙ done_refused (task t) f h; placed = made_refused (Placed t) r f e }

module _ (t : Table) where
  abbrev pub at_end : List ℕ → List ℕ → List tree.Fact → tree.Formula → List tree.Operator → ℕ → Out tree.Task
  at_end ts ps fs g os m = unless (leb t.entries m) 4 m (good (record { objects = t.objects; types = ts; arities = ps; facts = fs; goal = g; operators = os }) m)

  abbrev pub after_goal : List ℕ → List ℕ → List tree.Fact → tree.Formula → ℕ → Out tree.Task
  after_goal ts ps fs g l = then (many (operator t) t.operators l) (at_end ts ps fs g)

  abbrev pub after_facts : List ℕ → List ℕ → List tree.Fact → ℕ → Out tree.Task
  after_facts ts ps fs k = then (formula t 256 (outermost 0 k) k) (after_goal ts ps fs)

  abbrev pub after_predicates : List ℕ → List ℕ → ℕ → Out tree.Task
  after_predicates ts ps j = then (many (fact t) t.facts j) (after_facts ts ps)

  abbrev pub after_types : List ℕ → ℕ → Out tree.Task
  after_types ts i = then (series (predicate t) (with_atoms t) t.predicates 0 i) (after_predicates ts)

  -- the parts of a task, first to last
  pub task_parts : task t ≡ then (many (type_set t) t.types 0) after_types
  unfolding task
  task_parts = refl

  pub types_refused : (f : Fault) → Err f ≡ answer (many (type_set t) t.types 0) → Err f ≡ answer (task t)
  types_refused f e = refused layer.Task (many (type_set t) t.types 0) after_types f e ∙ sym (ap (λ (o : Out tree.Task). answer o) task_parts)

  module _ (i : ℕ) (first : Ok i ≡ answer (many (type_set t) t.types 0)) where
    to_predicates : (ts : List ℕ) × (task t ≡ after_types ts i)
    to_predicates = let w = read_well layer.Task (many (type_set t) t.types 0) i first in (w.0, task_parts ∙ ap (λ o. then o after_types) w.1)

    types_end : i ≡ t.types
    types_end =
        let w = read_well layer.Task (many (type_set t) t.types 0) i first in
        let z = singles_end (λ (_ : Unit {0}). type_set t) (λ _ _. tt) (λ _ x a l h. type_single t x a l h) t.types tt 0 w.0 i w.1 in
        omega (arith, z)

    pub predicates_refused : (f : Fault) → Err f ≡ answer (series (predicate t) (with_atoms t) t.predicates 0 i) → Err f ≡ answer (task t)
    predicates_refused f e =
        refused layer.Task (series (predicate t) (with_atoms t) t.predicates 0 i) (after_predicates to_predicates.0) f e ∙ sym (ap (λ (o : Out tree.Task). answer o) to_predicates.1)

    module _ (j : ℕ) (second : Ok j ≡ answer (series (predicate t) (with_atoms t) t.predicates 0 i)) where
      to_facts : (ts ps : List ℕ) × (series (predicate t) (with_atoms t) t.predicates 0 i ≡ good ps j) × (task t ≡ after_predicates ts ps j)
      to_facts =
          let w = read_well layer.Task (series (predicate t) (with_atoms t) t.predicates 0 i) j second in
          (to_predicates.0, w.0, w.1, to_predicates.1 ∙ ap (λ o. then o (after_predicates to_predicates.0)) w.1)

      predicates_end : j ≡ facts_place t
      predicates_end =
          let w = read_well layer.Task (series (predicate t) (with_atoms t) t.predicates 0 i) j second in
          let z = singles_end (predicate t) (with_atoms t) (predicate_single t) t.predicates 0 i w.0 j w.1 in
          omega (arith, z, types_end)

      pub facts_refused : (f : Fault) → Err f ≡ answer (many (fact t) t.facts j) → Err f ≡ answer (task t)
      facts_refused f e =
          refused layer.Task (many (fact t) t.facts j) (after_facts to_facts.0 to_facts.1) f e ∙ sym (ap (λ (o : Out tree.Task). answer o) to_facts.3)

      module _ (k : ℕ) (third : Ok k ≡ answer (many (fact t) t.facts j)) where
        to_goal : (fs : List tree.Fact) × (task t ≡ after_facts to_facts.0 to_facts.1 fs k)
        to_goal =
            let w = read_well layer.Task (many (fact t) t.facts j) k third in
            (w.0, to_facts.3 ∙ ap (λ o. then o (after_facts to_facts.0 to_facts.1)) w.1)

        goal_begins : k ≡ goal_place t
        goal_begins = sym (place_after layer.Task (many (fact t) t.facts j) k third) ∙ ap (λ x. next_place (many (fact t) t.facts x)) predicates_end

        pub goal_refused : (f : Fault) → Err f ≡ answer (formula t 256 (outermost 0 k) k) → Err f ≡ answer (task t)
        goal_refused f e =
            refused layer.Task (formula t 256 (outermost 0 k) k) (after_goal to_facts.0 to_facts.1 to_goal.0) f e ∙ sym (ap (λ (o : Out tree.Task). answer o) to_goal.1)

        module _ (l : ℕ) (fourth : Ok l ≡ answer (formula t 256 (outermost 0 k) k)) where
          to_operators : (g : tree.Formula) × (task t ≡ after_goal to_facts.0 to_facts.1 to_goal.0 g l)
          to_operators =
              let w = read_well layer.Task (formula t 256 (outermost 0 k) k) l fourth in
              (w.0, to_goal.1 ∙ ap (λ o. then o (after_goal to_facts.0 to_facts.1 to_goal.0)) w.1)

          operators_begin : l ≡ operators_place t
          operators_begin = sym (place_after layer.Task (formula t 256 (outermost 0 k) k) l fourth) ∙ ap (λ x. next_place (formula t 256 (outermost 0 x) x)) goal_begins

          pub operators_refused : (f : Fault) → Err f ≡ answer (many (operator t) t.operators l) → Err f ≡ answer (task t)
          operators_refused f e =
              refused layer.Task (many (operator t) t.operators l) (at_end to_facts.0 to_facts.1 to_goal.0 to_operators.0) f e ∙ sym (ap (λ (o : Out tree.Task). answer o) to_operators.1)

          module _ (m : ℕ) (fifth : Ok m ≡ answer (many (operator t) t.operators l)) where
            to_end : (os : List tree.Operator) × (task t ≡ at_end to_facts.0 to_facts.1 to_goal.0 to_operators.0 os m)
            to_end =
                let w = read_well layer.Task (many (operator t) t.operators l) m fifth in
                (w.0, to_operators.1 ∙ ap (λ o. then o (at_end to_facts.0 to_facts.1 to_goal.0 to_operators.0)) w.1)

            abbrev read_task : tree.Task
            read_task = record { objects = t.objects; types = to_facts.0; arities = to_facts.1; facts = to_goal.0; goal = to_operators.0; operators = to_end.0 }

            pub left_over : m < t.entries → Err (faulty 4 m) ≡ answer (task t)
            left_over h = sym (ap (λ (o : Out tree.Task). answer o) (to_end.1 ∙ ap (λ b. unless b 4 m (good read_task m)) (lt-leb t.entries m h)))

            all_good : t.entries ≤ m → task t ≡ good read_task m
            all_good h = to_end.1 ∙ ap (λ b. unless b 4 m (good read_task m)) (le-leb t.entries m h)

            pub all_read : (p : Places) → t.entries ≤ m
                → ((ps : List ℕ) (x : ℕ) → series (predicate t) (with_atoms t) t.predicates 0 i ≡ good ps x → p.atoms ≡ atoms_of t.objects ps)
                → p.goal_at ≡ k
                → take t.operators p.operators.places ≡ map (places_from t) (starts (operator t) t.operators l)
                → CheckedAll t (Ok p)
            unfolding operator_places
            all_read p h counts at ps =
                let e = all_good h in
                record {
                  same = sym (ap done e);
                  placed = record {
                    formed = ap is_good e;
                    counted = counts to_facts.1 j to_facts.2 ∙ sym (ap (λ o. atoms (task_in o)) e);
                    goal = at ∙ goal_begins;
                    operators = ps ∙ ap (λ x. map (places_from t) (starts (operator t) t.operators x)) operators_begin;
                  };
                }
