-- A table that loads is a task written out.
use Rattle.std.proofs.Common.{◌≡◌, ℕ, ◌+◌, ◌<◌, ◌≤◌, true, ◌||◌, eqb, ltb, List, map, length, Ok, sym, ap, ◌∙◌, arith}
use Rattle.std.proofs.lemmas.Bool.{ltb-false, eqb-false, or_parts}
use Rattle.table.specs.Reading.{entry, good}
use Rattle.model.specs.Forming.{Each}
use Rattle.model.specs.Lists.{gather}
use Rattle.model.specs.Trees as tree
use Rattle.adl.specs.Tables.{Table, most_entries, outermost}
use Rattle.adl.specs.Reads.{type_set, with_atoms, predicate, fact, formula, operator, task, facts_place, goal_place, operators_place}
use Rattle.table.specs.Answers.{and_then}
use Rattle.adl.specs.Loads.{sizes_fit, lengths_fit, given, done, accepted, task_of}
use Rattle.fault.specs.declared.Layer.TheVariants as layer
use Rattle.table.proofs.Accepting.{both_accept, not_refused, done_good, long_enough}
use Rattle.adl_theorems.specs.Writes.{write_formula, write_fact, write_operator, write_task, Writes, SmallOperator, WithinLimits}
use Rattle.adl_theorems.specs.Theorems.{WhatLoadsWasWritten, RecordsHoldTasksWithinLimits}
use Rattle.adl.specs.declared.sizes.Sizes.{Sizes}
use Rattle.adl_theorems.proofs.Inverting.{series_each, many_each}
use Rattle.adl.proofs.Declared.{predicate_read}
use Rattle.adl_theorems.proofs.Inside.{inside_at, inside_formula}
use Rattle.adl_theorems.proofs.Standing.{stands, types_length, arities_length, facts_length, operators_length, atoms_bounded}
use Rattle.adl_theorems.proofs.WellFormed.{loaded_tasks_are_well_formed}
use Rattle.adl_theorems.proofs.Stretches.{stretch, Spells, first_entries, spells_both, spells_many, spells_singles, spells_within}
use Rattle.adl_theorems.proofs.Spelling.{formula_spelled, type_spelled, predicate_spelled, fact_spelled, short, operator_spelled}
use Rattle.adl_theorems.proofs.Complete.{what_is_written_loads}

-- sizes that are not refused are within their limits
record Sized (z : Sizes) : Type 0 where
  some_object : 0 < z.objects
  objects : z.objects ≤ 32
  types : z.types ≤ 32
  predicates : z.predicates ≤ 32
  facts : z.facts ≤ 4096
  operators : z.operators ≤ 32
  entries : z.entries ≤ 16384

sized : (z : Sizes) → sizes_fit z ≡ Ok tt → Sized z
sized z e =
    let a = not_refused layer.Task (eqb z.objects 0 || ltb 32 z.objects) 1 0 _ e in
    let b = not_refused layer.Task (ltb 32 z.types) 1 1 _ a.1 in
    let c = not_refused layer.Task (ltb 32 z.predicates) 1 2 _ b.1 in
    let d = not_refused layer.Task (ltb 4096 z.facts) 1 3 _ c.1 in
    let f = not_refused layer.Task (ltb 32 z.operators) 1 4 _ d.1 in
    let g = not_refused layer.Task (eqb z.entries 0 || ltb 16384 z.entries) 1 5 _ f.1 in
    let o = or_parts (eqb z.objects 0) (ltb 32 z.objects) a.0 in
    let i = or_parts (eqb z.entries 0) (ltb 16384 z.entries) g.0 in
    let n : z.objects ≡ 0 → ⊥ = eqb-false z.objects 0 o.0 in
    record {
      some_object = omega arith;
      objects = ltb-false 32 z.objects o.1;
      types = ltb-false 32 z.types b.0;
      predicates = ltb-false 32 z.predicates c.0;
      facts = ltb-false 4096 z.facts d.0;
      operators = ltb-false 32 z.operators f.0;
      entries = ltb-false 16384 z.entries i.1;
    }

-- The task in its table.
module _ (t : Table) (formed : accepted t ≡ true) where
  -- the task, and where the table ends
  abbrev x : tree.Task
  x = task_of t

  abbrev n : ℕ
  n = t.entries

  -- each part of the task is written where it is read
  types_spelled : Spells t n (map (entry 14) x.types) 0 t.types
  types_spelled = spells_singles t n (entry 14) (λ (_ : Unit {0}). type_set t) (λ _ _. tt) (λ _. type_spelled t) t.types tt 0 x.types t.types (stands t formed).types

  predicates_spelled : Spells t n (map (entry 15) x.arities) t.types (facts_place t)
  predicates_spelled = spells_singles t n (entry 15) (predicate t) (with_atoms t) (predicate_spelled t) t.predicates 0 t.types x.arities (facts_place t) (stands t formed).predicates

  facts_spelled : Spells t n (gather write_fact x.facts) (facts_place t) (goal_place t)
  facts_spelled = spells_many t n write_fact (fact t) (fact_spelled t) t.facts (facts_place t) x.facts (goal_place t) (stands t formed).facts

  -- the goal is read from its own place on
  abbrev goal_read : formula t most_entries (outermost 0 (goal_place t)) (goal_place t) ≡ good x.goal (operators_place t)
  goal_read = (stands t formed).goal

  goal_spelled : Spells t n (write_formula x.goal) (goal_place t) (operators_place t)
  goal_spelled =
      spells_within t n (goal_place t + most_entries) (write_formula x.goal) (goal_place t) (operators_place t)
      (formula_spelled t most_entries (outermost 0 (goal_place t)) (goal_place t) x.goal (operators_place t) goal_read).0
      (inside_at t (formula t most_entries (outermost 0 (goal_place t)) (goal_place t)) x.goal (operators_place t) (inside_formula t most_entries (outermost 0 (goal_place t)) (goal_place t)) goal_read)

  operators_spelled : Spells t n (gather write_operator x.operators) (operators_place t) n
  operators_spelled = spells_many t n write_operator (operator t) (λ i o j e. (operator_spelled t i o j e).0) t.operators (operators_place t) x.operators n (stands t formed).operators

  -- the whole table is the task written out
  task_spelled : Spells t n (write_task x) 0 n
  unfolding write_task
  task_spelled =
      spells_both t n (map (entry 14) x.types) _ 0 t.types n types_spelled
      (spells_both t n (map (entry 15) x.arities) _ t.types (facts_place t) n predicates_spelled
      (spells_both t n (gather write_fact x.facts) _ (facts_place t) (goal_place t) n facts_spelled
      (spells_both t n (write_formula x.goal) (gather write_operator x.operators) (goal_place t) (operators_place t) n goal_spelled operators_spelled)))

  -- as many entries as the table has
  entries_count : length (write_task x) ≡ n
  entries_count = omega (arith, task_spelled.place)

  -- the sizes and the entries of the table are those of the task
  task_writes : Writes x t
  task_writes = record {
    objects = sym (stands t formed).objects;
    types = sym (types_length t formed);
    predicates = sym (arities_length t formed);
    facts = sym (facts_length t formed);
    operators = sym (operators_length t formed);
    entries = first_entries t n ∙ ap (stretch t 0) (sym entries_count) ∙ task_spelled.text;
  }

  -- no predicate has too many terms
  arities_small : Each (λ a. a ≤ 3) x.arities
  arities_small = (series_each (λ a. a ≤ 3) (predicate t) (with_atoms t) (λ s i a j e. omega (arith, (predicate_read t s i a j e).small)) t.predicates 0 t.types x.arities (facts_place t) (stands t formed).predicates).0

  -- each operator is small enough
  operators_small : Each SmallOperator x.operators
  operators_small = (many_each SmallOperator (operator t) (λ i o j e. (operator_spelled t i o j e).1) t.operators (operators_place t) x.operators n (stands t formed).operators).0

-- the task is within the limits of a table
task_limited : (z : Sizes) (ks os : List ℕ) → Sized z → accepted (given z ks os) ≡ true → WithinLimits (task_of (given z ks os))
task_limited z ks os s formed =
    let t = given z ks os in
    let k = goal_place t in
    let g = formula_spelled t most_entries (outermost 0 k) k (task_of t).goal (operators_place t) (stands t formed).goal in
    record {
      some_object = omega (arith, (stands t formed).objects, s.some_object);
      objects = omega (arith, (stands t formed).objects, s.objects);
      types = omega (arith, types_length t formed, s.types);
      predicates = omega (arith, arities_length t formed, s.predicates);
      facts = omega (arith, facts_length t formed, s.facts);
      operators = omega (arith, operators_length t formed, s.operators);
      entries = omega (arith, entries_count t formed, s.entries);
      arities = arities_small t formed;
      few_atoms = atoms_bounded t formed;
      goal = (short t (write_formula (task_of t).goal) k (operators_place t) g.0, omega (arith, g.1 (omega arith)));
      each_operator = operators_small t formed;
    }

-- a table that loads is a task written out, one that is well formed and within the limits, and no other such task
pub what_loads_was_written : WhatLoadsWasWritten
what_loads_was_written z ks os e =
    let t = given z ks os in
    let a = both_accept (sizes_fit z) (and_then (lengths_fit z.entries ks os) (done (task t))) e in
    let b = both_accept (lengths_fit z.entries ks os) (done (task t)) a.1 in
    let formed : accepted t ≡ true = done_good layer.Task (task t) b.1 in
    let long = long_enough layer.Task z.entries ks os b.0 in
    record {
      written = task_writes t formed;
      formed = loaded_tasks_are_well_formed t formed;
      limits = task_limited z ks os (sized z a.0) formed;
      only = λ x well within writes. sym (what_is_written_loads x well within z ks os writes long.0 long.1).1;
    }

-- a record has sizes within their limits
pub records_within_limits : RecordsHoldTasksWithinLimits
records_within_limits r =
    let t = r.table in
    task_limited t.sizes t.entries.kinds.now t.entries.operands.now
    (record { some_object = t.some_object; objects = t.objects; types = t.types; predicates = t.predicates; facts = t.facts; operators = t.operators; entries = t.short })
    r.formed
