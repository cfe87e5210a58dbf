-- A task that is written out in a table is read from it, and loads.
use Rattle.std.proofs.Common.{◌≡◌, ℕ, zero, suc, ◌+◌, ◌^◌, ◌<◌, ◌≤◌, Bool, false, ◌||◌, eqb, ltb, leb, List, [], ◌∷◌, ◌++◌, map, length, get_or, Ok, sym, refl, ap, ◌∙◌, subst, arith}
use Rattle.std.proofs.lemmas.Bool.{lt-ltb, le-ltb, le-leb, ne_eqb, or_from}
use Rattle.std.proofs.lemmas.List.{length-map, get_or-map}
use Rattle.table.specs.declared.places.Place.TheVariants as place
use Rattle.table.specs.Reading.{Entry, entry, Out, good, then, unless, series, many}
use Rattle.model.specs.Lists.{gather}
use Rattle.model.specs.Forming.{Each, Within, KnownTerm, KnownAtom, KnownOperator, KnownFact, WellFormed}
use Rattle.model.specs.Meaning.{object_of}
use Rattle.model.specs.Trees as tree
use Rattle.model.specs.Trees.{Term, object, Formula, constant, atom, equal, negation, junction, implication, quantifier, atoms_of}
use Rattle.adl.specs.Tables.{Table, most_entries, outermost, head}
use Rattle.adl.specs.Reads.{terms, formula, effect, type_set, most_atoms, with_atoms, predicate, fact, parameter, operator, task}
use Rattle.table.specs.Answers.{and_then}
use Rattle.adl.specs.Loads.{refuse_if, sizes_fit, lengths_fit, given, done, task_in}
use Rattle.adl_theorems.specs.Writes.{write_term, write_formula, write_effect, write_fact, write_operator, write_task, SmallOperator, Writes, WithinLimits}
use Rattle.adl.specs.declared.sizes.Sizes.{Sizes}
use Rattle.adl_theorems.specs.Theorems.{WhatIsWrittenLoads}
use Rattle.adl.proofs.Whole.{at_end, after_goal, after_facts, after_predicates, after_types, task_parts}
use Rattle.adl_theorems.proofs.Written.{Written, written_none, written_first, written_rest, written_split, stand_nth, written_whole, head_reads, made, gathered_read, singles_read}
use Rattle.adl_theorems.proofs.Trees.{Declares, arguments_read, atom_in_range, formula_reads, effect_reads}

-- what holds of each element holds of the one at a place
each_nth : (P : ℕ → Type 0) (xs : List ℕ) (k : ℕ) → Each P xs → k < length xs → P (get_or xs k 0)
each_nth P [] k h l = absurd (omega arith)
each_nth P (x ∷ xs) zero h l = h.0
each_nth P (x ∷ xs) (suc k) h l = each_nth P xs k h.1 (omega arith)

-- two things that hold of each element
each_both : {A : Type 0} (P Q : A → Type 0) (xs : List A) → Each P xs → Each Q xs → Each (λ x. P x × Q x) xs
each_both P Q [] p q = tt
each_both P Q (x ∷ xs) p q = ((p.0, q.0), each_both P Q xs p.1 q.1)

-- The arguments of a fact, as terms.

-- they are known where no variable is
objects_known : (n : ℕ) (os : List ℕ) → Within n os → Each (KnownTerm n 0) (map object os)
objects_known n [] h = tt
objects_known n (o ∷ os) h = (h.0, objects_known n os h.1)

-- they are written as the arguments are
objects_written : (os : List ℕ) → map (entry 10) os ≡ map write_term (map object os)
objects_written [] = refl
objects_written (o ∷ os) = ap (λ es. entry 10 o ∷ es) (objects_written os)

-- they stand for the arguments
objects_back : (os : List ℕ) → map (object_of []) (map object os) ≡ os
objects_back [] = refl
objects_back (o ∷ os) = ap (λ ps. o ∷ ps) (objects_back os)

-- What a table declares, its facts and its operators.
module _ (t : Table) (T : tree.Task) (d : Declares t T) where
  -- a type
  type_reads : (x i j : ℕ) → x < 2 ^ T.objects → Written t (entry 14 x ∷ []) i j → type_set t i ≡ good x j
  type_reads x i j k s =
      let few : x < 2 ^ t.objects = subst (λ n. x < 2 ^ n) (sym d.objects) k in
      made (λ (e : Entry). e.operand) (head t place.TypeSet (outermost 0 i) i) (entry 14 x) (i + 1) (head_reads t place.TypeSet (outermost 0 i) s (omega arith) refl refl (lt-ltb x (2 ^ t.objects) few))
      ∙ ap (good x) (written_none (written_rest s))

  -- a parameter's type
  parameter_reads : (x i j : ℕ) → x < length T.types → Written t (entry 17 x ∷ []) i j → parameter t i ≡ good x j
  parameter_reads x i j k s =
      made (λ (e : Entry). e.operand) (head t place.Parameter (outermost 0 i) i) (entry 17 x) (i + 1) (head_reads t place.Parameter (outermost 0 i) s (omega arith) refl refl (lt-ltb x t.types (omega (arith, d.types))))
      ∙ ap (good x) (written_none (written_rest s))

  -- a predicate after those that have `before` atoms
  predicate_reads : (x : ℕ) (es : List Entry) (before i j : ℕ) → x ≤ 3 → before + t.objects ^ x ≤ most_atoms → Written t (entry 15 x ∷ es) i j → predicate t before i ≡ good x (i + 1)
  predicate_reads x es before i j few h s =
      ap (λ o. then o (λ y m. unless (leb (with_atoms t before y.operand) most_atoms) 7 i (good y.operand m)))
      (head_reads t place.Predicate (outermost 0 i) (written_first s) (omega arith) refl refl (lt-ltb x 4 (omega arith)))
      ∙ ap (λ b. unless b 7 i (good x (i + 1))) (le-leb (before + t.objects ^ x) most_atoms h)

  -- predicates one after the other
  predicates_read : (xs : List ℕ) (before i j : ℕ) → Each (λ x. x ≤ 3) xs → before + atoms_of t.objects xs ≤ most_atoms → Written t (map (entry 15) xs) i j
      → series (predicate t) (with_atoms t) (length xs) before i ≡ good xs j
  predicates_read [] before i j few h s = ap (good []) (written_none s)
  predicates_read (x ∷ xs) before i j few h s =
      ap (λ o. then o (λ y m. then (series (predicate t) (with_atoms t) (length xs) (with_atoms t before y) m) λ rest n. good (y ∷ rest) n)) (predicate_reads x (map (entry 15) xs) before i j few.0 (omega arith) s)
      ∙ made (λ rest. x ∷ rest) (series (predicate t) (with_atoms t) (length xs) (with_atoms t before x) (i + 1)) xs j (predicates_read xs (with_atoms t before x) (i + 1) j few.1 (omega arith) (written_rest s))

  -- a fact
  fact_reads : (f : tree.Fact) (i j : ℕ) → length f.arguments ≤ 3 → KnownFact T f → Written t (write_fact f) i j → fact t i ≡ good f j
  fact_reads f i j few k s =
      let ts : List Term = map object f.arguments in
      let known : KnownAtom T 0 f.predicate ts = record { predicate = k.predicate; arity = length-map f.arguments object ∙ k.arity; terms = objects_known T.objects f.arguments k.arguments } in
      let n : length (map (entry 10) f.arguments) ≡ length f.arguments = length-map f.arguments (entry 10) in
      let b : j ≤ i + most_entries = omega arith in
      let w : Written t (map write_term ts) (i + 1) j = subst (λ es. Written t es (i + 1) j) (objects_written f.arguments) (written_rest s) in
      ap (λ o. then o (λ x m. then (terms t (outermost 0 i) x.operand m) λ us l. good (record { predicate = x.operand; arguments = map (object_of []) us }) l))
      (head_reads t place.Fact (outermost 0 i) s b refl refl (atom_in_range t T d f.predicate ts (outermost 0 i) known))
      ∙ made (λ us. record { predicate = f.predicate; arguments = map (object_of []) us }) (terms t (outermost 0 i) f.predicate (i + 1)) ts j (arguments_read t T d f.predicate ts (outermost 0 i) (i + 1) j known w b)
      ∙ ap (λ os. good (record { predicate = f.predicate; arguments = os }) j) (objects_back f.arguments)

  -- an operator
  operator_reads : (o : tree.Operator) (i j : ℕ) → SmallOperator o × KnownOperator T o → Written t (write_operator o) i j → operator t i ≡ good o j
  operator_reads o i j k s =
      let ps : List Entry = map (entry 17) o.parameters in
      let fs : List Entry = write_formula o.precondition in
      let gs : List Entry = write_effect o.effect in
      let w = written_split t ps (fs ++ gs) (i + 1) j (written_rest s) in
      let m : ℕ = i + 1 + length ps in
      let v = written_split t fs gs m j w.1 in
      let n : ℕ = m + length fs in
      let c : ℕ = length o.parameters in
      let f_small = k.0.precondition in
      let g_small = k.0.effect in
      let after_formula : Entry → List ℕ → Formula → ℕ → Out tree.Operator = λ x tys f q. then (effect t most_entries (outermost x.operand q) q) λ g r. good (record { parameters = tys; precondition = f; effect = g }) r in
      let after_parameters : Entry → List ℕ → ℕ → Out tree.Operator = λ x tys q. then (formula t most_entries (outermost x.operand q) q) (after_formula x tys) in
      ap (λ q. then q (λ x r. then (many (parameter t) x.operand r) (after_parameters x)))
      (head_reads t place.Operator (outermost 0 i) (written_first s) (omega arith) refl refl (lt-ltb c 5 (omega (arith, k.0.parameters))))
      ∙ ap (λ q. then q (after_parameters (entry 16 c))) (singles_read t (parameter t) (entry 17) (λ x. x < length T.types) parameter_reads o.parameters (i + 1) m k.1.parameters w.0)
      ∙ ap (λ q. then q (after_formula (entry 16 c) o.parameters)) (formula_reads t T d o.precondition most_entries (outermost c m) m n k.1.precondition v.0 (omega arith) f_small.0 (omega arith))
      ∙ made (λ g. record { parameters = o.parameters; precondition = o.precondition; effect = g }) (effect t most_entries (outermost c n) n) o.effect j
      (effect_reads t T d o.effect most_entries (outermost c n) n j k.1.effect v.1 (omega (arith, v.1.ends)) g_small.0 (omega arith) (omega arith))

-- a formula has an entry
formula_entries : (f : Formula) → 0 < length (write_formula f)
formula_entries (constant b) = omega arith
formula_entries (atom p ts) = omega arith
formula_entries (equal x y) = omega arith
formula_entries (negation f) = omega arith
formula_entries (junction j fs) = omega arith
formula_entries (implication f g) = omega arith
formula_entries (quantifier j ty f) = omega arith

-- The whole task.
module _ (x : tree.Task) (formed : WellFormed x) (limits : WithinLimits x) (t : Table) (w : Writes x t) where
  -- the entries of its parts
  abbrev types_part : List Entry
  types_part = map (entry 14) x.types

  abbrev predicates_part : List Entry
  predicates_part = map (entry 15) x.arities

  abbrev facts_part : List Entry
  facts_part = gather write_fact x.facts

  abbrev goal_part : List Entry
  goal_part = write_formula x.goal

  abbrev operators_part : List Entry
  operators_part = gather write_operator x.operators

  -- where the parts after the types and predicates begin
  abbrev facts_from : ℕ
  facts_from = t.types + length predicates_part

  abbrev goal_from : ℕ
  goal_from = facts_from + length facts_part

  abbrev operators_from : ℕ
  operators_from = goal_from + length goal_part

  -- the whole stands in the table
  whole_written : Written t (write_task x) 0 t.entries
  whole_written = written_whole t (write_task x) w.entries

  -- every part stands at its place
  record PartsWritten : Type 0 where
    types : Written t types_part 0 t.types
    predicates : Written t predicates_part t.types facts_from
    facts : Written t facts_part facts_from goal_from
    goal : Written t goal_part goal_from operators_from
    operators : Written t operators_part operators_from t.entries

  -- since the parts follow one another in the whole
  parts_written : PartsWritten
  unfolding write_task
  parts_written =
      let from_goal : List Entry = goal_part ++ operators_part in
      let from_facts : List Entry = facts_part ++ from_goal in
      let from_predicates : List Entry = predicates_part ++ from_facts in
      let n : 0 + length types_part ≡ t.types = omega (arith, length-map x.types (entry 14), w.types) in
      let a = written_split t types_part from_predicates 0 t.entries whole_written in
      let b = written_split t predicates_part from_facts t.types t.entries (subst (λ i. Written t from_predicates i t.entries) n a.1) in
      let c = written_split t facts_part from_goal facts_from t.entries b.1 in
      let d = written_split t goal_part operators_part goal_from t.entries c.1 in
      record { types = subst (λ j. Written t types_part 0 j) n a.0; predicates = b.0; facts = c.0; goal = d.0; operators = d.1 }

  -- the table declares what the task does: the predicates stand after the types
  declares : Declares t x
  declares = record {
    objects = w.objects;
    types = w.types;
    predicates = w.predicates;
    arity_is = λ p h.
        let n : p < length predicates_part = omega (arith, length-map x.arities (entry 15)) in
        ap (λ (e : Entry). e.operand) (stand_nth t predicates_part t.types p n parts_written.predicates.stand ∙ get_or-map (entry 15) x.arities p 0 (entry 0 0) h);
  }

  -- the parts are read, each from its place to the next
  types_read : many (type_set t) t.types 0 ≡ good x.types t.types
  types_read =
      ap (λ m. many (type_set t) m 0) w.types
      ∙ singles_read t (type_set t) (entry 14) (λ z. z < 2 ^ x.objects) (type_reads t x declares) x.types 0 t.types formed.types parts_written.types

  arities_read : series (predicate t) (with_atoms t) t.predicates 0 t.types ≡ good x.arities facts_from
  arities_read =
      let few : atoms_of t.objects x.arities ≤ most_atoms = subst (λ m. atoms_of m x.arities ≤ most_atoms) (sym w.objects) limits.few_atoms in
      ap (λ m. series (predicate t) (with_atoms t) m 0 t.types) w.predicates
      ∙ predicates_read t x declares x.arities 0 t.types facts_from limits.arities (omega arith) parts_written.predicates

  -- a fact has few arguments
  few_arguments : (f : tree.Fact) → KnownFact x f → length f.arguments ≤ 3
  few_arguments f k = subst (λ n. n ≤ 3) (sym k.arity) (each_nth (λ a. a ≤ 3) x.arities f.predicate limits.arities k.predicate)

  facts_read : many (fact t) t.facts facts_from ≡ good x.facts goal_from
  facts_read =
      ap (λ m. many (fact t) m facts_from) w.facts
      ∙ gathered_read t (fact t) write_fact (KnownFact x) (λ f i j k. fact_reads t x declares f i j (few_arguments f k) k) x.facts facts_from goal_from formed.facts parts_written.facts

  goal_read : formula t most_entries (outermost 0 goal_from) goal_from ≡ good x.goal operators_from
  goal_read =
      let small = limits.goal in
      formula_reads t x declares x.goal most_entries (outermost 0 goal_from) goal_from operators_from formed.goal parts_written.goal (omega arith) small.0 (omega arith)

  operators_read : many (operator t) t.operators operators_from ≡ good x.operators t.entries
  operators_read =
      ap (λ m. many (operator t) m operators_from) w.operators
      ∙ gathered_read t (operator t) write_operator (λ o. SmallOperator o × KnownOperator x o) (operator_reads t x declares) x.operators operators_from t.entries
      (each_both SmallOperator (KnownOperator x) x.operators limits.each_operator formed.operators) parts_written.operators

  -- the task with so many objects
  abbrev with_objects : ℕ → tree.Task
  with_objects n = record { objects = n; types = x.types; arities = x.arities; facts = x.facts; goal = x.goal; operators = x.operators }

  -- the task is read, part after part, and nothing is left over
  task_read : task t ≡ good x t.entries
  task_read =
      task_parts t
      ∙ ap (λ o. then o (after_types t)) types_read
      ∙ ap (λ o. then o (after_predicates t x.types)) arities_read
      ∙ ap (λ o. then o (after_facts t x.types x.arities)) facts_read
      ∙ ap (λ o. then o (after_goal t x.types x.arities x.facts)) goal_read
      ∙ ap (λ o. then o (at_end t x.types x.arities x.facts x.goal)) operators_read
      ∙ ap (λ b. unless b 4 t.entries (good (with_objects t.objects) t.entries)) (le-leb t.entries t.entries (omega arith))
      ∙ ap (λ n. good (with_objects n) t.entries) w.objects

  -- there is an entry, that of the goal
  some_entry : 0 < t.entries
  some_entry = omega (arith, parts_written.operators.ends, formula_entries x.goal)

  -- and there are not too many
  few_entries : t.entries ≤ 16384
  few_entries = omega (arith, whole_written.ends, limits.entries)

-- Loading.

-- sizes none of which is refused
none_refused : (a b c d e f : Bool) → a ≡ false → b ≡ false → c ≡ false → d ≡ false → e ≡ false → f ≡ false
    → refuse_if a 1 0 (refuse_if b 1 1 (refuse_if c 1 2 (refuse_if d 1 3 (refuse_if e 1 4 (refuse_if f 1 5 (Ok tt)))))) ≡ Ok tt
none_refused a b c d e f o p q r s u = rw (o, p, q, r, s, u)

-- a size from one to a limit
in_limits : (n most : ℕ) → 0 < n → n ≤ most → (eqb n 0 || ltb most n) ≡ false
in_limits n most some few = or_from (eqb n 0) (ltb most n) (ne_eqb n 0 (λ e. omega arith)) (le-ltb most n few)

-- arrays that are long enough
long_enough : (n : ℕ) (ks os : List ℕ) → n ≤ length ks → n ≤ length os → lengths_fit n ks os ≡ Ok tt
long_enough n ks os k o = rw (le-ltb (length ks) n k, le-ltb (length os) n o)

-- the sizes of a task within the limits
sizes_within : (x : tree.Task) → WithinLimits x → (z : Sizes) (ks os : List ℕ) → Writes x (given z ks os) → 0 < z.entries → z.entries ≤ 16384 → sizes_fit z ≡ Ok tt
sizes_within x limits z ks os w some few =
    none_refused (eqb z.objects 0 || ltb 32 z.objects) (ltb 32 z.types) (ltb 32 z.predicates) (ltb 4096 z.facts) (ltb 32 z.operators) (eqb z.entries 0 || ltb 16384 z.entries)
    (in_limits z.objects 32 (omega (arith, w.objects, limits.some_object)) (omega (arith, w.objects, limits.objects)))
    (le-ltb 32 z.types (omega (arith, w.types, limits.types)))
    (le-ltb 32 z.predicates (omega (arith, w.predicates, limits.predicates)))
    (le-ltb 4096 z.facts (omega (arith, w.facts, limits.facts)))
    (le-ltb 32 z.operators (omega (arith, w.operators, limits.operators)))
    (in_limits z.entries 16384 some few)

-- a task that is written out in arrays that are long enough loads, and it is that task that stands there
pub what_is_written_loads : WhatIsWrittenLoads
what_is_written_loads x formed limits z ks os w long_kinds long_operands =
    let t : Table = given z ks os in
    let read : task t ≡ good x z.entries = task_read x formed limits t w in
    let sizes : sizes_fit z ≡ Ok tt = sizes_within x limits z ks os w (some_entry x formed limits t w) (few_entries x formed limits t w) in
    let lengths : lengths_fit z.entries ks os ≡ Ok tt = long_enough z.entries ks os long_kinds long_operands in (
      ap (λ r. and_then r (and_then (lengths_fit z.entries ks os) (done (task t)))) sizes
          ∙ ap (λ r. and_then r (done (task t))) lengths
          ∙ ap (λ o. done o) read,
      ap (λ o. task_in o) read,
    )
