-- What is written in a table is read from it: formulas, effects, names, actions and atoms.
use Rattle.std.proofs.Common.{◌≡◌, ℕ, zero, suc, ◌+◌, ◌-◌, ◌<◌, ◌≤◌, Bool, true, false, cond, not, ◌&&◌, eqb, ltb, leb, List, [], ◌∷◌, ◌++◌, map, length, get_or, refl, ap, ◌∙◌, subst, arith}
use Rattle.std.proofs.Math.Nat.{le-max_left, le-max_right}
use Rattle.std.proofs.lemmas.Bool.{lt-ltb, le-leb, and_from, and_right, not_from_false}
use Rattle.table.specs.declared.places.Place.{Place}
use Rattle.table.specs.declared.places.Place.TheVariants as place
use Rattle.table.specs.Permits.{permitted}
use Rattle.table.specs.Reading.{Entry, entry, Out, bad, good, then, unless, series, many}
use Rattle.model.specs.Forming.{Each, Within}
use Rattle.model.specs.Lists.{gather}
use Rattle.model.specs.Trees.{all, any, Name}
use Rattle.model.specs.Meaning.{Literal}
use Rattle.model.specs.Settling.{Ground, known, fact, negated, group, Grounds, nil, cons}
use Rattle.model.specs.Books.{Clause, plain, when, Action, Start}
use Rattle.model.specs.Opening.{RisingBy, Rising, NameBefore, KnownGround, KnownGrounds, KnownLiterals, KnownClause, KnownAction, ground_levels, ground_levels_all}
use Rattle.book.specs.Tables.{Table, most_levels, most_names, most_objects, in_range, head}
use Rattle.book.specs.Reads.{start, after_start, is_listed, always_true, after_atom, grounds_of, ground_by, ground, literal_by, literal, literals, clause_by, clause, effect, is_object, objects, precedes, listed, name, action, after_action}
use Rattle.book.proofs.Items.{each_then, each_both}
use Rattle.book.proofs.Order.{name_precedes}
use Rattle.book_theorems.specs.Writes.{count_grounds, write_ground, write_grounds, write_literal, write_clause, write_effect, write_name, write_action, write_start, ShallowClause, SmallAction}
use Rattle.book_theorems.proofs.Written.{Written, none_ends, first_written, rest_written, written_split}

-- what is made of a reading that goes well
made : {A B : Type 0} (f : A → B) (o : Out A) (x : A) (j : ℕ) → o ≡ good x j → then o (λ a k. good (f a) k) ≡ good (f x) j
made f o x j e = ap (λ y. then y (λ a k. good (f a) k)) e

-- an entry that passes all tests is read
all_pass : (a b c d : Bool) (x : Entry) (i : ℕ) → a ≡ true → b ≡ true → c ≡ true → d ≡ true → unless a 4 i (unless b 3 i (unless c 6 i (unless d 5 i (good x (i + 1))))) ≡ good x (i + 1)
all_pass a b c d x i p q r s = rw (p, q, r, s)

-- the formulas as a list
abbrev parts : Grounds → List Ground
parts nil = []
parts (cons g gs) = g ∷ parts gs

-- and back
grounds_of_parts : (gs : Grounds) → grounds_of (parts gs) ≡ gs
grounds_of_parts nil = refl
grounds_of_parts (cons g gs) = ap (cons g) (grounds_of_parts gs)

-- a formula has a level
some_level : (g : Ground) → 0 < ground_levels g
some_level (known b) = omega arith
some_level (fact j) = omega arith
some_level (negated g) = omega arith
some_level (group j gs) = omega arith

-- a formula begins with an entry that is no OBJECT
pub record Begins (g : Ground) : Type 0 where
  pub entry_is : Entry
  pub others : List Entry
  pub is : write_ground g ≡ entry_is ∷ others
  pub no_object : eqb entry_is.kind 10 ≡ false

pub begins : (g : Ground) → Begins g
begins (known true) = record { entry_is = entry 0 0; others = []; is = refl; no_object = refl }
begins (known false) = record { entry_is = entry 1 0; others = []; is = refl; no_object = refl }
begins (fact j) = record { entry_is = entry 13 j; others = []; is = refl; no_object = refl }
begins (negated g) = record { entry_is = entry 4 0; others = write_ground g; is = refl; no_object = refl }
begins (group all gs) = record { entry_is = entry 5 (count_grounds gs); others = write_grounds gs; is = refl; no_object = refl }
begins (group any gs) = record { entry_is = entry 6 (count_grounds gs); others = write_grounds gs; is = refl; no_object = refl }

module _ (t : Table) where
  -- what reading the entry e at place i gives
  abbrev head_of : Place → ℕ → ℕ → Entry → Out Entry
  head_of p levels i e = unless (ltb i t.entries) 4 i (unless (permitted p e.kind) 3 i (unless (ltb 0 levels) 6 i (unless (in_range t e) 5 i (good e (i + 1)))))

  -- the first of some entries is read where it is permitted, at a level, and in range
  head_reads : (p : Place) (levels i : ℕ) (e : Entry) (es : List Entry) (j : ℕ) → Written t (e ∷ es) i j → j ≤ t.entries → permitted p e.kind ≡ true → 0 < levels → in_range t e ≡ true → head t p levels i ≡ good e (i + 1)
  head_reads p levels i e es j s b k l r =
      ap (head_of p levels i) (first_written t i e es j s)
      ∙ all_pass (ltb i t.entries) (permitted p e.kind) (ltb 0 levels) (in_range t e) e i (lt-ltb i t.entries (omega (arith, s.ends))) k (lt-ltb 0 levels l) r

  -- items that are written one after the other are read one after the other
  gathered_read : {A : Type 0} (read : ℕ → Out A) (write : A → List Entry) (P : A → Type 0) → ((x : A) (i j : ℕ) → P x → Written t (write x) i j → j ≤ t.entries → read i ≡ good x j)
      → (xs : List A) (i j : ℕ) → Each P xs → Written t (gather write xs) i j → j ≤ t.entries → many read (length xs) i ≡ good xs j
  gathered_read read write P h [] i j p s b = ap (good []) (none_ends t i j s)
  gathered_read read write P h (x ∷ xs) i j p s b =
      let w = written_split t (write x) (gather write xs) i j s in
      let k : ℕ = i + length (write x) in
      ap (λ o. then o (λ y m. then (many read (length xs) m) λ rest l. good (y ∷ rest) l)) (h x i k p.0 w.0 (omega (arith, w.1.ends)))
      ∙ made (λ rest. x ∷ rest) (many read (length xs) k) xs j (gathered_read read write P h xs k j p.1 w.1 b)

  -- Formulas.

  -- where a level is left, a formula is read by the kind of its first entry
  enters : (levels i : ℕ) (e : Entry) (es : List Entry) (j : ℕ) → Written t (e ∷ es) i j → j ≤ t.entries → permitted place.Ground e.kind ≡ true → 0 < levels → in_range t e ≡ true
      → ground t levels i ≡ ground_by (ground t (levels - 1)) e (i + 1)
  unfolding ground
  enters zero i e es j s b k l r = absurd (omega arith)
  enters (suc levels) i e es j s b k l r =
      let n : levels ≡ suc levels - 1 = omega arith in
      ap (λ o. then o (λ x m. ground_by (ground t levels) x m)) (head_reads place.Ground (suc levels) i e es j s b k l r) ∙ ap (λ m. ground_by (ground t m) e (i + 1)) n

  mutual
    pub ground_reads : (g : Ground) (levels i j : ℕ) → KnownGround t.relevant g → ground_levels g ≤ levels → Written t (write_ground g) i j → j ≤ t.entries → ground t levels i ≡ good g j
    ground_reads (known true) levels i j k l s b = enters levels i (entry 0 0) [] j s b refl (omega arith) refl ∙ ap (good (known true)) (none_ends t (i + 1) j (rest_written t i (entry 0 0) [] j s))
    ground_reads (known false) levels i j k l s b = enters levels i (entry 1 0) [] j s b refl (omega arith) refl ∙ ap (good (known false)) (none_ends t (i + 1) j (rest_written t i (entry 1 0) [] j s))
    ground_reads (fact a) levels i j k l s b = enters levels i (entry 13 a) [] j s b refl (omega arith) (lt-ltb a t.relevant k) ∙ ap (good (fact a)) (none_ends t (i + 1) j (rest_written t i (entry 13 a) [] j s))
    ground_reads (negated g) levels i j k l s b =
        enters levels i (entry 4 0) (write_ground g) j s b refl (omega arith) refl
        ∙ made negated (ground t (levels - 1) (i + 1)) g j (ground_reads g (levels - 1) (i + 1) j k (omega arith) (rest_written t i (entry 4 0) (write_ground g) j s) b)
    ground_reads (group all gs) levels i j k l s b =
        enters levels i (entry 5 (count_grounds gs)) (write_grounds gs) j s b refl (omega arith) refl
        ∙ made (λ xs. group all (grounds_of xs)) (many (ground t (levels - 1)) (count_grounds gs) (i + 1)) (parts gs) j
        (grounds_read gs (levels - 1) (i + 1) j k (omega arith) (rest_written t i (entry 5 (count_grounds gs)) (write_grounds gs) j s) b)
        ∙ ap (λ xs. good (group all xs) j) (grounds_of_parts gs)
    ground_reads (group any gs) levels i j k l s b =
        enters levels i (entry 6 (count_grounds gs)) (write_grounds gs) j s b refl (omega arith) refl
        ∙ made (λ xs. group any (grounds_of xs)) (many (ground t (levels - 1)) (count_grounds gs) (i + 1)) (parts gs) j
        (grounds_read gs (levels - 1) (i + 1) j k (omega arith) (rest_written t i (entry 6 (count_grounds gs)) (write_grounds gs) j s) b)
        ∙ ap (λ xs. good (group any xs) j) (grounds_of_parts gs)

    grounds_read : (gs : Grounds) (levels i j : ℕ) → KnownGrounds t.relevant gs → ground_levels_all gs ≤ levels → Written t (write_grounds gs) i j → j ≤ t.entries → many (ground t levels) (count_grounds gs) i ≡ good (parts gs) j
    grounds_read nil levels i j k l s b = ap (good []) (none_ends t i j s)
    grounds_read (cons g gs) levels i j k l s b =
        let w = written_split t (write_ground g) (write_grounds gs) i j s in
        let m : ℕ = i + length (write_ground g) in
        let a = le-max_left (ground_levels g) (ground_levels_all gs) in
        let c = le-max_right (ground_levels g) (ground_levels_all gs) in
        ap (λ o. then o (λ x n. then (many (ground t levels) (count_grounds gs) n) λ rest h. good (x ∷ rest) h)) (ground_reads g levels i m k.0 (omega arith) w.0 (omega (arith, w.1.ends)))
        ∙ made (λ rest. g ∷ rest) (many (ground t levels) (count_grounds gs) m) (parts gs) j (grounds_read gs levels m j k.1 (omega arith) w.1 b)

  -- Effects.

  abbrev literal_of : Bool → ℕ → Literal
  literal_of b a = record { adds = b; atom = a }

  -- a literal of a WHEN
  literal_reads : (x : Literal) (i j : ℕ) → x.atom < t.relevant → Written t (write_literal x) i j → j ≤ t.entries → literal t i ≡ good x j
  literal_reads x i j k s b = by x.adds x.atom k s
    where
      by : (c : Bool) (a : ℕ) → a < t.relevant → Written t (write_literal (literal_of c a)) i j → literal t i ≡ good (literal_of c a) j
      by true a k s =
          ap (λ o. then o (λ e l. literal_by t 509 e l)) (head_reads place.Literal 510 i (entry 13 a) [] j s b refl (omega arith) (lt-ltb a t.relevant k))
          ∙ ap (good (literal_of true a)) (none_ends t (i + 1) j (rest_written t i (entry 13 a) [] j s))
      by false a k s =
          let u = rest_written t i (entry 4 0) (entry 13 a ∷ []) j s in
          ap (λ o. then o (λ e l. literal_by t 509 e l)) (head_reads place.Literal 510 i (entry 4 0) (entry 13 a ∷ []) j s b refl (omega arith) refl)
          ∙ made (λ (f : Entry). literal_of false f.operand) (head t place.NegatedFact 509 (i + 1)) (entry 13 a) (i + 1 + 1) (head_reads place.NegatedFact 509 (i + 1) (entry 13 a) [] j u b refl (omega arith) (lt-ltb a t.relevant k))
          ∙ ap (good (literal_of false a)) (none_ends t (i + 1 + 1) j (rest_written t (i + 1) (entry 13 a) [] j u))

  -- a literal that is a part of an effect
  plain_reads : (x : Literal) (i j : ℕ) → x.atom < t.relevant → Written t (write_literal x) i j → j ≤ t.entries → clause t i ≡ good (plain x) j
  plain_reads x i j k s b = by x.adds x.atom k s
    where
      by : (c : Bool) (a : ℕ) → a < t.relevant → Written t (write_literal (literal_of c a)) i j → clause t i ≡ good (plain (literal_of c a)) j
      by true a k s =
          ap (λ o. then o (λ e l. clause_by t e l)) (head_reads place.Clause 512 i (entry 13 a) [] j s b refl (omega arith) (lt-ltb a t.relevant k))
          ∙ ap (good (plain (literal_of true a))) (none_ends t (i + 1) j (rest_written t i (entry 13 a) [] j s))
      by false a k s =
          let u = rest_written t i (entry 4 0) (entry 13 a ∷ []) j s in
          ap (λ o. then o (λ e l. clause_by t e l)) (head_reads place.Clause 512 i (entry 4 0) (entry 13 a ∷ []) j s b refl (omega arith) refl)
          ∙ made plain (then (head t place.NegatedFact 511 (i + 1)) λ f l. good (literal_of false f.operand) l) (literal_of false a) (i + 1 + 1)
          (made (λ (f : Entry). literal_of false f.operand) (head t place.NegatedFact 511 (i + 1)) (entry 13 a) (i + 1 + 1) (head_reads place.NegatedFact 511 (i + 1) (entry 13 a) [] j u b refl (omega arith) (lt-ltb a t.relevant k)))
          ∙ ap (good (plain (literal_of false a))) (none_ends t (i + 1 + 1) j (rest_written t (i + 1) (entry 13 a) [] j u))

  literals_read : (ls : List Literal) (i j : ℕ) → KnownLiterals t.relevant ls → 0 < length ls → Written t (entry 5 (length ls) ∷ gather write_literal ls) i j → j ≤ t.entries → literals t i ≡ good ls j
  literals_read ls i j k l s b =
      ap (λ o. then o (λ e m. unless (ltb 0 e.operand) 5 i (many (literal t) e.operand m))) (head_reads place.Literals 511 i (entry 5 (length ls)) (gather write_literal ls) j s b refl (omega arith) refl)
      ∙ ap (λ c. unless c 5 i (many (literal t) (length ls) (i + 1))) (lt-ltb 0 (length ls) l)
      ∙ gathered_read (literal t) write_literal (λ (x : Literal). x.atom < t.relevant) literal_reads ls (i + 1) j k (rest_written t i (entry 5 (length ls)) (gather write_literal ls) j s) b

  clause_reads : (c : Clause) (i j : ℕ) → KnownClause t.relevant c × ShallowClause c → Written t (write_clause c) i j → j ≤ t.entries → clause t i ≡ good c j
  clause_reads (plain x) i j k s b = plain_reads x i j k.0 s b
  clause_reads (when g ls) i j k s b =
      let fs : List Entry = entry 5 (length ls) ∷ gather write_literal ls in
      let w = written_split t (write_ground g) fs (i + 1) j (rest_written t i (entry 12 0) (write_ground g ++ fs) j s) in
      let m : ℕ = i + 1 + length (write_ground g) in
      ap (λ o. then o (λ e l. clause_by t e l)) (head_reads place.Clause 512 i (entry 12 0) (write_ground g ++ fs) j s b refl (omega arith) refl)
      ∙ ap (λ o. then o (λ h l. then (literals t l) λ xs n. good (when h xs) n)) (ground_reads g 511 (i + 1) m k.0.0 k.1 w.0 (omega (arith, w.1.ends)))
      ∙ made (when g) (literals t m) ls j (literals_read ls m j k.0.1 k.0.2 w.1 b)

  effect_reads : (cs : List Clause) (i j : ℕ) → Each (KnownClause t.relevant) cs → Each ShallowClause cs → Written t (write_effect cs) i j → j ≤ t.entries → effect t i ≡ good cs j
  effect_reads cs i j k l s b =
      ap (λ o. then o (λ e m. many (clause t) e.operand m)) (head_reads place.Clauses most_levels i (entry 5 (length cs)) (gather write_clause cs) j s b refl (omega arith) refl)
      ∙ gathered_read (clause t) write_clause (λ c. KnownClause t.relevant c × ShallowClause c) clause_reads cs (i + 1) j (each_both (KnownClause t.relevant) ShallowClause cs k l)
      (rest_written t i (entry 5 (length cs)) (gather write_clause cs) j s) b

  -- Names and actions.

  -- OBJECT stands there, or something else
  object_stands : (i o : ℕ) (es : List Entry) (j : ℕ) → Written t (entry 10 o ∷ es) i j → j ≤ t.entries → is_object t i ≡ true
  object_stands i o es j s b =
      and_from (ltb i t.entries) (eqb (get_or t.kinds i 0) 10) (lt-ltb i t.entries (omega (arith, s.ends))) (ap (λ (e : Entry). eqb e.kind 10) (first_written t i (entry 10 o) es j s))

  other_stands : (i : ℕ) (e : Entry) (es : List Entry) (j : ℕ) → Written t (e ∷ es) i j → eqb e.kind 10 ≡ false → is_object t i ≡ false
  other_stands i e es j s n = and_right (ltb i t.entries) (eqb (get_or t.kinds i 0) 10) (ap (λ (x : Entry). eqb x.kind 10) (first_written t i e es j s) ∙ n)

  -- objects are read up to an entry that is none
  objects_read : (os : List ℕ) (room i j : ℕ) → Within most_names os → length os ≤ room → Written t (map (entry 10) os) i j → j ≤ t.entries → is_object t j ≡ false → objects t room i ≡ good os j
  unfolding objects
  objects_read [] zero i j k l s b n =
      let e = none_ends t i j s in
      ap (λ c. cond c (bad 5 i) (good [] i)) (ap (is_object t) e ∙ n) ∙ ap (good []) e
  objects_read [] (suc room) i j k l s b n =
      let e = none_ends t i j s in
      ap (λ c. cond c (unless (ltb (get_or t.operands i 0) most_names) 5 i (then (objects t room (i + 1)) λ os m. good (get_or t.operands i 0 ∷ os) m)) (good [] i)) (ap (is_object t) e ∙ n) ∙ ap (good []) e
  objects_read (o ∷ os) zero i j k l s b n = absurd (omega arith)
  objects_read (o ∷ os) (suc room) i j k l s b n =
      let es = map (entry 10) os in
      let p : get_or t.operands i 0 ≡ o = ap (λ (e : Entry). e.operand) (first_written t i (entry 10 o) es j s) in
      ap (λ c. cond c (unless (ltb (get_or t.operands i 0) most_names) 5 i (then (objects t room (i + 1)) λ xs m. good (get_or t.operands i 0 ∷ xs) m)) (good [] i)) (object_stands i o es j s b)
      ∙ ap (λ (x : ℕ). unless (ltb x most_names) 5 i (then (objects t room (i + 1)) λ xs m. good (x ∷ xs) m)) p
      ∙ ap (λ c. unless c 5 i (then (objects t room (i + 1)) λ xs m. good (o ∷ xs) m)) (lt-ltb o most_names k.0)
      ∙ made (λ xs. o ∷ xs) (objects t room (i + 1)) os j (objects_read os room (i + 1) j k.1 (omega arith) (rest_written t i (entry 10 o) es j s) b n)

  name_reads : (before : List ℕ) (m : Name) (i j : ℕ) → m.operator < most_names → Within most_names m.objects → length m.objects ≤ most_objects → precedes before (listed m) ≡ true
      → Written t (write_name m) i j → j ≤ t.entries → is_object t j ≡ false → name t before i ≡ good m j
  name_reads before m i j k l few p s b n =
      let o = m.operator in
      let es = map (entry 10) m.objects in
      let after : Entry → ℕ → Out Name = λ e q. then (objects t most_objects q) λ os r. unless (precedes before (e.operand ∷ os)) 8 (r - 1) (good (record { operator = e.operand; objects = os }) r) in
      ap (λ x. then x after) (head_reads place.Action most_levels i (entry 18 o) es j s b refl (omega arith) (lt-ltb o most_names k))
      ∙ ap (λ x. then x (λ os r. unless (precedes before (o ∷ os)) 8 (r - 1) (good (record { operator = o; objects = os }) r))) (objects_read m.objects most_objects (i + 1) j l few (rest_written t i (entry 18 o) es j s) b n)
      ∙ ap (λ c. unless c 8 (j - 1) (good m j)) p

  action_reads : (before : List ℕ) (a : Action) (i j : ℕ) → KnownAction t.relevant most_names most_names a → SmallAction a → precedes before (listed a.name) ≡ true
      → Written t (write_action a) i j → j ≤ t.entries → action t before i ≡ good a j
  action_reads before a i j k few p s b =
      let ns = write_name a.name in
      let gs = write_ground a.precondition in
      let cs = write_effect a.effect in
      let v = written_split t ns (gs ++ cs) i j s in
      let m : ℕ = i + length ns in
      let u = written_split t gs cs m j v.1 in
      let n : ℕ = m + length gs in
      let low : n ≤ t.entries = omega (arith, u.1.ends) in
      let f = begins a.precondition in
      let no = other_stands m f.entry_is f.others n (subst (λ es. Written t es m n) f.is u.0) f.no_object in
      let after_ground : Name → Ground → ℕ → Out Action = λ x g q. then (effect t q) λ es r. good (record { name = x; precondition = g; effect = es }) r in
      ap (λ o. then o (λ x q. then (ground t most_levels q) (after_ground x))) (name_reads before a.name i m k.operator k.objects few.objects p v.0 (omega arith) no)
      ∙ ap (λ o. then o (after_ground a.name)) (ground_reads a.precondition most_levels m n k.precondition few.precondition u.0 low)
      ∙ made (λ es. record { name = a.name; precondition = a.precondition; effect = es }) (effect t n) a.effect j (effect_reads a.effect n j k.effect few.effect u.1 b)

  -- actions one after the other, where names rise and come after `before`
  pub actions_read : (acts : List Action) (before : List ℕ) (i j : ℕ) → Each (KnownAction t.relevant most_names most_names) acts → Each SmallAction acts
      → Each (λ m. precedes before (listed m) ≡ true) (map (λ (a : Action). a.name) acts) → RisingBy NameBefore (map (λ (a : Action). a.name) acts)
      → Written t (gather write_action acts) i j → j ≤ t.entries → series (action t) after_action (length acts) before i ≡ good acts j
  actions_read [] before i j k few p r s b = ap (good []) (none_ends t i j s)
  actions_read (a ∷ acts) before i j k few p r s b =
      let w = written_split t (write_action a) (gather write_action acts) i j s in
      let m : ℕ = i + length (write_action a) in
      let names = map (λ (x : Action). x.name) acts in
      let q = each_then (NameBefore a.name) (λ x. precedes (listed a.name) (listed x) ≡ true) (λ x h. name_precedes a.name x h) names r.0 in
      ap (λ o. then o (λ x n. then (series (action t) after_action (length acts) (after_action before x) n) λ rest l. good (x ∷ rest) l)) (action_reads before a i m k.0 few.0 p.0 w.0 (omega (arith, w.1.ends)))
      ∙ made (λ rest. a ∷ rest) (series (action t) after_action (length acts) (listed a.name) m) acts j (actions_read acts (listed a.name) m j k.1 few.1 q r.1 w.1 b)

  -- Atoms.

  start_reads : (s : Start) (low i : ℕ) (es : List Entry) (j : ℕ) → s.atom < t.atoms → low ≤ s.atom → Written t (write_start s ∷ es) i j → j ≤ t.entries → start t low i ≡ good s (i + 1)
  start_reads s low i es j k l w b = by s.starts s.atom k l w
    where
      by : (c : Bool) (a : ℕ) → a < t.atoms → low ≤ a → Written t (entry (cond c 19 20) a ∷ es) i j → start t low i ≡ good (record { atom = a; starts = c }) (i + 1)
      by true a k l w =
          ap (λ o. then o (λ e m. unless (leb low e.operand) 8 i (good (record { atom = e.operand; starts = eqb e.kind 19 }) m))) (head_reads place.Relevant most_levels i (entry 19 a) es j w b refl (omega arith) (lt-ltb a t.atoms k))
          ∙ ap (λ d. unless d 8 i (good (record { atom = a; starts = true }) (i + 1))) (le-leb low a l)
      by false a k l w =
          ap (λ o. then o (λ e m. unless (leb low e.operand) 8 i (good (record { atom = e.operand; starts = eqb e.kind 19 }) m))) (head_reads place.Relevant most_levels i (entry 20 a) es j w b refl (omega arith) (lt-ltb a t.atoms k))
          ∙ ap (λ d. unless d 8 i (good (record { atom = a; starts = false }) (i + 1))) (le-leb low a l)

  pub starts_read : (ss : List Start) (low i j : ℕ) → Within t.atoms (map (λ (s : Start). s.atom) ss) → Each (λ k. low ≤ k) (map (λ (s : Start). s.atom) ss) → Rising (map (λ (s : Start). s.atom) ss)
      → Written t (map write_start ss) i j → j ≤ t.entries → series (start t) after_start (length ss) low i ≡ good ss j
  starts_read [] low i j k l r s b = ap (good []) (none_ends t i j s)
  starts_read (x ∷ ss) low i j k l r s b =
      let as_atoms = map (λ (y : Start). y.atom) ss in
      let above = each_then (λ y. x.atom < y) (λ y. x.atom + 1 ≤ y) (λ y h. omega arith) as_atoms r.0 in
      ap (λ o. then o (λ y n. then (series (start t) after_start (length ss) (after_start low y) n) λ rest m. good (y ∷ rest) m)) (start_reads x low i (map write_start ss) j k.0 l.0 s b)
      ∙ made (λ rest. x ∷ rest) (series (start t) after_start (length ss) (x.atom + 1) (i + 1)) ss j (starts_read ss (x.atom + 1) (i + 1) j k.1 above r.1 (rest_written t i (write_start x) (map write_start ss) j s) b)

  always_reads : (k low i : ℕ) (es : List Entry) (j : ℕ) → k < t.atoms → low ≤ k → is_listed t k ≡ false → Written t (entry 21 k ∷ es) i j → j ≤ t.entries → always_true t low i ≡ good k (i + 1)
  always_reads k low i es j h l n s b =
      ap (λ o. then o (λ e m. unless (leb low e.operand && not (is_listed t e.operand)) 8 i (good e.operand m))) (head_reads place.Always most_levels i (entry 21 k) es j s b refl (omega arith) (lt-ltb k t.atoms h))
      ∙ ap (λ d. unless d 8 i (good k (i + 1))) (and_from (leb low k) (not (is_listed t k)) (le-leb low k l) (not_from_false (is_listed t k) n))

  pub always_read : (ks : List ℕ) (low i j : ℕ) → Within t.atoms ks → Each (λ k. low ≤ k) ks → Rising ks → Each (λ k. is_listed t k ≡ false) ks
      → Written t (map (entry 21) ks) i j → j ≤ t.entries → series (always_true t) after_atom (length ks) low i ≡ good ks j
  always_read [] low i j h l r n s b = ap (good []) (none_ends t i j s)
  always_read (k ∷ ks) low i j h l r n s b =
      let above = each_then (λ y. k < y) (λ y. k + 1 ≤ y) (λ y g. omega arith) ks r.0 in
      ap (λ o. then o (λ y m. then (series (always_true t) after_atom (length ks) (after_atom low y) m) λ rest q. good (y ∷ rest) q)) (always_reads k low i (map (entry 21) ks) j h.0 l.0 n.0 s b)
      ∙ made (λ rest. k ∷ rest) (series (always_true t) after_atom (length ks) (k + 1) (i + 1)) ks j (always_read ks (k + 1) (i + 1) j h.1 above r.1 n.1 (rest_written t i (entry 21 k) (map (entry 21) ks) j s) b)
