-- What is written of an action, and the literals that it can bring about.
use Rattle.std.proofs.Common.{◌≡◌, ℕ, ◌+◌, ◌<◌, Bool, true, false, cond, not, List, [], ◌∷◌, ◌++◌, map, length, get_or, take, set, Option, Some, MatchResult, Ok, Err, Result, sym, refl, ap, ◌∙◌, subst, arith, append_assoc, append-nil, length-append}
use Rattle.std.specs.Bool.{beq}
use Rattle.std.specs.Borrow.{Bor}
use Rattle.std.specs.Option.{option_eq}
use Rattle.std.proofs.lemmas.List.{length-map, map-append, map-set, set_at, get_or_at, get_or-map, take-map, take_at}
use Rattle.table.specs.Entries.{coded}
use Rattle.table.specs.Kinds.{code_of}
use Rattle.table.specs.Reading.{Entry, entry}
use Rattle.table.specs.declared.arrays.Head.{Head}
use Rattle.table.specs.declared.kind.Kind.TheVariants.{And}
use Rattle.model.specs.Meaning.{fits, operator_of, parts, literals_where, precondition_of, effect_of}
use Rattle.model.specs.Settling.{Ground, known, fact, negated, group, Round, is, simplify, possible, reach}
use Rattle.model.specs.Trees as tree
use Rattle.model.specs.Trees.{Formula, Effect}
use Rattle.adl.specs.declared.task.Task.{Task}
use Rattle.adl.specs.Held.{tree_of}
use Rattle.std.proofs.Math.Option.{none}
use Rattle.book_of_task.specs.Places.{part_places, effect_place, clash_in_parts, clash_of}
use Rattle.book_theorems.specs.Writes.{write_ground}
use Rattle.runs.specs.declared.draft.Draft.{Draft}
use Rattle.runs.specs.declared.draft.Stop.{Stop}
use Rattle.runs.specs.declared.settling.Settling.{Settling}
use Rattle.runs.specs.declared.sheet.Sheet.{Sheet}
use Rattle.runs.specs.declared.verdict.Verdict.{Verdict}
use Rattle.runs.specs.Clauses.{Explains, PartsWritten, effect_clash, EffectOf, task_in, round_in, parts_of}
use Rattle.runs.specs.Left.{Left, FormulaOf, simplified_in}
use Rattle.runs.specs.Extends.{Extends}
use Rattle.runs.proofs.Extending.{extends_same, extends_after}
use Rattle.runs.specs.Settled.{round_of, truth_of, body}
use Rattle.runs.specs.Shown.{bound}
use Rattle.runs.proofs.Fittings.{places_of}
use Rattle.runs.proofs.Sheets.{formula_over, effect_over, holds_over}
use Rattle.runs.proofs.Turns.{operator_known, precondition_stands, effect_stands}
use Rattle.runs.proofs.EffectPlaces.{effect_begins_at}

-- whether FALSE is told of a formula
pub told_false : (g : Ground) (u : Option Bool) → u ≡ truth_of g → option_eq beq u (Some false) ≡ is false g
told_false g u e = ap (λ v. option_eq beq v (Some false)) e ∙ of_ground g
  where
    of_ground : (g : Ground) → option_eq beq (truth_of g) (Some false) ≡ is false g
    of_ground (known true) = refl
    of_ground (known false) = refl
    of_ground (fact j) = refl
    of_ground (negated h) = refl
    of_ground (group j gs) = refl

-- where the precondition is not FALSE, the literals are those of the parts that are possible
pub reach_is : (t : tree.Task) (r : Round) (m : tree.Name) → false ≡ is false (simplify t r m.objects (precondition_of t m)) → literals_where (possible t r) (effect_of t m) ≡ reach t r m
reach_is t r m e = ap (λ b. cond (not b) (literals_where (possible t r) (effect_of t m)) []) e

-- where it is FALSE, there are none
pub reach_none : (t : tree.Task) (r : Round) (m : tree.Name) → true ≡ is false (simplify t r m.objects (precondition_of t m)) → [] ≡ reach t r m
reach_none t r m e = ap (λ b. cond (not b) (literals_where (possible t r) (effect_of t m)) []) e

-- TRUE and FALSE are appended where a formula is one of them
pub finished : {T E : Type 0} (r : Result T E) (g : Ground) (before xs ys : List Head) (u : Option Bool)
    → MatchResult r (λ _. (g : Ground) (before : List Head) → Left g before xs u → map coded ys ≡ map coded before ++ write_ground g) (λ _. ys ≡ xs)
    → Left g before xs u → MatchResult r (λ _. map coded ys ≡ map coded before ++ write_ground g) (λ _. Extends before ys)
finished (Ok x) g before xs ys u h l = h g before l
finished (Err x) g before xs ys u h l = extends_after (body g) l.entries (extends_same h)

-- what simplifying the precondition of a name that fits and writing its effect come to, over a sheet that was made for its objects
module _ (s : Sheet) (vs : Bor (List Verdict)) (k : Task) (m : tree.Name) (e : fits (tree_of k) m ≡ true) (t : s.task.now ≡ k) (d : s.depth ≡ length m.objects) (b : bound s ≡ m.objects) where
  -- where its formulas and effects stand
  abbrev over : Settling
  over = record { sheet = s; verdicts = vs }

  pub precondition_left : (before after : List Head) (u : Option Bool) (next : ℕ)
      → ((f : Formula) (j : ℕ) → FormulaOf over ((places_of k m.operator).start + 1 + length m.objects) f j → Left (simplified_in over f) before after u × (next ≡ j))
      → Left (simplify (tree_of k) (round_of vs.now) m.objects (precondition_of (tree_of k) m)) before after u
  precondition_left before after u next h =
      holds_over s k m.objects t d b (λ t sheet. Left (simplify t (round_of vs.now) sheet (precondition_of (tree_of k) m)) before after u) (h _ _ (formula_over s k m.objects t d b (precondition_stands k m e))).0

  pub effect_written : (before after : Draft) (n next : ℕ)
      → ((f : Effect) (j : ℕ) → EffectOf over (places_of k m.operator).effect f j → PartsWritten (task_in over) (round_in over) (parts_of over f) before after n × (next ≡ j))
      → PartsWritten (tree_of k) (round_of vs.now) (effect_of (tree_of k) m) before after n
  effect_written before after n next h =
      holds_over s k m.objects t d b (λ t sheet. PartsWritten t (round_of vs.now) (parts t sheet (operator_of (tree_of k) m.operator).effect) before after n) (h _ _ (effect_over s k m.objects t d b (effect_stands k m e))).0

  pub stop_explained : (stop : Stop) → false ≡ is false (simplify (tree_of k) (round_of vs.now) m.objects (precondition_of (tree_of k) m))
      → ((f : Effect) (j : ℕ) → EffectOf over (places_of k m.operator).effect f j → Explains (effect_clash over (places_of k m.operator).effect f) stop)
      → Explains (clash_of (tree_of k) (round_of vs.now) m) stop
  stop_explained stop q h =
      let T = tree_of k in
      let r = round_of vs.now in
      let f = (operator_of T m.operator).effect in
      let i = (places_of k m.operator).effect in
      let found : Explains (clash_in_parts T r (effect_of T m) (part_places T i f)) stop =
      holds_over s k m.objects t d b (λ t sheet. Explains (clash_in_parts t r (parts t sheet f) (part_places t i f)) stop) (h _ _ (effect_over s k m.objects t d b (effect_stands k m e))) in
      subst (λ (b : Bool). Explains (cond (not b) (clash_in_parts T r (effect_of T m) (part_places T (effect_place T m.operator) f)) none) stop) q
      (subst (λ n. Explains (clash_in_parts T r (effect_of T m) (part_places T n f)) stop) (effect_begins_at k m.operator (operator_known k m e)) found)

-- what was appended goes away again
pub taken_back : (before named after kept : List Head) (n : ℕ) (names ground : List Entry) → n ≡ length before → map coded named ≡ map coded before ++ names → map coded after ≡ map coded named ++ ground → kept ≡ take n after
    → map coded kept ≡ map coded before ++ []
taken_back before named after kept n names ground l a b k =
    ap (map coded) k ∙ sym (take-map coded n after) ∙ ap (take n) (b ∙ ap (λ xs. xs ++ ground) a ∙ append_assoc (map coded before) names ground)
    ∙ take_at (map coded before) (names ++ ground) n (length-map before coded ∙ sym l) ∙ sym (append-nil (map coded before))

-- AND and what follows it
module _ (before begun ended : List Head) (parts : List Entry) (g : ℕ)
    (l : g ≡ length before) (b : begun ≡ before ++ (record { kind = And; operand = 0 } ∷ [])) (e : map coded ended ≡ map coded begun ++ parts)
  where
    together : map coded ended ≡ map coded before ++ (entry 5 0 ∷ parts)
    together =
        e ∙ ap (λ xs. map coded xs ++ parts) b ∙ ap (λ xs. xs ++ parts) (map-append coded before (record { kind = And; operand = 0 } ∷ []))
        ∙ append_assoc (map coded before) (entry 5 0 ∷ []) parts

    long : length (map coded before) ≡ g
    long = length-map before coded ∙ sym l

    -- AND stands inside
    pub group_inside : g < length ended
    group_inside = omega (arith, length-map ended coded, ap length together, length-append (map coded before) (entry 5 0 ∷ parts), long)

    -- its operand is filled in
    pub group_filled : (n : ℕ) (h : Head) → h ≡ get_or ended g h → map coded (set ended g (record { kind = h.kind; operand = n })) ≡ map coded before ++ (entry 5 n ∷ parts)
    group_filled n h w =
        let k : code_of h.kind ≡ 5 =
        ap (λ (x : Head). code_of x.kind) w
        ∙ ap (λ (x : Entry). x.kind) (sym (get_or-map coded ended g h (coded h) group_inside) ∙ ap (λ (xs : List Entry). get_or xs g (coded h)) together ∙ get_or_at (map coded before) (entry 5 0) parts (coded h) g long) in
        map-set coded ended g (record { kind = h.kind; operand = n })
        ∙ ap (λ (xs : List Entry). set xs g (entry (code_of h.kind) n)) together
        ∙ set_at (map coded before) (entry 5 0) parts (entry (code_of h.kind) n) g long
        ∙ ap (λ m. map coded before ++ (entry m n ∷ parts)) k

-- an action's entries stand one after the other
pub action_joined : (before named judged ended : List Head) (names ground effect : List Entry) → map coded named ≡ map coded before ++ names → map coded judged ≡ map coded named ++ ground → map coded ended ≡ map coded judged ++ effect
    → map coded ended ≡ map coded before ++ (names ++ (ground ++ effect))
action_joined before named judged ended names ground effect a b c =
    c ∙ ap (λ xs. xs ++ effect) (b ∙ ap (λ xs. xs ++ ground) a) ∙ append_assoc (map coded before ++ names) ground effect ∙ append_assoc (map coded before) names (ground ++ effect)
