-- The facts of a task, one after the other, and their puts.
use Rattle.std.proofs.Common.{◌≡◌, ℕ, ◌+◌, ◌-◌, ◌<◌, ◌≤◌, true, List, [], ◌∷◌, map, get_or, drop, sym, refl, ap, ◌∙◌, arith, ltb-true, eqb-true}
use Rattle.std.proofs.lemmas.List.{drop-drop}
use Rattle.table.specs.declared.places.Place.TheVariants as place
use Rattle.table.specs.Reading.{Entry, Out, good, then, many}
use Rattle.store.specs.Sets.{after_put}
use Rattle.model.specs.Meaning.{State, object_of}
use Rattle.model.specs.Trees.{Term, Fact, Task, number}
use Rattle.adl.specs.declared.task.Task as loaded
use Rattle.adl.specs.Held.{held, tree_of}
use Rattle.adl.specs.Tables.{Table, Around, arity, outermost, head}
use Rattle.adl.specs.Reads.{term_of, term, terms, fact, goal_place}
use Rattle.runs.specs.Standing.{TermsAt}
use Rattle.protocol.specs.Steps.{put_numbers}
use Rattle.table.proofs.Reading.{first_step, series_first, singles_end}
use Rattle.adl.proofs.Heads.{found}
use Rattle.adl.proofs.Declared.{range_of}
use Rattle.adl_theorems.proofs.Inside.{inside_at, inside_fact}

-- the numbers of facts
abbrev pub numbered : Task → List Fact → List ℕ
numbered t fs = map (λ f. number t f.predicate f.arguments) fs

-- a term is one entry
pub term_ends : (t : Table) (a : Around) (i : ℕ) (x : Term) (j : ℕ) → term t a i ≡ good x j → j ≡ i + 1
term_ends t a i x j e =
    let w = first_step (head t place.Term a i) (λ y k. good (term_of y) k) x j e in
    let q : good (term_of w.0) w.1 ≡ good x j = w.3 in
    let l : w.1 ≡ j = cc in
    sym l ∙ (found t place.Term a i w.0 w.1 w.2).ends

-- a fact that was read from place i to place j: its predicate, and then its terms
pub record FactRead (t : Table) (i : ℕ) (f : Fact) (j : ℕ) : Type 0 where
  pub inside : i < t.entries
  pub arguments : List Term
  pub stand : TermsAt t 0 (get_or t.operands i 0) (i + 1) arguments j
  pub is : f ≡ record { predicate = get_or t.operands i 0; arguments = map (object_of []) arguments }
  pub ends : j ≡ i + (1 + arity t (get_or t.operands i 0))
  pub ends_inside : j ≤ t.entries

-- what is known of a fact that was read
pub fact_read : (t : Table) (i : ℕ) (f : Fact) (j : ℕ) → fact t i ≡ good f j → FactRead t i f j
fact_read t i f j h =
    let made : ℕ → List Term → Fact = λ p ts. record { predicate = p; arguments = map (object_of []) ts } in
    let after : Entry → ℕ → Out Fact = λ e k. then (terms t (outermost 0 i) e.operand k) (λ ts l. good (made e.operand ts) l) in
    let w = first_step (head t place.Fact (outermost 0 i) i) after f j h in
    let b = found t place.Fact (outermost 0 i) i w.0 w.1 w.2 in
    let p = get_or t.operands i 0 in
    let n : w.0.operand ≡ get_or t.operands i 0 = ap (λ (x : Entry). x.operand) b.is in
    let v = first_step (terms t (outermost 0 i) w.0.operand w.1) (λ ts l. good (made w.0.operand ts) l) f j w.3 in
    let q : good (made w.0.operand v.0) v.1 ≡ good f j = v.3 in
    let u : made w.0.operand v.0 ≡ f = cc in
    let l : v.1 ≡ j = cc in
    let r : terms t (outermost 0 i) (get_or t.operands i 0) (i + 1) ≡ good v.0 j =
    ap (λ x. terms t (outermost 0 i) x (i + 1)) (sym n) ∙ ap (λ x. terms t (outermost 0 i) w.0.operand x) (sym b.ends) ∙ v.2 ∙ ap (good v.0) l in
    let g = range_of t (outermost 0 i) (get_or t.kinds i 0) 2 p (eqb-true (get_or t.kinds i 0) 2 b.allowed) b.ranged in
    record {
      inside = b.inside;
      arguments = v.0;
      stand = record { around = outermost 0 i; reads = r; known = refl; predicate = ltb-true p t.predicates g };
      is = sym u ∙ ap (λ x. made x v.0) n;
      ends = omega (arith, singles_end (λ (_ : Unit {0}). term t (outermost 0 i)) (λ _ _. tt) (λ _ x y k e. term_ends t (outermost 0 i) x y k e) (arity t p) tt (i + 1) v.0 j r);
      ends_inside = inside_at t (fact t i) f j (inside_fact t i) h;
    }

-- after k of m facts: the next one, and the others after it
pub next_fact : (t : Table) (m k i : ℕ) (fs : List Fact) (g : ℕ) → k < m → many (fact t) (m - k) i ≡ good (drop k fs) g →
    (f : Fact) × (j : ℕ) × FactRead t i f j × (drop k fs ≡ f ∷ drop (k + 1) fs) × (many (fact t) (m - (k + 1)) j ≡ good (drop (k + 1) fs) g)
next_fact t m k i fs g h e =
    let w = series_first (λ (_ : Unit {0}). fact t) (λ _ _. tt) (m - k) tt i (drop k fs) g (omega arith) e in
    let n : m - (k + 1) ≡ m - k - 1 = omega arith in
    let r : drop (k + 1) fs ≡ w.2 = sym (drop-drop 1 k fs) ∙ ap (drop 1) w.5 in (
      w.0,
      w.1,
      fact_read t i w.0 w.1 w.3,
      w.5 ∙ ap (λ ys. w.0 ∷ ys) (sym r),
      ap (λ x. many (fact t) x w.1) n ∙ w.4 ∙ ap (λ ys. good ys g) (sym r),
    )

-- the same of a loaded task, whose facts end where the goal begins
pub next_in : (k : loaded.Task) (n i : ℕ) → n < k.table.sizes.facts → many (fact (held k)) (k.table.sizes.facts - n) i ≡ good (drop n (tree_of k).facts) (goal_place (held k)) →
    (f : Fact) × (j : ℕ) × FactRead (held k) i f j × (drop n (tree_of k).facts ≡ f ∷ drop (n + 1) (tree_of k).facts) × (many (fact (held k)) (k.table.sizes.facts - (n + 1)) j ≡ good (drop (n + 1) (tree_of k).facts) (goal_place (held k)))
next_in k n i h e = next_fact (held k) k.table.sizes.facts n i (tree_of k).facts (goal_place (held k)) h e

-- a put of the next fact leaves the puts of the others
pub put_next : (t : Task) (n m a : ℕ) (f : Fact) (xs ys : List Fact) (s u whole : State) → xs ≡ f ∷ ys → m ≡ n → a ≡ number t f.predicate f.arguments → u ≡ after_put m s a true →
    put_numbers n (numbered t xs) s ≡ whole → put_numbers n (numbered t ys) u ≡ whole
put_next t n m a f xs ys s u whole e q p r inv =
    ap (put_numbers n (numbered t ys)) (r ∙ ap (λ (k : ℕ). after_put k s a true) q ∙ ap (λ (k : ℕ). after_put n s k true) p)
    ∙ sym (ap (λ (zs : List Fact). put_numbers n (numbered t zs) s) e) ∙ inv
