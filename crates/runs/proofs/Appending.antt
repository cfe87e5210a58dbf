-- What is written piece after piece is what all pieces together make.
use Rattle.std.proofs.Common.{◌≡◌, ℕ, ◌+◌, Bool, true, false, cond, not, ◌||◌, List, [], ◌∷◌, ◌++◌, map, length, sym, refl, ap, ◌∙◌, subst, Result, IfOk, IfErr, arith}
use Rattle.std.proofs.Math.Option.{Option, some}
use Rattle.std.proofs.lemmas.List.{append_assoc, append-nil, length-append, length-map, map-append}
use Rattle.std.proofs.lemmas.Result.{IfOk-weaker, IfErr-weaker}
use Rattle.std.specs.Bool.{beq}
use Rattle.table.specs.Entries.{coded}
use Rattle.table.specs.Reading.{Entry}
use Rattle.model.specs.Lists.{gather, any_of}
use Rattle.model.specs.Meaning.{Literal, Part, ground, literals_where}
use Rattle.model.specs.Trees.{Task, Consequent, outcomes_of, all_outcomes}
use Rattle.model.specs.Settling.{always, Ground, known, is, Round, is_unsettled, simplify, possible}
use Rattle.model.specs.Books.{Clause, plain, on_facts, under, clauses}
use Rattle.adl.specs.Reads.{consequents_of}
use Rattle.book_theorems.specs.Writes.{write_literal, write_clause}
use Rattle.rising.specs.declared.literal.Literal as code
use Rattle.rising.specs.Literals.{is_adds}
use Rattle.runs.specs.declared.draft.Draft.{Draft}
use Rattle.runs.specs.declared.draft.Stop.{Stop}
use Rattle.runs.specs.declared.draft.Stop.TheVariants.{NoMemory, Clash}
use Rattle.runs.specs.declared.verdict.Verdict.{Verdict}
use Rattle.runs.specs.declared.verdict.Verdict.TheVariants.{Always}
use Rattle.runs.specs.Settled.{meaning, fact_in, at, round_of}
use Rattle.book_of_task.specs.Clashes.{is_always, clashes, some_clashes}
use Rattle.runs.specs.Clauses.{Explains, Appends, LiteralsWritten, PartsWritten}
use Rattle.runs.specs.Effects.{meant, consequent_literals, consequents_literals}
use Rattle.runs.proofs.Walks.{any_append, cond_append, gather_append}

-- Lists.

pub on_facts_append : (r : Round) (ls ms : List Literal) → on_facts r (ls ++ ms) ≡ on_facts r ls ++ on_facts r ms
on_facts_append r [] ms = refl
on_facts_append r (l ∷ ls) ms =
    let f : Literal = record { adds = l.adds; atom = r.fact_of l.atom } in
    let b = is_unsettled (r.verdict l.atom) in
    ap (λ ns. cond b (f ∷ ns) ns) (on_facts_append r ls ms) ∙ cond_append b f (on_facts r ls) (on_facts r ms)

-- what comes after a list goes on after its first part
pub longer : {A : Type 0} (ls ms ns : List A) {xs ys : List A} → ys ≡ ms ++ ns → xs ≡ ls ++ ys → xs ≡ (ls ++ ms) ++ ns
longer ls ms ns p q = q ∙ ap (λ zs. ls ++ zs) p ∙ sym (append_assoc ls ms ns)

-- what passes a test stands in neither list
none_together : {A : Type 0} (p : A → Bool) (ls ms : List A) → any_of p ls ≡ false → any_of p ms ≡ false → any_of p (ls ++ ms) ≡ false
none_together p ls ms e q = any_append p ls ms ∙ ap (λ b. b || any_of p ms) e ∙ q

-- Entries and literals.

pub nothing_appended : (a : Draft) → Appends [] [] a a
nothing_appended a = record { entries = sym (append-nil _); literals = sym (append-nil _) }

pub appended_after : {es fs : List Entry} {ls ms : List Literal} {a b c : Draft} → Appends es ls a b → Appends fs ms b c → Appends (es ++ fs) (ls ++ ms) a c
appended_after {es} {fs} {ls} {ms} {a} {b} {c} p q =
    record {
      entries = q.entries ∙ ap (λ zs. zs ++ fs) p.entries ∙ append_assoc (map coded a.entries.items) es fs;
      literals = q.literals ∙ ap (λ zs. zs ++ ms) p.literals ∙ append_assoc (map meant a.literals.items) ls ms;
    }

-- the same by equal lists
pub appended_as : {es fs : List Entry} {ls ms : List Literal} {a b : Draft} → es ≡ fs → ls ≡ ms → Appends es ls a b → Appends fs ms a b
appended_as {es} {fs} {ls} {ms} {a} {b} p q h = subst (λ xs. Appends xs ms a b) p (subst (λ xs. Appends es xs a b) q h)

-- Literals.

module _ (r : Round) where
  pub no_literals : (a : Draft) → LiteralsWritten r [] a a 0
  no_literals a = (nothing_appended a, refl, refl)

  pub literals_after : (ls ms : List Literal) (a b c : Draft) (m n k : ℕ) → LiteralsWritten r ls a b m → LiteralsWritten r ms b c n → k ≡ m + n → LiteralsWritten r (ls ++ ms) a c k
  literals_after ls ms a b c m n k p q e =
      let f = on_facts_append r ls ms in (
        appended_as (sym (ap (gather write_literal) f ∙ gather_append write_literal (on_facts r ls) (on_facts r ms))) refl (appended_after p.0 q.0),
        omega (arith, p.1, q.1, e, ap (λ (xs : List Literal). length xs) f, length-append (on_facts r ls) (on_facts r ms)),
        none_together (clashes r) ls ms p.2 q.2,
      )

  pub literals_as : (ls ms : List Literal) (a b : Draft) (n : ℕ) → ms ≡ ls → LiteralsWritten r ls a b n → LiteralsWritten r ms a b n
  literals_as ls ms a b n e h = subst (λ xs. LiteralsWritten r xs a b n) (sym e) h

-- the literals of the first consequent and of the others
pub consequent_first : (t : Task) (sh : List ℕ) (c : Consequent) (ds cs : List Consequent) → cs ≡ c ∷ ds → consequents_literals t sh cs ≡ consequent_literals t sh c ++ consequents_literals t sh ds
consequent_first t sh c ds cs e =
    ap (λ (xs : List Consequent). consequents_literals t sh xs) e ∙ map-append (ground t sh) (outcomes_of c) (all_outcomes (consequents_of ds))

-- what is written of a literal whose atom has this verdict
abbrev on_fact : Bool → Verdict → List Literal
on_fact b v = cond (is_unsettled (meaning v)) (record { adds = b; atom = fact_in v } ∷ []) []

module _ (vs : List Verdict) (l : code.Literal) where
  pub literal_written : (v : Verdict) (a b : Draft) (n : ℕ) → v ≡ at vs l.atom
      → Appends (gather write_literal (on_fact (is_adds l.sign) v)) (meant l ∷ []) a b → n ≡ length (on_fact (is_adds l.sign) v) → is_always (not (is_adds l.sign)) (meaning v) ≡ false
      → LiteralsWritten (round_of vs) (meant l ∷ []) a b n
  literal_written v a b n e h k q =
      subst (λ v. Appends (gather write_literal (on_fact (is_adds l.sign) v)) (meant l ∷ []) a b × (n ≡ length (on_fact (is_adds l.sign) v)) × ((is_always (not (is_adds l.sign)) (meaning v) || false) ≡ false)) e
      (h, k, ap (λ b. b || false) q)

  -- a literal on a settled atom clashes if it would change it
  pub changes : (x y : Bool) → is_always (not y) (always x) ≡ not (beq x y)
  changes true true = refl
  changes true false = refl
  changes false true = refl
  changes false false = refl

  pub literal_clashes : (b : Bool) → Always b ≡ at vs l.atom → not (beq b (is_adds l.sign)) ≡ true → clashes (round_of vs) (meant l) ≡ true
  literal_clashes b e h = ap (λ v. is_always (not (is_adds l.sign)) (meaning v)) (sym e) ∙ changes b (is_adds l.sign) ∙ h

-- Parts.

module _ (t : Task) (r : Round) where
  pub no_parts : (a : Draft) → PartsWritten t r [] a a 0
  no_parts a = (nothing_appended a, refl, refl)

  clauses_append : (ps qs : List Part) → clauses t r (ps ++ qs) ≡ clauses t r ps ++ clauses t r qs
  clauses_append ps qs = gather_append (λ (p : Part). under (simplify t r p.sheet p.condition) (on_facts r p.literals)) ps qs

  brought_append : (ps qs : List Part) → literals_where (possible t r) (ps ++ qs) ≡ literals_where (possible t r) ps ++ literals_where (possible t r) qs
  brought_append ps qs = gather_append (λ (p : Part). cond (possible t r p.sheet p.condition) p.literals []) ps qs

  pub parts_after : (ps qs : List Part) (a b c : Draft) (m n k : ℕ) → PartsWritten t r ps a b m → PartsWritten t r qs b c n → k ≡ m + n → PartsWritten t r (ps ++ qs) a c k
  parts_after ps qs a b c m n k p q e =
      let f = clauses_append ps qs in (
        appended_as (sym (ap (gather write_clause) f ∙ gather_append write_clause (clauses t r ps) (clauses t r qs))) (sym (brought_append ps qs)) (appended_after p.0 q.0),
        omega (arith, p.1, q.1, e, ap (λ (xs : List Clause). length xs) f, length-append (clauses t r ps) (clauses t r qs)),
        ap (some_clashes r) (brought_append ps qs) ∙ none_together (clashes r) (literals_where (possible t r) ps) (literals_where (possible t r) qs) p.2 q.2,
      )

  pub parts_as : (ps qs : List Part) (a b : Draft) (n : ℕ) → qs ≡ ps → PartsWritten t r ps a b n → PartsWritten t r qs a b n
  parts_as ps qs a b n e h = subst (λ xs. PartsWritten t r xs a b n) (sym e) h

-- what one part comes to, by what is left of its condition
abbrev pub PartWritten : Round → Ground → List Literal → List Literal → Draft → Draft → ℕ → Type 0
PartWritten r g ls ms a b n = Appends (gather write_clause (under g ls)) (cond (not (is false g)) ms []) a b × (n ≡ length (under g ls)) × (some_clashes r (cond (not (is false g)) ms []) ≡ false)

pub one_part : (t : Task) (r : Round) (p : Part) (a b : Draft) (n : ℕ) → PartWritten r (simplify t r p.sheet p.condition) (on_facts r p.literals) p.literals a b n → PartsWritten t r (p ∷ []) a b n
one_part t r p a b n h =
    let q = append-nil (under (simplify t r p.sheet p.condition) (on_facts r p.literals)) in
    (appended_as (sym (ap (gather write_clause) q)) (sym (append-nil _)) h.0, h.1 ∙ sym (ap (λ (xs : List Clause). length xs) q), ap (some_clashes r) (append-nil _) ∙ h.2)

-- TRUE frees the literals
freed : (ls : List Literal) → under (known true) ls ≡ map plain ls
freed [] = refl
freed (l ∷ ls) = refl

plain_entries : (ls : List Literal) → gather write_clause (map plain ls) ≡ gather write_literal ls
plain_entries [] = refl
plain_entries (l ∷ ls) = ap (λ zs. write_literal l ++ zs) (plain_entries ls)

pub freed_part : (r : Round) (g : Ground) (ls : List Literal) (a b : Draft) (n : ℕ) → g ≡ known true → LiteralsWritten r ls a b n → PartWritten r g (on_facts r ls) ls a b n
freed_part r g ls a b n e h =
    let f = on_facts r ls in
    let q = freed f in
    subst (λ x. PartWritten r x f ls a b n) (sym e)
    (appended_as (sym (ap (gather write_clause) q ∙ plain_entries f)) refl h.0, h.1 ∙ sym (ap (λ (xs : List Clause). length xs) q ∙ length-map f plain), h.2)

-- Stopping, or not.

-- what explains a stop by a part explains it by the whole
pub explained : (x y : Option ℕ) (stop : Stop) → ((p : ℕ) → x ≡ some p → y ≡ some p) → Explains x stop → Explains y stop
explained x y NoMemory f h = tt
explained x y (Clash p) f h = f p h

-- where each thing of one sort stands, one of another sort stands that comes to the same
pub record Turned {X Y Z : Type 0} (S : X → ℕ → Type 0) (U : Y → ℕ → Type 0) (F : X → Z) (G : Y → Z) : Type 0 where
  pub one : (y : Y) (j : ℕ) → U y j → (x : X) × S x j × (G y ≡ F x)

-- so what is promised of these is promised of those
module _ {X Y Z : Type 0} {S : X → ℕ → Type 0} {U : Y → ℕ → Type 0} {F : X → Z} {G : Y → Z} (t : Turned S U F G) where
  pub wrote_as : (W : Z → ℕ → Type 0) (r : Result (ℕ × ℕ) Stop)
      → IfOk r (λ o. (x : X) (j : ℕ) → S x j → W (F x) o.0 × (o.1 ≡ j)) → IfOk r (λ o. (y : Y) (j : ℕ) → U y j → W (G y) o.0 × (o.1 ≡ j))
  wrote_as W r =
      IfOk-weaker r (λ o. (x : X) (j : ℕ) → S x j → W (F x) o.0 × (o.1 ≡ j)) (λ o. (y : Y) (j : ℕ) → U y j → W (G y) o.0 × (o.1 ≡ j))
      (λ o h y j u. let x = t.one y j u in let e = h x.0 j x.1 in (subst (λ z. W z o.0) (sym x.2) e.0, e.1))

  pub stopped_as : (K : Z → Option ℕ) (r : Result (ℕ × ℕ) Stop)
      → IfErr r (λ stop. (x : X) (j : ℕ) → S x j → Explains (K (F x)) stop) → IfErr r (λ stop. (y : Y) (j : ℕ) → U y j → Explains (K (G y)) stop)
  stopped_as K r =
      IfErr-weaker r (λ stop. (x : X) (j : ℕ) → S x j → Explains (K (F x)) stop) (λ stop. (y : Y) (j : ℕ) → U y j → Explains (K (G y)) stop)
      (λ stop h y j u. let x = t.one y j u in subst (λ z. Explains (K z) stop) (sym x.2) (h x.0 j x.1))
