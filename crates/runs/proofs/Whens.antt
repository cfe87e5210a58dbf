-- Writing a WHEN, by what is left of its condition.
use Rattle.std.proofs.Common.{◌≡◌, ℕ, ◌<◌, Bool, true, false, cond, not, List, [], ◌∷◌, ◌++◌, map, length, get_or, take, set, Option, Some, None, sym, refl, ap, ◌∙◌, subst, arith}
use Rattle.std.proofs.lemmas.List.{append_assoc, append-nil, length-append, length-map, map-append, map-set, take-map}
use Rattle.std.proofs.Math.Seq.{take-append_seam, set-append_seam, get_or-append_seam}
use Rattle.std.proofs.Math.ListN.{get_or-map}
use Rattle.table.specs.declared.arrays.Head.{Head}
use Rattle.table.specs.declared.kind.Kind.TheVariants.{And, When}
use Rattle.table.specs.Kinds.{code_of}
use Rattle.table.specs.Entries.{coded}
use Rattle.table.specs.Reading.{Entry, entry}
use Rattle.model.specs.Lists.{gather}
use Rattle.model.specs.Meaning.{Literal}
use Rattle.model.specs.Trees.{Formula, Consequent}
use Rattle.model.specs.Settling.{Ground, known, fact, negated, group, Round, is}
use Rattle.model.specs.Books.{Clause, plain, when, under}
use Rattle.book_theorems.specs.Writes.{write_ground, write_literal, write_clause}
use Rattle.runs.specs.declared.draft.Draft.{Draft}
use Rattle.runs.specs.declared.draft.Stop.{Stop}
use Rattle.runs.specs.declared.settling.Settling.{Settling}
use Rattle.runs.specs.Shown.{bound}
use Rattle.runs.specs.Settled.{truth_of, body}
use Rattle.runs.specs.Left.{Left, FormulaOf, simplified_in}
use Rattle.book_of_task.specs.Clashes.{some_clashes}
use Rattle.book_of_task.specs.Places.{outcome_places}
use Rattle.runs.specs.Clauses.{Explains, Appends, LiteralsWritten, PartsWritten, consequent_clash, when_clash, task_in, round_in, literals_of, part_of}
use Rattle.runs.specs.Effects.{meant, ConsequentIn}
use Rattle.runs.proofs.Appending.{PartWritten, appended_as, explained}
use Rattle.runs.proofs.Clashing.{first_in_part}

-- What is left of a condition.

-- a told truth is that of TRUE or FALSE
pub told_known : (g : Ground) (b : Bool) → Some b ≡ truth_of g → g ≡ known b
told_known (known a) b e = ap known (let q : b ≡ a = cc in sym q)
told_known (fact j) b e = absurd (let q : ◌≡◌ {A = Option Bool} (Some b) None = e in cc)
told_known (negated g) b e = absurd (let q : ◌≡◌ {A = Option Bool} (Some b) None = e in cc)
told_known (group j gs) b e = absurd (let q : ◌≡◌ {A = Option Bool} (Some b) None = e in cc)

-- where none is told the formula is neither, and it is written as it is
pub untold_is : (g : Ground) (b : Bool) → None ≡ truth_of g → is b g ≡ false
untold_is (known a) b e = absurd (let q : ◌≡◌ {A = Option Bool} None (Some a) = e in cc)
untold_is (fact j) b e = refl
untold_is (negated g) b e = refl
untold_is (group j gs) b e = refl

pub untold_body : (g : Ground) → None ≡ truth_of g → body g ≡ write_ground g
untold_body (known a) e = absurd (let q : ◌≡◌ {A = Option Bool} None (Some a) = e in cc)
untold_body (fact j) e = refl
untold_body (negated g) e = refl
untold_body (group j gs) e = refl

-- Entries.

-- an entry, and what comes after it
pub headed : (h : Head) (es fs gs : List Head) (rest : List Entry) → fs ≡ es ++ (h ∷ []) → map coded gs ≡ map coded fs ++ rest → map coded gs ≡ map coded es ++ (coded h ∷ rest)
headed h es fs gs rest e q =
    q ∙ ap (λ zs. zs ++ rest) (ap (map coded) e ∙ map-append coded es (h ∷ [])) ∙ append_assoc (map coded es) (coded h ∷ []) rest

-- what was appended goes away
pub cut_back : (n : ℕ) (es fs gs : List Head) (rest : List Entry) → n ≡ length es → map coded fs ≡ map coded es ++ rest → gs ≡ take n fs → map coded gs ≡ map coded es
cut_back n es fs gs rest l e q =
    ap (map coded) q ∙ sym (take-map coded n fs) ∙ ap (take n) e ∙ ap (λ k. take k (map coded es ++ rest)) (l ∙ sym (length-map es coded))
    ∙ take-append_seam (map coded es) rest

-- AND tells how many parts it has
patched : (gs ks : List Head) (rest : List Entry) (i n : ℕ) (h : Head) → i ≡ length gs → map coded ks ≡ map coded gs ++ (entry 5 0 ∷ rest) → h ≡ get_or ks i h
    → map coded (set ks i (record { kind = h.kind; operand = n })) ≡ map coded gs ++ (entry 5 n ∷ rest)
patched gs ks rest i n h l e q =
    let xs = map coded gs in
    let x = entry 5 0 in
    let y = entry (code_of h.kind) n in
    let m : i ≡ length xs = l ∙ sym (length-map gs coded) in
    let k : code_of h.kind ≡ 5 =
    ap (λ (z : Head). code_of z.kind) q
    ∙ ap (λ (z : Entry). z.kind)
    (sym (get_or-map coded ks i h) ∙ ap (λ zs. get_or zs i (coded h)) e ∙ ap (λ o. get_or (xs ++ (x ∷ rest)) o (coded h)) m ∙ get_or-append_seam xs x rest (coded h)) in
    map-set coded ks i (record { kind = h.kind; operand = n }) ∙ ap (λ zs. set zs i y) e ∙ ap (λ o. set (xs ++ (x ∷ rest)) o y) m
    ∙ set-append_seam xs x rest y ∙ ap (λ o. xs ++ (entry o n ∷ rest)) k

-- WHEN was written after es, and its condition up to gs
module _ {g : Ground} {told : Option Bool} (es fs gs : List Head) (w : fs ≡ es ++ (record { kind = When; operand = 0 } ∷ [])) (l : Left g fs gs told) where
  begun : map coded gs ≡ map coded es ++ (entry 12 0 ∷ body g)
  begun = headed (record { kind = When; operand = 0 }) es fs gs (body g) w l.entries

  -- both go away
  pub condition_back : (n : ℕ) (ms : List Head) → n ≡ length es → ms ≡ take n gs → map coded ms ≡ map coded es
  condition_back n ms k q = cut_back n es gs ms (entry 12 0 ∷ body g) k begun q

  -- AND and other entries were written after them, up to ks
  module _ (hs ks : List Head) (rest : List Entry) (a : hs ≡ gs ++ (record { kind = And; operand = 0 } ∷ [])) (q : map coded ks ≡ map coded hs ++ rest) where
    grouped : map coded ks ≡ map coded gs ++ (entry 5 0 ∷ rest)
    grouped = headed (record { kind = And; operand = 0 }) gs hs ks rest a q

    pub group_inside : (i : ℕ) → i ≡ length gs → i < length ks
    group_inside i k =
        omega (arith, k, length-map ks coded, length-map gs coded, ap (λ (xs : List Entry). length xs) grouped, length-append (map coded gs) (entry 5 0 ∷ rest))

    -- all go away
    pub when_back : (n : ℕ) (ms : List Head) → n ≡ length es → ms ≡ take n ks → map coded ms ≡ map coded es
    when_back n ms k p =
        let all = (entry 12 0 ∷ body g) ++ (entry 5 0 ∷ rest) in
        cut_back n es ks ms all k (grouped ∙ ap (λ zs. zs ++ (entry 5 0 ∷ rest)) begun ∙ append_assoc (map coded es) (entry 12 0 ∷ body g) (entry 5 0 ∷ rest)) p

    -- all stay, and AND tells how many parts it has
    pub when_patched : (i n : ℕ) (h : Head) → i ≡ length gs → h ≡ get_or ks i h → None ≡ truth_of g
        → map coded (set ks i (record { kind = h.kind; operand = n })) ≡ map coded es ++ (entry 12 0 ∷ (write_ground g ++ (entry 5 n ∷ rest)))
    when_patched i n h k p t =
        patched gs ks rest i n h k grouped p ∙ ap (λ zs. zs ++ (entry 5 n ∷ rest)) begun ∙ append_assoc (map coded es) (entry 12 0 ∷ body g) (entry 5 n ∷ rest)
        ∙ ap (λ zs. map coded es ++ (entry 12 0 ∷ (zs ++ (entry 5 n ∷ rest)))) (untold_body g t)

-- What a WHEN comes to.

-- what is appended to what was written before is appended to what reads the same
pub appended_from : {es : List Entry} {ls : List Literal} {a b c : Draft} → map coded b.entries.items ≡ map coded a.entries.items → b.literals.items ≡ a.literals.items → Appends es ls b c → Appends es ls a c
appended_from {es} {ls} {a} {b} {c} p q h =
    record { entries = h.entries ∙ ap (λ zs. zs ++ es) p; literals = h.literals ∙ ap (λ zs. map meant zs ++ ls) q }

module _ (r : Round) (g : Ground) (fs ms : List Literal) (a b : Draft) where
  -- nothing, if its condition is FALSE
  pub when_dropped : g ≡ known false → map coded b.entries.items ≡ map coded a.entries.items → b.literals.items ≡ a.literals.items → PartWritten r g fs ms a b 0
  when_dropped e p q = subst (λ x. PartWritten r x fs ms a b 0) (sym e) (each fs)
    where
      none : Appends [] [] a b
      none = record { entries = p ∙ sym (append-nil _); literals = ap (map meant) q ∙ sym (append-nil _) }

      each : (xs : List Literal) → PartWritten r (known false) xs ms a b 0
      each [] = (none, refl, refl)
      each (x ∷ xs) = (none, refl, refl)

  module _ (f : is false g ≡ false) (clear : some_clashes r ms ≡ false) where
    noted : ms ≡ cond (not (is false g)) ms []
    noted = ap (λ (x : Bool). cond (not x) ms []) (sym f)

    none_noted : some_clashes r (cond (not (is false g)) ms []) ≡ false
    none_noted = ap (some_clashes r) (sym noted) ∙ clear

    -- nothing, if no literal is on a fact
    pub when_bare : ◌≡◌ {A = ℕ} 0 (length fs) → Appends [] ms a b → PartWritten r g fs ms a b 0
    when_bare e h = each fs e
      where
        each : (xs : List Literal) → ◌≡◌ {A = ℕ} 0 (length xs) → PartWritten r g xs ms a b 0
        each [] z = (appended_as refl noted h, refl, none_noted)
        each (x ∷ xs) z = absurd (omega arith)

    -- else its condition and its literals
    pub when_kept : (n : ℕ) → (n ≡ 0 → ⊥) → n ≡ length fs → is true g ≡ false → Appends (entry 12 0 ∷ (write_ground g ++ (entry 5 n ∷ gather write_literal fs))) ms a b → PartWritten r g fs ms a b 1
    when_kept n z e k h = each fs e h
      where
        each : (xs : List Literal) → n ≡ length xs → Appends (entry 12 0 ∷ (write_ground g ++ (entry 5 n ∷ gather write_literal xs))) ms a b → PartWritten r g xs ms a b 1
        each [] e h = absurd (z e)
        each (x ∷ xs) e h =
            let u : under g (x ∷ xs) ≡ when g (x ∷ xs) ∷ [] =
            ap (λ (b : Bool). cond b [] (cond (is true g) (map plain (x ∷ xs)) (when g (x ∷ xs) ∷ []))) f
            ∙ ap (λ (b : Bool). cond b (map plain (x ∷ xs)) (when g (x ∷ xs) ∷ [])) k in (
              appended_as (ap (λ m. entry 12 0 ∷ (write_ground g ++ (entry 5 m ∷ gather write_literal (x ∷ xs)))) e ∙ sym (append-nil _) ∙ ap (gather write_clause) (sym u)) noted h,
              sym (ap (λ (cs : List Clause). length cs) u),
              none_noted,
            )

-- Promises.

-- what writing a consequent promises, and what writing a WHEN does
abbrev pub LiteralsPromised : Settling → ℕ → Draft → Draft → ℕ × ℕ → Type 0
LiteralsPromised s i a b r = (d : Consequent) (j : ℕ) → ConsequentIn s.sheet i d j → LiteralsWritten (round_in s) (literals_of s d) a b r.0 × (r.1 ≡ j)

abbrev pub WhenPromised : Settling → ℕ → Draft → Draft → ℕ × ℕ → Type 0
WhenPromised s at a b r = (f : Formula) (d : Consequent) (i j : ℕ) → FormulaOf s at f i → ConsequentIn s.sheet i d j → PartsWritten (task_in s) (round_in s) (part_of s f d ∷ []) a b r.0 × (r.1 ≡ j)

-- and why they stop
abbrev pub LiteralsExplained : Settling → ℕ → Stop → Type 0
LiteralsExplained s i stop = (d : Consequent) (j : ℕ) → ConsequentIn s.sheet i d j → Explains (consequent_clash s i d) stop

abbrev pub WhenExplained : Settling → ℕ → Stop → Type 0
WhenExplained s at stop = (f : Formula) (d : Consequent) (i j : ℕ) → FormulaOf s at f i → ConsequentIn s.sheet i d j → Explains (when_clash s i f d) stop

pub when_explained : (s : Settling) (i : ℕ) (f : Formula) (d : Consequent) (stop : Stop) → is false (simplified_in s f) ≡ false → Explains (consequent_clash s i d) stop → Explains (when_clash s i f d) stop
when_explained s i f d stop e h =
    explained (consequent_clash s i d) (when_clash s i f d) stop
    (λ p. first_in_part (task_in s) (round_in s) p (bound s.sheet) f (literals_of s d) (outcome_places i d) e) h
