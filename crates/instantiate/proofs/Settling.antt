-- What verdicts tell is what the second round settles.
use Rattle.std.proofs.Common.{◌≡◌, ℕ, Bool, cond, List, [], ◌∷◌, ◌++◌, map, refl, ap, ◌∙◌}
use Rattle.std.proofs.lemmas.List.{append_assoc}
use Rattle.table.specs.Reading.{Entry, entry}
use Rattle.model.specs.Lists.{below, keep}
use Rattle.model.specs.Meaning.{State, is_fact}
use Rattle.model.specs.Trees.{Task, atoms}
use Rattle.model.specs.Settling.{Verdict, always, unsettled, settle, is_unsettled, simplify, round_two, verdict_two}
use Rattle.model.specs.Books.{is_always_true, book}
use Rattle.book_theorems.specs.Writes.{write_start, write_ground}
use Rattle.book_of_task.proofs.Becoming.{what_atoms_become}
use Rattle.book_of_task.specs.Becoming.{SameBecoming}
use Rattle.runs.specs.Settled.{meaning, at, round_of}
use Rattle.runs.specs.declared.verdict.Verdict as code
use Rattle.instantiate.specs.Outcome.{preface_entries}
use Rattle.instantiate.specs.Verdicts.{starts_of, always_of}

keep_same : {A : Type 0} (p q : A → Bool) → ((x : A) → p x ≡ q x) → (xs : List A) → keep p xs ≡ keep q xs
keep_same p q e [] = refl
keep_same p q e (x ∷ xs) = ap (λ ys. cond (p x) (x ∷ ys) ys) (keep_same p q e xs) ∙ ap (λ (b : Bool). cond b (x ∷ keep q xs) (keep q xs)) (e x)

both_unsettled : (v w : Verdict) (i j : ℕ) → settle v i ≡ settle w j → is_unsettled v ≡ is_unsettled w
both_unsettled (always b) (always c) i j e = refl
both_unsettled (always b) unsettled i j e = cc
both_unsettled unsettled (always c) i j e = cc
both_unsettled unsettled unsettled i j e = refl

both_always_true : (v w : Verdict) (i j : ℕ) → settle v i ≡ settle w j → is_always_true v ≡ is_always_true w
both_always_true (always b) (always c) i j e = cc
both_always_true (always b) unsettled i j e = cc
both_always_true unsettled (always c) i j e = cc
both_always_true unsettled unsettled i j e = refl

-- the relevant atoms of the book
pub starts_are : (t : Task) (vs : List code.Verdict) (s : State) → SameBecoming (round_of vs) (round_two t) → s ≡ is_fact t → starts_of s vs (atoms t) ≡ (book t).relevant
starts_are t vs s same facts =
    ap (λ (f : State). starts_of f vs (atoms t)) facts
    ∙ ap (map (λ k. record { atom = k; starts = is_fact t k })) (keep_same (λ k. is_unsettled (meaning (at vs k))) (λ k. is_unsettled (verdict_two t k)) (λ k. both_unsettled _ _ _ _ (same k)) (below (atoms t)))

-- its atoms that are always true
pub always_are : (t : Task) (vs : List code.Verdict) → SameBecoming (round_of vs) (round_two t) → always_of vs (atoms t) ≡ (book t).always
always_are t vs same = keep_same (λ k. is_always_true (meaning (at vs k))) (λ k. is_always_true (verdict_two t k)) (λ k. both_always_true _ _ _ _ (same k)) (below (atoms t))

-- one part after another
three_parts : (a b c d x y z : List Entry) → b ≡ a ++ x → c ≡ b ++ y → d ≡ c ++ z → d ≡ a ++ (x ++ (y ++ z))
three_parts a b c d x y z p q r =
    r ∙ ap (λ es. es ++ z) (q ∙ ap (λ es. es ++ y) p)
    ∙ append_assoc (a ++ x) y z ∙ append_assoc a x (y ++ z)

-- both groups and the goal
pub preface_written : (t : Task) (vs : List code.Verdict) (s : State) (n : ℕ) (a b c d : List Entry) → SameBecoming (round_of vs) (round_two t) → s ≡ is_fact t → n ≡ atoms t
    → b ≡ a ++ map write_start (starts_of s vs n) → c ≡ b ++ map (entry 21) (always_of vs n) → d ≡ c ++ write_ground (simplify t (round_of vs) [] t.goal) → d ≡ a ++ preface_entries t
preface_written t vs s n a b c d same facts count p q r =
    let relevant = ap (λ m. starts_of s vs m) count ∙ starts_are t vs s same facts in
    let always = ap (λ m. always_of vs m) count ∙ always_are t vs same in
    let goal = (what_atoms_become t (round_of vs) (round_two t) same).formula [] t.goal in
    three_parts a b c d _ _ _
    (p ∙ ap (λ xs. a ++ map write_start xs) relevant)
    (q ∙ ap (λ xs. b ++ map (entry 21) xs) always)
    (r ∙ ap (λ g. c ++ write_ground g) goal)
