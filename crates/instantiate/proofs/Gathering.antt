-- The literals of an operator's actions, one after the other, and those of all operators.
use Rattle.std.proofs.Common.{◌≡◌, ℕ, zero, suc, ◌+◌, ◌<◌, ◌≤◌, ◌⊎◌, List, [], ◌++◌, map, length, get_or, drop, sym, ap, ap₂, ◌∙◌, subst, inl, inr, ⊎_elim, arith}
use Rattle.std.proofs.lemmas.Bool.{cases_eq}
use Rattle.std.proofs.lemmas.List.{append-nil, append_assoc}
use Rattle.table.specs.Reading.{Entry}
use Rattle.rising.specs.declared.literal.Literal as code
use Rattle.fault.specs.declared.Fault.{Fault}
use Rattle.model.specs.Lists.{below, gather}
use Rattle.model.specs.Trees.{Task, Name}
use Rattle.model.specs.Meaning.{Literal}
use Rattle.model.specs.Settling.{Round, choices, named, reach, round_one}
use Rattle.book_of_task.specs.Becoming.{SameBecoming}
use Rattle.book_of_task.proofs.Becoming.{what_atoms_become}
use Rattle.runs.specs.Chosen.{chosen}
use Rattle.runs.specs.Clauses.{Appends}
use Rattle.runs.specs.Effects.{meant}
use Rattle.runs.specs.declared.draft.Draft.{Draft}
use Rattle.runs.proofs.Walks.{gather_gather}
use Rattle.instantiate.specs.Listing.{different}
use Rattle.instantiate.specs.Outcome.{names_of, literals_of, literals_one}
use Rattle.instantiate.specs.Refusals.{no_memory, TooShort}
use Rattle.instantiate.proofs.Different.{different_grows}
use Rattle.instantiate.proofs.Naming.{front, gather_all, gather_next, gather_below}

-- the draft holds the literals of an action
pub drafted : (t : Task) (r : Round) → SameBecoming r (round_one t) → (m : Name) (before after : Draft) (es : List Entry) → Appends es (reach t r m) before after → before.literals.items ≡ [] →
    (ks : List code.Literal) → ks ≡ after.literals.items → map meant ks ≡ reach t (round_one t) m
drafted t r same m before after es wrote empty ks ks_are =
    ap (map meant) ks_are ∙ wrote.literals ∙ ap (λ z. map meant z ++ reach t r m) empty ∙ (what_atoms_become t r (round_one t) same).reach m

-- the literals of one name more
pub one_name_more : (t : Task) (o n : ℕ) (xs : List (List ℕ)) (i : ℕ) (d : List ℕ) → i < length xs → (u : Task) (m : Name) → u ≡ t → m ≡ named o (chosen n (get_or xs i d)) → (ls : List Literal) →
    (ls ++ gather (reach t (round_one t)) (front o n i xs)) ++ reach u (round_one u) m ≡ ls ++ gather (reach t (round_one t)) (front o n (i + 1) xs)
one_name_more t o n xs i d h u m task name ls =
    let F = reach t (round_one t) in
    append_assoc ls (gather F (front o n i xs)) (reach u (round_one u) m)
    ∙ ap (λ z. ls ++ z) (ap₂ (λ (z : Task) (k : Name). gather F (front o n i xs) ++ reach z (round_one z) k) task name ∙ sym (gather_next F o n i xs d h))

pub literals_by_operator : (t : Task) → literals_one t ≡ gather (literals_of t) (below (length t.operators))
literals_by_operator t = gather_gather (reach t (round_one t)) (names_of t) (below (length t.operators))

-- Refusals.

-- a list that is too short for some literals is too short for more, which begin with them
too_short : (room : ℕ) (f : Fault) (ls more all : List Literal) → ls ++ more ≡ all → (f ≡ no_memory) ⊎ TooShort room ls f → (f ≡ no_memory) ⊎ TooShort room all f
too_short room f ls more all e (inl x) = inl x
too_short room f ls more all e (inr x) =
    let g = different_grows ls more in
    let a = ap different e in
    inr (x.0, omega (arith, x.1))

-- it is passed on
passed_on : (room room' : ℕ) (f g : Fault) (ls : List Literal) → room ≡ room' → g ≡ f → (f ≡ no_memory) ⊎ TooShort room ls f → (g ≡ no_memory) ⊎ TooShort room' ls g
passed_on room room' f g ls same e x =
    subst (λ y. (y ≡ no_memory) ⊎ TooShort room' ls y) (sym e) (subst (λ z. (f ≡ no_memory) ⊎ TooShort z ls f) same x)

-- a refusal of one action's literals is one of its operator's
pub refused_by_operator : (t : Task) (o n : ℕ) (xs : List (List ℕ)) → map (chosen n) xs ≡ choices t o → (i : ℕ) (ls now : List Literal) →
    now ≡ ls ++ gather (reach t (round_one t)) (front o n (i + 1) xs) → (room room' : ℕ) (f g : Fault) → room ≡ room' → g ≡ f →
    (f ≡ no_memory) ⊎ TooShort room now f → (g ≡ no_memory) ⊎ TooShort room' (ls ++ literals_of t o) g
refused_by_operator t o n xs lists i ls now here room room' f g same e x =
    let F = reach t (round_one t) in
    let rest = gather F (map (λ os. named o (chosen n os)) (drop (i + 1) xs)) in
    passed_on room room' f g (ls ++ literals_of t o) same e
    (too_short room f now rest (ls ++ literals_of t o)
    (ap (λ z. z ++ rest) here ∙ append_assoc ls (gather F (front o n (i + 1) xs)) rest ∙ ap (λ z. ls ++ z) (sym (gather_all t o n xs lists F (i + 1)))) x)

-- what is gathered of the numbers below n begins with what is gathered of those below k
gather_rest : (F : ℕ → List Literal) (k n : ℕ) → k ≤ n → (rest : List Literal) × (gather F (below k) ++ rest ≡ gather F (below n))
gather_rest F k zero h = let e : k ≡ zero = omega arith in ([], append-nil (gather F (below k)) ∙ ap (λ z. gather F (below z)) e)
gather_rest F k (suc n) h = ⊎_elim
    (λ e. ([], append-nil (gather F (below k)) ∙ ap (λ z. gather F (below z)) e))
    (λ ne.
    let w = gather_rest F k n (omega arith) in
    let one : n + 1 ≡ suc n = omega arith in
    (w.0 ++ F n, sym (append_assoc (gather F (below k)) w.0 (F n)) ∙ ap (λ z. z ++ F n) w.1 ∙ sym (gather_below F n) ∙ ap (λ z. gather F (below z)) one))
    (cases_eq k (suc n))

-- a refusal of one operator's literals is one of all
pub refused_by_all : (t : Task) (k : ℕ) → k < length t.operators → (room room' : ℕ) (f g : Fault) → room ≡ room' → g ≡ f →
    (f ≡ no_memory) ⊎ TooShort room (gather (literals_of t) (below k) ++ literals_of t k) f → (g ≡ no_memory) ⊎ TooShort room' (literals_one t) g
refused_by_all t k h room room' f g same e x =
    let L = literals_of t in
    let w = gather_rest L (k + 1) (length t.operators) (omega arith) in
    passed_on room room' f g (literals_one t) same e
    (too_short room f (gather L (below k) ++ L k) w.0 (literals_one t) (ap (λ z. z ++ w.0) (sym (gather_below L k)) ∙ w.1 ∙ sym (literals_by_operator t)) x)
