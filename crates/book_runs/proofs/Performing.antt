-- A goal and a step by the image that a call fills and by its puts are the goal and the step of the definitions.
use Rattle.std.proofs.Common.{◌≡◌, ℕ, ◌+◌, ◌<◌, ◌≤◌, Bool, true, false, cond, not, ltb, List, [], ◌∷◌, ◌++◌, length, Ok, sym, refl, ap, ◌∙◌, subst, ap₂, inl, inr, ⊎_elim, arith}
use mathlib.Core.Option.{some}
use Rattle.std.proofs.lemmas.Bool.{ltb-false}
use Rattle.model.specs.Trees.{Junction, Name}
use Rattle.model.specs.Forming.{Each}
use Rattle.model.specs.Lists.{In}
use Rattle.model.specs.Meaning.{State, Literal, join, changed}
use Rattle.model.specs.Settling.{Ground, known, fact, negated, group, Grounds, nil, cons, ground_value, ground_values}
use Rattle.model.specs.Books.{Clause, plain, when, Action, Book, clause_literals, action_literals, same_name, find}
use Rattle.model.specs.Opening.{KnownGround, KnownGrounds, KnownClause, KnownAction, WellFormedBook}
use Rattle.model.proofs.Members.{in_append, each_in}
use Rattle.store.specs.Sets.{pictured}
use Rattle.protocol.specs.Shown.{shown}
use Rattle.protocol.specs.Machines.{refused}
use Rattle.protocol.proofs.Images.{image_shows}
use Rattle.protocol.proofs.Puts.{put_step_is}
use Rattle.protocol.proofs.Tests.{if_passed, unless_passed}
use Rattle.protocol.specs.BookCalls.{facts, book_goal, book_act, book_perform}
use Rattle.book_runs.specs.Runs.{goal_by_image, act_by_puts, perform_by_puts}

-- states that agree on the first r facts judge formulas on those facts alike
module _ (r : ℕ) (s s' : State) (alike : (k : ℕ) → k < r → s k ≡ s' k) where
  mutual
    value_rests : (g : Ground) → KnownGround r g → ground_value s g ≡ ground_value s' g
    value_rests (known b) k = refl
    value_rests (fact j) k = alike j k
    value_rests (negated g) k = ap not (value_rests g k)
    value_rests (group j gs) k = values_rest j gs k

    values_rest : (j : Junction) (gs : Grounds) → KnownGrounds r gs → ground_values s j gs ≡ ground_values s' j gs
    values_rest j nil k = refl
    values_rest j (cons g gs) k = ap₂ (join j) (value_rests g k.0) (values_rest j gs k.1)

  -- and the conditions of an effect
  literals_rest : (cs : List Clause) → Each (KnownClause r) cs → action_literals s cs ≡ action_literals s' cs
  literals_rest [] k = refl
  literals_rest (plain l ∷ cs) k = ap (λ (ls : List Literal). l ∷ ls) (literals_rest cs k.1)
  literals_rest (when g ms ∷ cs) k = ap₂ (λ (b : Bool) (ls : List Literal). cond b ms [] ++ ls) (value_rests g k.0.0) (literals_rest cs k.1)

-- the literals of an effect are on known facts
module _ (r : ℕ) (s : State) where
  clause_known : (c : Clause) → KnownClause r c → (l : Literal) → In l (clause_literals s c) → l.atom < r
  clause_known (plain m) k l (inl e) = subst (λ (x : Literal). x.atom < r) (sym e) k
  clause_known (plain m) k l (inr z) = absurd z
  clause_known (when g ls) k l i = judged (ground_value s g) i
    where
      judged : (b : Bool) → In l (cond b ls []) → l.atom < r
      judged true i = each_in (λ (x : Literal). x.atom < r) l ls k.1 i
      judged false i = absurd i

  literals_known : (cs : List Clause) → Each (KnownClause r) cs → (l : Literal) → In l (action_literals s cs) → l.atom < r
  literals_known [] k l i = absurd i
  literals_known (c ∷ cs) k l i = ⊎_elim (λ a. clause_known c k.0 l a) (λ a. literals_known cs k.1 l a) (in_append l (clause_literals s c) (action_literals s cs) i)

-- the goal that is judged in the image is the goal in the state
pub judges_the_goal : (m o : ℕ) (b : Book) → WellFormedBook m o b → (size : ℕ) (s : State) (im : List ℕ) → goal_by_image b size s im ≡ book_goal b size s im
judges_the_goal m o b formed size s im =
    let n = facts b in
    let e : ground_value (shown (pictured n s im)) b.goal ≡ ground_value s b.goal = value_rests n (shown (pictured n s im)) s (image_shows n s im) b.goal formed.goal in
    ap (λ (v : Bool). cond (ltb size n) (record { image = im; answer = refused 21 n }) (cond (ltb (length im) n) (record { image = im; answer = refused 22 n }) (record { image = pictured n s im; answer = Ok v }))) e

-- a step that is judged in the image and put into the store is the step of the action
module _ (r m o size n : ℕ) (s : State) (seen : List ℕ) (room : r ≤ size) (alike : (k : ℕ) → k < r → shown seen k ≡ s k) where
  steps_alike : (a : Action) → KnownAction r m o a → act_by_puts size n s seen (some a) ≡ book_act n s seen (some a)
  steps_alike a k =
      let ls = action_literals (shown seen) a.effect in
      let below : (l : Literal) → In l ls → l.atom < size = λ l i. omega (arith, literals_known r (shown seen) a.effect k.effect l i) in
      ap₂ (λ (b : Bool) (z : State). cond b (record { steps = n + 1; set = z; image = seen; answer = Ok tt }) (record { steps = n; set = s; image = seen; answer = refused 24 n }))
      (value_rests r (shown seen) s alike a.precondition k.precondition)
      (put_step_is size ls s below ∙ ap (λ (z : List Literal). changed z s) (literals_rest r (shown seen) s alike a.effect k.effect))

  found_alike : (x : Name) (acts : List Action) → Each (KnownAction r m o) acts → act_by_puts size n s seen (find x acts) ≡ book_act n s seen (find x acts)
  found_alike x [] k = refl
  found_alike x (a ∷ acts) k = by (same_name x a.name) (found_alike x acts k.1)
    where
      by : (b : Bool) → act_by_puts size n s seen (find x acts) ≡ book_act n s seen (find x acts) → act_by_puts size n s seen (cond b (some a) (find x acts)) ≡ book_act n s seen (cond b (some a) (find x acts))
      by true h = steps_alike a k.0
      by false h = h

-- the step that is judged in the image and put into the store is the step of the book
pub takes_the_step : (m o : ℕ) (b : Book) → WellFormedBook m o b → (size n : ℕ) (s : State) (im : List ℕ) (x : Name) → perform_by_puts b size n s im x ≡ book_perform b size n s im x
takes_the_step m o b formed size n s im x =
    if_passed (ltb n 65535) _ _ _ λ _. unless_passed (ltb size (facts b)) _ _ _ λ room. unless_passed (ltb (length im) (facts b)) _ _ _ λ _.
    found_alike (facts b) m o size n s (pictured (facts b) s im) (ltb-false size (facts b) room) (image_shows (facts b) s im) x b.actions formed.actions
