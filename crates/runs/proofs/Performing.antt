-- A goal and a step by the image that a call fills and by its puts are the goal and the step of the definitions.
use Rattle.std.proofs.Common.{◌≡◌, ℕ, zero, suc, ◌+◌, ◌<◌, Bool, true, cond, ltb, List, [], ◌∷◌, ◌++◌, length, get_or, Ok, sym, refl, ap, ◌∙◌, subst, ap₂, inl, inr, ⊎_elim, arith, length-append}
use Rattle.std.proofs.lemmas.Bool.{ltb-true, ltb-false, and_parts}
use Rattle.model.specs.Trees.{Formula, Effect, change, conjunction, for_each, when, Effects, no_effect, and, Operator, Task, Name, atoms, members}
use Rattle.model.specs.Forming.{Each, Within, KnownFormula, KnownEffect, KnownEffects, KnownOperator, WellFormed}
use Rattle.model.specs.Meaning.{State, bind, value, nothing, operator_of, fits, Literal, Part, parts, all_parts, literals_where, changed, precondition_of, effect_of}
use Rattle.model.specs.Lists.{In}
use Rattle.model.proofs.Members.{in_append, gather_out, member_below, suits_typed}
use Rattle.model.proofs.Numbers.{typed_within, within_bind}
use Rattle.model.proofs.Reaching.{literals_part, effect_of_known}
use Rattle.model.proofs.Within.{values_rest}
use Rattle.store.specs.Sets.{pictured}
use Rattle.protocol.specs.Shown.{shown}
use Rattle.protocol.specs.Machines.{Performed, refused}
use Rattle.protocol.specs.TaskCalls.{task_goal, task_perform}
use Rattle.runs.specs.Runs.{goal_by_image, perform_by_puts}
use Rattle.protocol.proofs.Images.{image_shows}
use Rattle.protocol.proofs.Puts.{put_step_is}
use Rattle.protocol.proofs.Tests.{if_passed, unless_passed}

-- Literals.

-- the literals are the same where two tests agree on the condition of each part
literals_alike : (p q : List ℕ → Formula → Bool) (ps : List Part) → ((x : Part) → In x ps → p x.sheet x.condition ≡ q x.sheet x.condition) → literals_where p ps ≡ literals_where q ps
literals_alike p q [] h = refl
literals_alike p q (x ∷ ps) h =
    ap₂ (λ (b : Bool) (ls : List Literal). cond b x.literals [] ++ ls) (h x (inl refl)) (literals_alike p q ps (λ y i. h y (inr i)))

-- states that agree on the atoms of the task judge the conditions of an effect alike
module _ (t : Task) (s s' : State) (alike : (k : ℕ) → k < atoms t → s k ≡ s' k) where
  -- the condition of a part has the same value in both
  abbrev Alike : Part → Type 0
  Alike p = value t s p.sheet p.condition ≡ value t s' p.sheet p.condition

  -- by the effect that the part is of
  mutual
    conditions_alike : (v : ℕ) (sheet : List ℕ) → Within t.objects sheet → length sheet ≡ v → (p : Part) (e : Effect) → KnownEffect t v e → In p (parts t sheet e) → Alike p
    conditions_alike v sheet w l p (change c) k (inl e) = subst Alike (sym e) refl
    conditions_alike v sheet w l p (change c) k (inr z) = absurd z
    conditions_alike v sheet w l p (conjunction es) k i = all_conditions_alike v sheet w l p es k i
    conditions_alike v sheet w l p (for_each ty e) k i =
        let g = gather_out (λ o. parts t (bind sheet o) e) p (members t ty) i in
        let o = g.0 in
        conditions_alike (v + 1) (bind sheet o) (within_bind t.objects sheet o w (member_below t ty o g.1)) (length-append sheet (o ∷ []) ∙ ap (λ x. x + 1) l) p e k.1 g.2
    conditions_alike v sheet w l p (when f c) k (inl e) =
        subst Alike (sym e) (values_rest t s s' alike sheet w f (subst (λ x. KnownFormula t x f) (sym l) k.0))
    conditions_alike v sheet w l p (when f c) k (inr z) = absurd z

    all_conditions_alike : (v : ℕ) (sheet : List ℕ) → Within t.objects sheet → length sheet ≡ v → (p : Part) (es : Effects) → KnownEffects t v es → In p (all_parts t sheet es) → Alike p
    all_conditions_alike v sheet w l p no_effect k i = absurd i
    all_conditions_alike v sheet w l p (and e es) k i = ⊎_elim
        (λ a. conditions_alike v sheet w l p e k.0 a)
        (λ a. all_conditions_alike v sheet w l p es k.1 a)
        (in_append p (parts t sheet e) (all_parts t sheet es) i)

-- Names that fit.

-- the operator with a number that one has is known
operator_known : (t : Task) (ops : List Operator) (i : ℕ) → Each (KnownOperator t) ops → i < length ops → KnownOperator t (get_or ops i nothing)
operator_known t [] i k h = let z : ⊥ = omega arith in absurd z
operator_known t (a ∷ rest) zero k h = k.0
operator_known t (a ∷ rest) (suc i) k h = operator_known t rest i k.1 (omega arith)

-- what is known of a name that fits: its operator, and that its objects are as many as the parameters, and objects of the task
record Fitting (t : Task) (m : Name) : Type 0 where
  known : KnownOperator t (operator_of t m.operator)
  within : Within t.objects m.objects
  long : length m.objects ≡ length (operator_of t m.operator).parameters

fitting : (t : Task) → WellFormed t → (m : Name) → fits t m ≡ true → Fitting t m
fitting t formed m fit =
    let w = and_parts _ _ fit in
    let x = typed_within t _ m.objects (suits_typed t m.operator m.objects w.1) in
    record { known = operator_known t t.operators m.operator formed.operators (ltb-true _ _ w.0); within = x.0; long = x.1 }

-- The calls.

-- the goal that is judged in the image is the goal in the state
pub judges_the_goal : (t : Task) → WellFormed t → (size : ℕ) (s : State) (im : List ℕ) → goal_by_image t size s im ≡ task_goal t size s im
judges_the_goal t formed size s im =
    let n = atoms t in
    let seen = shown (pictured n s im) in
    let e : value t seen [] t.goal ≡ value t s [] t.goal = values_rest t seen s (image_shows n s im) [] tt t.goal formed.goal in
    ap (λ (b : Bool). cond (ltb size n) (record { image = im; answer = refused 21 n }) (cond (ltb (length im) n) (record { image = im; answer = refused 22 n }) (record { image = pictured n s im; answer = Ok b }))) e

-- the step that is judged in the image and put into the store is the step of the task
takes_the_step : (t : Task) → WellFormed t → (size n : ℕ) (s : State) (im : List ℕ) (m : Name) → perform_by_puts t size n s im m ≡ task_perform t size n s im m
takes_the_step t formed size n s im m =
    if_passed (ltb n 65535) _ _ _ λ _. unless_passed (ltb size (atoms t)) _ _ _ λ room. unless_passed (ltb (length im) (atoms t)) _ _ _ λ _. if_passed (fits t m) _ _ _ λ fit.
    let seen : State = shown (pictured (atoms t) s im) in
    let f = fitting t formed m fit in
    let ls = literals_where (value t seen) (effect_of t m) in
    let judged : value t seen m.objects (precondition_of t m) ≡ value t s m.objects (precondition_of t m) =
    values_rest t seen s (image_shows (atoms t) s im) m.objects f.within (precondition_of t m) (subst (λ x. KnownFormula t x (precondition_of t m)) (sym f.long) f.known.precondition) in
    let same : ls ≡ literals_where (value t s) (effect_of t m) =
    literals_alike (value t seen) (value t s) (effect_of t m)
    (λ p i. conditions_alike t seen s (image_shows (atoms t) s im) _ m.objects f.within f.long p (operator_of t m.operator).effect f.known.effect i) in
    let below : (l : Literal) → In l ls → l.atom < size = λ l i.
    let p = literals_part (value t seen) l (effect_of t m) i in
    let k = (effect_of_known t formed m p.0 l fit p.1 p.2).0 in
    let r = ltb-false size (atoms t) room in
    omega arith in
    ap₂ (λ (b : Bool) (z : State). cond b
    (record { steps = n + 1; set = z; image = pictured (atoms t) s im; answer = Ok tt })
    (record { steps = n; set = s; image = pictured (atoms t) s im; answer = refused 24 n }))
    judged (put_step_is size ls s below ∙ ap (λ (z : List Literal). changed z s) same)

-- so what is that step is the step of the task
pub is_the_step : (t : Task) → WellFormed t → (size n : ℕ) (s : State) (im : List ℕ) (m : Name) {x : Performed} → x ≡ perform_by_puts t size n s im m → x ≡ task_perform t size n s im m
is_the_step t formed size n s im m e = e ∙ takes_the_step t formed size n s im m
