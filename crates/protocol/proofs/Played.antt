-- A list of calls, played one call at a time.
use Rattle.std.proofs.Common.{◌≡◌, ℕ, suc, ◌+◌, ◌<◌, ◌≤◌, List, [], ◌∷◌, ◌++◌, length, get_or, take, drop, set, Option, sym, refl, ap, ◌∙◌, arith}
use Rattle.std.proofs.lemmas.List.{append_assoc, length-map, length-take-le, set_at, take_more, drop_more, take_all, take_at, drop_at}
use Rattle.model.specs.Meaning.{State}
use Rattle.protocol.specs.Machines.{Machine, Turn, turn_from, turn, turns, after, answers, Played}
use Rattle.protocol.specs.declared.calls.Answer.{Answer}
use Rattle.protocol.specs.declared.calls.Answer.TheVariants.{NoRun}
use Rattle.protocol.specs.declared.calls.Call.{Call}
use Rattle.protocol.specs.declared.calls.Call.TheVariants.{Begin}

-- writing the place where the rest of a list begins
written : (xs ys : List Answer) (i : ℕ) (y : Answer) → length xs ≡ i → i < length ys → set (xs ++ drop i ys) i y ≡ (xs ++ (y ∷ [])) ++ drop (i + 1) ys
written xs ys i y e h =
    ap (λ zs. set (xs ++ zs) i y) (drop_more ys i NoRun h)
    ∙ set_at xs (get_or ys i NoRun) (drop (i + 1) ys) y i e
    ∙ sym (append_assoc xs (y ∷ []) (drop (i + 1) ys))

module _ (m : Machine) where
  -- one more call
  after_more : (u : Turn) (cs : List Call) (c : Call) → after m u (cs ++ (c ∷ [])) ≡ turn m (after m u cs) c
  after_more u [] c = refl
  after_more u (x ∷ cs) c = after_more (turn m u x) cs c

  -- and its answer
  answers_more : (u : Turn) (cs : List Call) (c : Call) → answers m u (cs ++ (c ∷ [])) ≡ answers m u cs ++ ((turn m (after m u cs) c).answer ∷ [])
  answers_more u [] c = refl
  answers_more u (x ∷ cs) c = ap (λ zs. (turn m u x).answer ∷ zs) (answers_more (turn m u x) cs c)

  -- there are as many turns as calls
  turns_length : (u : Turn) (cs : List Call) → length (turns m u cs) ≡ length cs
  turns_length u [] = refl
  turns_length u (x ∷ cs) = ap suc (turns_length (turn m u x) cs)

  -- and as many answers
  answers_length : (u : Turn) (cs : List Call) → length (answers m u cs) ≡ length cs
  answers_length u cs = length-map (turns m u cs) (λ (v : Turn). v.answer) ∙ turns_length u cs

-- the first i calls are played: the run, the set and the image are what they have come to, and their answers stand at the first i
-- places of what the answers' array held
pub record PlayedSoFar (m : Machine) (first : Turn) (cs : List Call) (held : List Answer) (i : ℕ) (run : Option ℕ) (set : State) (image : List ℕ) (out : List Answer) : Type 0 where
  pub steps : run ≡ (after m first (take i cs)).steps
  pub set_is : set ≡ (after m first (take i cs)).set
  pub image_is : image ≡ (after m first (take i cs)).image
  pub answered : out ≡ answers m first (take i cs) ++ drop i held

module _ (m : Machine) (first : Turn) (cs : List Call) (held : List Answer) where
  -- none is played
  pub played_none : PlayedSoFar m first cs held 0 first.steps first.set first.image held
  played_none = record { steps = refl; set_is = refl; image_is = refl; answered = refl }

  -- one more is played
  pub played_more : (i : ℕ) (run : Option ℕ) (s : State) (im : List ℕ) (out : List Answer) (v : Turn) → i < length cs → length cs ≤ length held
      → PlayedSoFar m first cs held i run s im out → v ≡ turn_from m run s im (get_or cs i Begin)
      → PlayedSoFar m first cs held (i + 1) v.steps v.set v.image (set out i v.answer)
  played_more i run s im out v h room p e =
      let c = get_or cs i Begin in
      let u = after m first (take i cs) in
      let one : take (i + 1) cs ≡ take i cs ++ (c ∷ []) = take_more cs i Begin h in
      let came : v ≡ turn m u c =
      e ∙ ap (λ (o : Option ℕ). turn_from m o s im c) p.steps
      ∙ ap (λ (z : State). turn_from m u.steps z im c) p.set_is
      ∙ ap (λ (z : List ℕ). turn_from m u.steps u.set z c) p.image_is in
      let w : v ≡ after m first (take (i + 1) cs) =
      came ∙ sym (ap (λ (xs : List Call). after m first xs) one ∙ after_more m first (take i cs) c) in
      let says : answers m first (take i cs) ++ (v.answer ∷ []) ≡ answers m first (take (i + 1) cs) =
      ap (λ (z : Turn). answers m first (take i cs) ++ (z.answer ∷ [])) came
      ∙ sym (ap (λ (xs : List Call). answers m first xs) one ∙ answers_more m first (take i cs) c) in
      let long : length (answers m first (take i cs)) ≡ i =
      answers_length m first (take i cs) ∙ length-take-le i cs (omega arith) in
      record {
        steps = ap (λ (z : Turn). z.steps) w;
        set_is = ap (λ (z : Turn). z.set) w;
        image_is = ap (λ (z : Turn). z.image) w;
        answered =
            ap (λ (zs : List Answer). set zs i v.answer) p.answered
            ∙ written (answers m first (take i cs)) held i v.answer long (omega arith)
            ∙ ap (λ (zs : List Answer). zs ++ drop (i + 1) held) says;
      }

  -- the last is played
  pub played_all : (i : ℕ) (run : Option ℕ) (s : State) (im : List ℕ) (out : List Answer) → length cs ≤ i → i ≤ length cs → PlayedSoFar m first cs held i run s im out
      → Played m first cs held s im out
  played_all i run s im out h l p =
      let n : i ≡ length cs = omega arith in
      let whole : take i cs ≡ cs = take_all i cs h in
      let long : length (answers m first cs) ≡ length cs = answers_length m first cs in
      let o : out ≡ answers m first cs ++ drop (length cs) held =
      p.answered ∙ ap (λ (xs : List Call). answers m first xs ++ drop i held) whole
      ∙ ap (λ (k : ℕ). answers m first cs ++ drop k held) n in
      record {
        set_is = p.set_is ∙ ap (λ (xs : List Call). (after m first xs).set) whole;
        image_is = p.image_is ∙ ap (λ (xs : List Call). (after m first xs).image) whole;
        answered = ap (λ (zs : List Answer). take (length cs) zs) o ∙ take_at (answers m first cs) (drop (length cs) held) (length cs) long;
        rest = ap (λ (zs : List Answer). drop (length cs) zs) o ∙ drop_at (answers m first cs) (drop (length cs) held) (length cs) long;
      }
