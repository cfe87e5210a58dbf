-- No action that is left in a round brings about a literal that the round's verdicts forbid.
use Rattle.std.proofs.Common.{◌≡◌, ℕ, Bool, true, false, not, ◌&&◌, eqb, List, sym, refl, ap, ◌∙◌}
use mathlib.Core.Bool.{beq, not-not}
use Rattle.std.proofs.lemmas.Bool.{eq-eqb, and_from, false_from_ne_true}
use Rattle.model.specs.Trees.{Task, Name}
use Rattle.model.specs.Forming.{WellFormed}
use Rattle.model.specs.Meaning.{Literal, fits, changes, is_fact}
use Rattle.model.specs.Settling.{Verdict, always, unsettled, Round, judged, names, reach, can_change_one, round_one, can_change_two, round_two}
use Rattle.model.proofs.Values.{clash}
use Rattle.model.proofs.Members.{any_in, any_out, fit_in}
use Rattle.model.proofs.Numbers.{beq_true, beq_refl}
use Rattle.model.proofs.Reaching.{can_change_known}
use Rattle.model.proofs.Refining.{effects_fit}
use Rattle.book_of_task.specs.Clashes.{is_always, clashes, some_clashes, NoLiteralClashes}

-- an atom that is always so has the verdict that says it
verdict_from : (b : Bool) (v : Verdict) → is_always b v ≡ true → v ≡ always b
verdict_from b (always c) e = ap always (sym (beq_true b c e))
verdict_from b unsettled e = clash e

-- what is always so cannot change, and is as the facts have it
judged_always : (fact can b : Bool) → judged fact can ≡ always b → (can ≡ false) × (fact ≡ b)
judged_always fact true b e = absurd cc
judged_always fact false b e = (refl, cc)

-- where no atom is changed against its verdict, no literal clashes
none_clashes : (r : Round) (ls : List Literal) → ((b : Bool) (k : ℕ) → changes b k ls ≡ true → r.verdict k ≡ always (not b) → ⊥) → some_clashes r ls ≡ false
none_clashes r ls fit = false_from_ne_true (some_clashes r ls) (λ e.
    let w = any_out (clashes r) ls e in
    let l = w.0 in
    let changed : changes l.adds l.atom ls ≡ true =
    any_in (λ x. beq l.adds x.adds && eqb l.atom x.atom) l ls w.1 (and_from _ _ (beq_refl l.adds) (eq-eqb l.atom l.atom refl)) in
    fit l.adds l.atom changed (verdict_from (not l.adds) (r.verdict l.atom) w.2))

module _ (t : Task) (formed : WellFormed t) (m : Name) (fit : fits t m ≡ true) where
  -- an atom that an action of round one changes against the facts can change in round two, so it can in round one
  fit_one : (b : Bool) (k : ℕ) → changes b k (reach t (round_one t) m) ≡ true → (round_one t).verdict k ≡ always (not b) → ⊥
  fit_one b k e v =
      let w = judged_always (is_fact t k) (can_change_one t k) (not b) v in
      let against : not (is_fact t k) ≡ b = ap not w.1 ∙ not-not b in
      let changed : changes (not (is_fact t k)) k (reach t (round_one t) m) ≡ true = ap (λ c. changes c k (reach t (round_one t) m)) against ∙ e in
      let can_two : can_change_two t k ≡ true = any_in (λ n. changes (not (is_fact t k)) k (reach t (round_one t) n)) m (names t) (fit_in t m fit) changed in
      clash (sym w.0 ∙ (can_change_known t formed k can_two).1)

-- round two is settled by the theorem that its effects fit its verdicts
pub no_literal_clashes : NoLiteralClashes
no_literal_clashes t formed m fit = record {
  one = none_clashes (round_one t) (reach t (round_one t) m) (fit_one t formed m fit);
  two = none_clashes (round_two t) (reach t (round_two t) m) (effects_fit t formed m fit);
}
