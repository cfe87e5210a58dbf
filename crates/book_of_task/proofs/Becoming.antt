-- What is simplified rests on what the atoms become.
use Rattle.std.proofs.Common.{◌≡◌, ℕ, Bool, false, cond, not, List, [], ◌∷◌, refl, ap, ap₂, ◌∙◌}
use Rattle.model.specs.Lists.{gather}
use Rattle.model.specs.Trees.{any, Formula, constant, atom, equal, negation, junction, implication, quantifier, Formulas, none, more, Task, Name, members}
use Rattle.model.specs.Meaning.{atom_of, bind, Literal, literals_where, precondition_of, effect_of}
use Rattle.model.specs.Settling.{Verdict, always, unsettled, nil, cons, Round, settle, is, opposite, combine, instances, simplify, simplify_all, reach, is_unsettled}
use Rattle.model.specs.Books.{on_facts, under, action}
use Rattle.book_of_task.specs.Becoming.{SameBecoming, SimplifyingRestsOnWhatAtomsBecome}

-- a literal is kept on its fact if its atom is unsettled, and dropped otherwise; either can be read from what the atom becomes
kept_alike : (b : Bool) (v w : Verdict) (i j : ℕ) (ls : List Literal) → settle v i ≡ settle w j
    → cond (is_unsettled v) (record { adds = b; atom = i } ∷ ls) ls ≡ cond (is_unsettled w) (record { adds = b; atom = j } ∷ ls) ls
kept_alike b (always c) (always d) i j ls e = refl
kept_alike b (always c) unsettled i j ls e = cc
kept_alike b unsettled (always d) i j ls e = cc
kept_alike b unsettled unsettled i j ls e = let same_fact : i ≡ j = cc in ap (λ k. record { adds = b; atom = k } ∷ ls) same_fact

module _ (t : Task) (r r' : Round) (same : SameBecoming r r') where
  -- formulas, by induction
  mutual
    formula_alike : (sheet : List ℕ) (g : Formula) → simplify t r sheet g ≡ simplify t r' sheet g
    formula_alike sheet (constant b) = refl
    formula_alike sheet (atom p ts) = same (atom_of t sheet p ts)
    formula_alike sheet (equal a b) = refl
    formula_alike sheet (negation g) = ap opposite (formula_alike sheet g)
    formula_alike sheet (junction j gs) = ap (combine j) (formulas_alike sheet gs)
    formula_alike sheet (implication g h) = ap₂ (λ a b. combine any (cons (opposite a) (cons b nil))) (formula_alike sheet g) (formula_alike sheet h)
    formula_alike sheet (quantifier j ty g) = λ i. combine j (instances (λ o. formula_alike (bind sheet o) g i) (members t ty))

    formulas_alike : (sheet : List ℕ) (gs : Formulas) → simplify_all t r sheet gs ≡ simplify_all t r' sheet gs
    formulas_alike sheet none = refl
    formulas_alike sheet (more g gs) = ap₂ cons (formula_alike sheet g) (formulas_alike sheet gs)

  -- literals, one after the other
  literals_alike : (ls : List Literal) → on_facts r ls ≡ on_facts r' ls
  literals_alike [] = refl
  literals_alike (l ∷ ls) =
      ap (λ rest. cond (is_unsettled (r.verdict l.atom)) (record { adds = l.adds; atom = r.fact_of l.atom } ∷ rest) rest) (literals_alike ls)
      ∙ kept_alike l.adds (r.verdict l.atom) (r'.verdict l.atom) (r.fact_of l.atom) (r'.fact_of l.atom) (on_facts r' ls) (same l.atom)

  -- simplifying is one function in both rounds, and so is putting literals on facts
  simplify_same : simplify t r ≡ simplify t r'
  simplify_same = λ i sheet g. formula_alike sheet g i

  on_facts_same : on_facts r ≡ on_facts r'
  on_facts_same = λ i ls. literals_alike ls i

  -- an action is made by these two
  action_alike : (m : Name) → action t r m ≡ action t r' m
  action_alike m = ap₂ (λ s f. record {
    name = m;
    precondition = s m.objects (precondition_of t m);
    effect = gather (λ p. under (s p.sheet p.condition) (f p.literals)) (effect_of t m);
  }) simplify_same on_facts_same

  -- what an action reaches is made by the first
  reach_alike : (m : Name) → reach t r m ≡ reach t r' m
  reach_alike m = ap (λ s. cond (not (is false (s m.objects (precondition_of t m)))) (literals_where (λ sheet g. not (is false (s sheet g))) (effect_of t m)) []) simplify_same

-- all three together
pub what_atoms_become : SimplifyingRestsOnWhatAtomsBecome
what_atoms_become t r r' same = record {
  formula = formula_alike t r r' same;
  action = action_alike t r r' same;
  reach = reach_alike t r r' same;
}
