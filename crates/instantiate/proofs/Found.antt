-- Whether a literal is found in a list, and what round two asks of it.
use Rattle.std.proofs.Common.{◌≡◌, ℕ, Bool, not, ◌||◌, List, [], ◌∷◌, Result, Ok, Err, sym, refl, ap, ◌∙◌, subst, inl, inr, ⊎_elim, arith}
use Rattle.std.proofs.lemmas.Bool.{cases_lt, false_from_ne_true}
use Rattle.std.specs.List.{ContainsAt as Has}
use Rattle.std.specs.Result.{MatchResult, is_ok}
use Rattle.rising.specs.Ascent.{Spot, Gap}
use Rattle.rising.specs.Literals.{Before, is_adds}
use Rattle.rising.specs.declared.literal.Literal as code
use Rattle.rising.specs.declared.literal.Sign.{Sign}
use Rattle.rising.specs.declared.literal.Sign.TheVariants.{Adds, Deletes}
use Rattle.model.specs.Lists.{gather, any_of}
use Rattle.model.specs.Trees.{Task, Name}
use Rattle.model.specs.Meaning.{Literal, changes, is_fact}
use Rattle.model.specs.Settling.{names, reach, round_one, can_change_two}
use Rattle.runs.specs.Effects.{meant}
use Rattle.runs.proofs.Walks.{any_append}
use Rattle.instantiate.specs.Listing.{is_in, Lists}
use Rattle.instantiate.specs.Outcome.{literals_one}

-- a sign is not before itself
never : (l : code.Literal) → Before l l → ⊥
never l (inl h) = omega arith
never l (inr (e, a, d)) = let z : Adds ≡ Deletes = sym a ∙ d in cc

-- a key with a gap is in no place
missing : (xs : List code.Literal) (l : code.Literal) (at : ℕ) → Gap Before xs l at → Has xs l → ⊥
missing xs l at gap (i, h, is) =
    ⊎_elim
    (λ b. never l (subst (λ y. Before y l) (is l) (gap.below i l b)))
    (λ a. never l (subst (λ y. Before l y) (is l) (gap.above i l a h)))
    (cases_lt i at)

-- a search finds what is listed
found : (xs : List code.Literal) (l : code.Literal) (r : Result ℕ ℕ) (ls : List Literal) → MatchResult r (Spot xs l) (Gap Before xs l) → Lists xs ls → is_ok r ≡ is_in (meant l) ls
found xs l (Ok i) ls spot lists = sym (lists.listed l (i, spot.within, spot.is))
found xs l (Err i) ls gap lists = sym (false_from_ne_true (is_in (meant l) ls) (λ e. missing xs l i gap (lists.all l e)))

-- what all that is gathered changes
gathered : (b : Bool) (k : ℕ) (f : Name → List Literal) (ms : List Name) → changes b k (gather f ms) ≡ any_of (λ m. changes b k (f m)) ms
gathered b k f [] = refl
gathered b k f (m ∷ ms) = any_append _ (f m) (gather f ms) ∙ ap (λ x. changes b k (f m) || x) (gathered b k f ms)

-- an atom can change in round two if the literal that would change it is found
pub found_change : (t : Task) (xs : List code.Literal) (r : Result ℕ ℕ) (k : ℕ) (s : Sign) → Lists xs (literals_one t) → MatchResult r (Spot xs (record { atom = k; sign = s })) (Gap Before xs (record { atom = k; sign = s }))
    → is_adds s ≡ not (is_fact t k) → is_ok r ≡ can_change_two t k
found_change t xs r k s lists m e =
    found xs (record { atom = k; sign = s }) r (literals_one t) m lists
    ∙ ap (λ b. changes b k (literals_one t)) e
    ∙ gathered (not (is_fact t k)) k (reach t (round_one t)) (names t)
