-- A rising list that takes one literal after the other.
use Rattle.std.proofs.Common.{◌≡◌, ℕ, ◌+◌, ◌<◌, Bool, true, false, List, [], ◌∷◌, ◌++◌, map, length, get_or, take, drop, sym, refl, ap, ◌∙◌, subst, ⊎_elim, arith}
use Rattle.std.specs.List.{ContainsAt as Has}
use Rattle.std.specs.Prelude.{Ok, Err}
use Rattle.std.proofs.lemmas.Bool.{or_cases, or_left, or_right, false_from_ne_true}
use Rattle.std.proofs.lemmas.List.{append_assoc, map_more, map-append, take-append-drop}
use Rattle.rising.specs.Ascent.{Rises, With, AfterInsert}
use Rattle.rising.specs.Literals.{Before, is_adds}
use Rattle.rising.specs.declared.rising.Full.{Full}
use Rattle.rising.specs.declared.literal.Literal as code
use Rattle.rising.specs.declared.literal.Sign.{Sign}
use Rattle.rising.specs.declared.literal.Sign.TheVariants.{Adds, Deletes}
use Rattle.model.specs.Meaning.{Literal}
use Rattle.model.proofs.Values.{clash}
use Rattle.runs.specs.Effects.{meant}
use Rattle.instantiate.specs.Listing.{same_literal, is_in, different, Lists}
use Rattle.instantiate.proofs.Different.{same_true, same_refl, is_in_more, different_new, different_old, different_grows}

sign_told : (s t : Sign) → is_adds s ≡ is_adds t → s ≡ t
sign_told Adds Adds e = refl
sign_told Adds Deletes e = absurd cc
sign_told Deletes Adds e = absurd cc
sign_told Deletes Deletes e = refl

-- different keys have different meanings
meant_told : (k l : code.Literal) → meant k ≡ meant l → k ≡ l
meant_told k l e =
    let p = ap (λ (x : Literal). x.atom) e in
    let q = sign_told k.sign l.sign (ap (λ (x : Literal). x.adds) e) in
    λ i. record { atom = p i; sign = q i }

-- no key lists no literal
pub lists_none : (xs : List code.Literal) → xs ≡ [] → Lists xs []
lists_none xs e = subst (λ z. Lists z []) (sym e) (record {
  rises = λ i j d h k. absurd (omega arith);
  listed = λ k h. absurd (omega (arith, h.1));
  all = λ k h. clash h;
  count = refl;
})

module _ (xs ys : List code.Literal) (k : code.Literal) (ls : List Literal) (lists : Lists xs ls) where
  missing : (Has xs k → ⊥) → is_in (meant k) ls ≡ false
  missing gone = false_from_ne_true (is_in (meant k) ls) (λ e. gone (lists.all k e))

  -- a new key joins
  joins : (Has xs k → ⊥) → Rises Before ys → With xs k ys → length ys ≡ length xs + 1 → Lists ys (ls ++ (meant k ∷ []))
  joins gone rises with count = record {
    rises = rises;
    listed = λ x h. is_in_more (meant x) ls (meant k) ∙ ⊎_elim
        (λ o. or_left (is_in (meant x) ls) (same_literal (meant x) (meant k)) (lists.listed x o))
        (λ e. or_right (is_in (meant x) ls) (same_literal (meant x) (meant k)) (subst (λ z. same_literal (meant x) (meant z) ≡ true) e (same_refl (meant x))))
        (with.only x h);
    all = λ x h. ⊎_elim
        (λ o. with.old x (lists.all x o))
        (λ e. subst (λ z. Has ys z) (sym (meant_told x k (same_true (meant x) (meant k) e))) with.new)
        (or_cases (is_in (meant x) ls) (same_literal (meant x) (meant k)) (sym (is_in_more (meant x) ls (meant k)) ∙ h));
    count = let d = different_new ls (meant k) (missing gone) in let c = lists.count in omega arith;
  }

  -- a key that is present changes nothing
  stays : Has xs k → Lists xs (ls ++ (meant k ∷ []))
  stays has =
      let here = lists.listed k has in
      record {
        rises = lists.rises;
        listed = λ x h. is_in_more (meant x) ls (meant k) ∙ or_left (is_in (meant x) ls) (same_literal (meant x) (meant k)) (lists.listed x h);
        all = λ x h. ⊎_elim
            (λ o. lists.all x o)
            (λ e. subst (λ z. Has xs z) (sym (meant_told x k (same_true (meant x) (meant k) e))) has)
            (or_cases (is_in (meant x) ls) (same_literal (meant x) (meant k)) (sym (is_in_more (meant x) ls (meant k)) ∙ h));
        count = lists.count ∙ sym (different_old ls (meant k) here);
      }

  pub noted : (room : ℕ) (b : Bool) → AfterInsert Before room xs ys k (Ok b) → Lists ys (ls ++ (meant k ∷ []))
  noted room true h = joins h.0 h.1 h.2 h.3
  noted room false h = subst (λ z. Lists z (ls ++ (meant k ∷ []))) (sym h.1) (stays h.0)

  -- without a free place there are more different literals than places
  pub overfull : (room : ℕ) (e : Full) (more : List Literal) → AfterInsert Before room xs ys k (Err e) → room < different ((ls ++ (meant k ∷ [])) ++ more)
  overfull room e more h =
      let d = different_new ls (meant k) (missing h.0) in
      let c = lists.count in
      let g = different_grows (ls ++ (meant k ∷ [])) more in
      omega (arith, h.1)

-- a turn of the loop over literals: i of them are noted, and the next is k
module _ (xs ys : List code.Literal) (room : ℕ) (ls : List Literal) (lits : List code.Literal) (i : ℕ) (k : code.Literal) (d : code.Literal) (h : i < length lits) (at : k ≡ get_or lits i d)
    (lists : Lists xs (ls ++ map meant (take i lits))) where
  one_more : (ls ++ map meant (take i lits)) ++ (meant k ∷ []) ≡ ls ++ map meant (take (i + 1) lits)
  one_more =
      append_assoc ls (map meant (take i lits)) (meant k ∷ [])
      ∙ ap (λ (z : code.Literal). ls ++ (map meant (take i lits) ++ (meant z ∷ []))) at
      ∙ ap (λ (z : List Literal). ls ++ z) (sym (map_more meant lits i d h))

  pub noted_next : (b : Bool) → (Rises Before xs → AfterInsert Before room xs ys k (Ok b)) → Lists ys (ls ++ map meant (take (i + 1) lits))
  noted_next b after = subst (λ z. Lists ys z) one_more (noted xs ys k (ls ++ map meant (take i lits)) lists room b (after lists.rises))

  pub overfull_next : (e : Full) → (Rises Before xs → AfterInsert Before room xs ys k (Err e)) → room < different (ls ++ map meant lits)
  overfull_next e after =
      let all : (ls ++ map meant (take (i + 1) lits)) ++ map meant (drop (i + 1) lits) ≡ ls ++ map meant lits =
      append_assoc ls (map meant (take (i + 1) lits)) (map meant (drop (i + 1) lits))
      ∙ ap (λ (z : List Literal). ls ++ z) (sym (map-append meant (take (i + 1) lits) (drop (i + 1) lits)) ∙ ap (map meant) (take-append-drop (i + 1) lits)) in
      subst (λ (z : List Literal). room < different z) (ap (λ (z : List Literal). z ++ map meant (drop (i + 1) lits)) one_more ∙ all)
      (overfull xs ys k (ls ++ map meant (take i lits)) lists room e (map meant (drop (i + 1) lits)) (after lists.rises))
