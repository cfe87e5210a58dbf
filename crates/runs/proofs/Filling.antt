-- What a window holds after a list of literals.
use Rattle.std.proofs.Common.{◌≡◌, Bool, true, false, rules, ℕ, zero, suc, ◌+◌, ◌-◌, ◌<◌, ◌≤◌, cond, ltb, List, [], ◌∷◌, ◌++◌, map, length, take, drop, set, fold, sym, refl, ap, ◌∙◌, subst, ⊎_elim, sub-one, arith}
use Rattle.std.proofs.lemmas.Bool.{cases_lt, lt-ltb, le-ltb, cond-true, cond-false}
use Rattle.std.proofs.lemmas.List.{append-nil, append_assoc, take_more_set, length-set, length-map, map_push, drop_all, take_all, length-take-le}
use Rattle.model.specs.Meaning.{Literal}
use Rattle.rising.specs.declared.literal.Literal as code
use Rattle.rising.specs.Literals.{is_adds, sign_of}
use Rattle.runs.specs.declared.window.Window.{Window}
use Rattle.runs.specs.Effects.{meant}
use Rattle.runs.specs.Windows.{packed, written, offered, kept}

sign_is : (b : Bool) → is_adds (sign_of b) ≡ b
sign_is true = refl
sign_is false = refl

-- a literal as the code has it means itself
meant_written : (l : Literal) → meant (written l) ≡ l
meant_written l = ap (λ b. record { adds = b; atom = l.atom }) (sign_is l.adds)

-- one literal of those to be passed over
drop_past : (l : Literal) (ls : List Literal) (k : ℕ) → 0 < k → drop (k - 1) ls ≡ drop k (l ∷ ls)
drop_past l ls zero h = let x : ⊥ = omega arith in absurd x
drop_past l ls (suc k) h = ap (λ (j : ℕ). drop j ls) (sub-one (suc k))

drop_zero : (ls : List Literal) (k : ℕ) → k ≤ 0 → drop k ls ≡ ls
drop_zero ls zero h = refl
drop_zero ls (suc k) h = let x : ⊥ = omega arith in absurd x

take_one : (l : Literal) (ls : List Literal) (m j : ℕ) → m ≡ j + 1 → l ∷ take j ls ≡ take m (l ∷ ls)
take_one l ls zero j e = let x : ⊥ = omega arith in absurd x
take_one l ls (suc m) j e = ap (λ (i : ℕ). l ∷ take i ls) (let q : j ≡ m = omega arith in q)

take_zero : (ls : List Literal) (m : ℕ) → m ≤ 0 → take m ls ≡ []
take_zero ls zero h = refl
take_zero ls (suc m) h = let x : ⊥ = omega arith in absurd x

-- what stands in a window that had n of the literals xs, and k to pass over, after the literals ls
pub record Holds (xs : List code.Literal) (n k : ℕ) (ls : List Literal) (w : Window) : Type 0 where
  pub few : w.len ≤ 64
  pub counted : w.len ≡ length (kept w)
  pub is : kept w ≡ map meant (take n xs) ++ take (64 - n) (drop k ls)

pub filled : (ls : List Literal) (xs : List code.Literal) (n k : ℕ) → length xs ≡ 64 → n ≤ 64 → Holds xs n k ls (fold offered (record { items = xs; len = n; skip = k }) ls)
filled [] xs n k p h =
    record {
      few = h;
      counted = sym (length-map (take n xs) meant ∙ length-take-le n xs (omega arith));
      is = sym (ap (λ (z : List Literal). map meant (take n xs) ++ z) (ap (take (64 - n)) (drop_all k [] (omega arith)) ∙ take_all (64 - n) [] (omega arith)) ∙ append-nil (map meant (take n xs)));
    }
filled (l ∷ ls) xs n k p h =
    ⊎_elim
    (λ pos.
    let e = cond-true (ltb 0 k) (record { items = xs; len = n; skip = k - 1 }) (cond (ltb n 64) (record { items = set xs n (written l); len = n + 1; skip = k }) (record { items = xs; len = n; skip = k })) (lt-ltb 0 k pos) in
    let i = filled ls xs n (k - 1) p h in
    subst (λ (w : Window). Holds xs n k (l ∷ ls) (fold offered w ls)) (sym e)
    (record { few = i.few; counted = i.counted; is = i.is ∙ ap (λ (z : List Literal). map meant (take n xs) ++ take (64 - n) z) (drop_past l ls k pos) }))
    (λ none.
    let e = cond-false (ltb 0 k) (record { items = xs; len = n; skip = k - 1 }) (cond (ltb n 64) (record { items = set xs n (written l); len = n + 1; skip = k }) (record { items = xs; len = n; skip = k })) (le-ltb 0 k none) in
    ⊎_elim
    (λ room.
    let f = cond-true (ltb n 64) (record { items = set xs n (written l); len = n + 1; skip = k }) (record { items = xs; len = n; skip = k }) (lt-ltb n 64 room) in
    let i = filled ls (set xs n (written l)) (n + 1) k (length-set xs n (written l) ∙ p) (omega arith) in
    subst (λ (w : Window). Holds xs n k (l ∷ ls) (fold offered w ls)) (sym (e ∙ f))
    (record {
      few = i.few;
      counted = i.counted;
      is =
          i.is ∙ ap (λ (z : List code.Literal). map meant z ++ take (64 - (n + 1)) (drop k ls)) (take_more_set xs n (written l) (omega arith))
          ∙ ap (λ (z : List Literal). z ++ take (64 - (n + 1)) (drop k ls)) (map_push meant (take n xs) (written l) ∙ ap (λ (z : Literal). map meant (take n xs) ++ z ∷ []) (meant_written l))
          ∙ append_assoc (map meant (take n xs)) (l ∷ []) (take (64 - (n + 1)) (drop k ls))
          ∙ ap (λ (z : List Literal). map meant (take n xs) ++ l ∷ take (64 - (n + 1)) z) (drop_zero ls k none)
          ∙ ap (λ (z : List Literal). map meant (take n xs) ++ z) (take_one l ls (64 - n) (64 - (n + 1)) (omega arith))
          ∙ ap (λ (z : List Literal). map meant (take n xs) ++ take (64 - n) z) (sym (drop_zero (l ∷ ls) k none));
    }))
    (λ full.
    let f = cond-false (ltb n 64) (record { items = set xs n (written l); len = n + 1; skip = k }) (record { items = xs; len = n; skip = k }) (le-ltb n 64 full) in
    let i = filled ls xs n k p h in
    let z : 64 - n ≤ 0 = omega arith in
    subst (λ (w : Window). Holds xs n k (l ∷ ls) (fold offered w ls)) (sym (e ∙ f))
    (record { few = i.few; counted = i.counted; is = i.is ∙ ap (λ (y : List Literal). map meant (take n xs) ++ y) (take_zero (drop k ls) (64 - n) z ∙ sym (take_zero (drop k (l ∷ ls)) (64 - n) z)) }))
    (cases_lt n 64))
    (cases_lt 0 k)

-- an empty window filled
pub fresh_filled : (w v : Window) (k : ℕ) (ls : List Literal) → length w.items ≡ 64 → w.len ≡ 0 → w.skip ≡ k → v ≡ fold offered w ls → (v.len ≤ 64) × (v.len ≡ length (kept v)) × (kept v ≡ take 64 (drop k ls))
fresh_filled w v k ls p n s e =
    let W : ℕ → ℕ → Window = λ i j. record { items = w.items; len = i; skip = j } in
    let h = filled ls w.items 0 k p (omega arith) in
    let q : v ≡ fold offered (W 0 k) ls = e ∙ ap (λ (i : ℕ). fold offered (W i w.skip) ls) n ∙ ap (λ (j : ℕ). fold offered (W 0 j) ls) s in
    subst (λ (u : Window). (u.len ≤ 64) × (u.len ≡ length (kept u)) × (kept u ≡ take 64 (drop k ls))) (sym q) (h.few, h.counted, h.is)

-- a window that takes no more is left as it is
pub packed_stays : (w : Window) (l : Literal) → packed w ≡ true → offered w l ≡ w
packed_stays w l e = search rules
