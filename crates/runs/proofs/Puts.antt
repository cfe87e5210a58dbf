-- Puts of literals, one list after another.
use Rattle.std.proofs.Common.{◌≡◌, ℕ, ◌+◌, ◌<◌, ◌≤◌, Bool, true, false, cond, List, [], ◌∷◌, map, length, get_or, take, drop, sym, ap, ◌∙◌, arith, take-add}
use mathlib.Core.Bool.{beq}
use Rattle.std.proofs.lemmas.Bool.{cond-true, cond-false}
use Rattle.std.proofs.lemmas.List.{map_more, take_all, take-append-drop, length-take, length-drop}
use Rattle.store.specs.Sets.{after_put}
use Rattle.model.specs.Meaning.{State, Literal}
use Rattle.rising.specs.declared.literal.Literal as code
use Rattle.rising.specs.Literals.{is_adds}
use Rattle.protocol.proofs.Puts.{put_append}
use Rattle.runs.specs.Effects.{meant}
use Rattle.protocol.specs.Steps.{put_literals}

-- the first i literals that a window holds
abbrev pub front : ℕ → List code.Literal → List Literal
front i xs = map meant (take i xs)

-- one literal more
pub put_more : (n : ℕ) (b : Bool) (xs : List code.Literal) (i : ℕ) (d : code.Literal) (s : State) → i < length xs →
    put_literals n b (front (i + 1) xs) s ≡ cond (beq (is_adds (get_or xs i d).sign) b) (after_put n (put_literals n b (front i xs) s) (get_or xs i d).atom b) (put_literals n b (front i xs) s)
put_more n b xs i d s h = ap (λ (ls : List Literal). put_literals n b ls s) (map_more meant xs i d h) ∙ put_append n b (front i xs) (meant (get_or xs i d) ∷ []) s

-- a turn of the loop over a window
module _ (n : ℕ) (b : Bool) (xs : List code.Literal) (i : ℕ) (d : code.Literal) (s t : State) where
  -- the literal is put
  pub turn_taken : (m : ℕ) (u : State) → i < length xs → beq (is_adds (get_or xs i d).sign) b ≡ true → m ≡ n → t ≡ put_literals n b (front i xs) s → u ≡ after_put m t (get_or xs i d).atom b →
      u ≡ put_literals n b (front (i + 1) xs) s
  turn_taken m u h e q p r =
      r ∙ ap (λ (k : ℕ). after_put k t (get_or xs i d).atom b) q ∙ ap (λ (z : State). after_put n z (get_or xs i d).atom b) p
      ∙ sym (cond-true (beq (is_adds (get_or xs i d).sign) b) (after_put n (put_literals n b (front i xs) s) (get_or xs i d).atom b) (put_literals n b (front i xs) s) e) ∙ sym (put_more n b xs i d s h)

  -- the literal is passed over
  pub turn_left : i < length xs → beq (is_adds (get_or xs i d).sign) b ≡ false → t ≡ put_literals n b (front i xs) s → t ≡ put_literals n b (front (i + 1) xs) s
  turn_left h e p =
      p ∙ sym (cond-false (beq (is_adds (get_or xs i d).sign) b) (after_put n (put_literals n b (front i xs) s) (get_or xs i d).atom b) (put_literals n b (front i xs) s) e) ∙ sym (put_more n b xs i d s h)

module _ (n : ℕ) (b : Bool) (ls : List Literal) (from : ℕ) (s : State) where
  -- a full window more
  pub put_window : (t u : State) (ks : List Literal) → t ≡ put_literals n b (take from ls) s → ks ≡ take 64 (drop from ls) → u ≡ put_literals n b ks t →
      u ≡ put_literals n b (take (from + 64) ls) s
  put_window t u ks p q r =
      r ∙ ap (λ (z : List Literal). put_literals n b z t) q ∙ ap (put_literals n b (take 64 (drop from ls))) p
      ∙ sym (put_append n b (take from ls) (take 64 (drop from ls)) s) ∙ ap (λ (z : List Literal). put_literals n b z s) (sym (take-add from 64 ls))

  -- the last window
  pub put_last : (t u : State) (ks : List Literal) → t ≡ put_literals n b (take from ls) s → ks ≡ take 64 (drop from ls) → u ≡ put_literals n b ks t → length ks < 64 →
      u ≡ put_literals n b ls s
  put_last t u ks p q r h =
      let l : length (drop from ls) ≤ 64 = omega (arith, ap length q, length-take 64 (drop from ls)) in
      r ∙ ap (λ (z : List Literal). put_literals n b z t) (q ∙ take_all 64 (drop from ls) l) ∙ ap (put_literals n b (drop from ls)) p
      ∙ sym (put_append n b (take from ls) (drop from ls) s) ∙ ap (λ (z : List Literal). put_literals n b z s) (take-append-drop from ls)

-- a full window shows that there were 64 more
pub full : (ls : List Literal) (from : ℕ) (ks : List Literal) → ks ≡ take 64 (drop from ls) → 64 ≤ length ks → from + 64 ≤ length ls
full ls from ks q h = omega (arith, ap length q, length-take 64 (drop from ls), length-drop from ls)
