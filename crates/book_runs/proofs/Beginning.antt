-- Puts of the facts that start true leave the facts of the book at first.
use Rattle.std.proofs.Common.{◌≡◌, ℕ, suc, ◌+◌, ◌<◌, ◌≤◌, Bool, true, false, cond, ◌||◌, ltb, List, [], ◌∷◌, ◌++◌, map, Ok, sym, refl, ap, ◌∙◌, inl, inr, ⊎_elim, arith}
use mathlib.Core.Path.{fun_ext}
use Rattle.std.proofs.lemmas.Bool.{ltb-false, cond-true, cond-false, cases_lt}
use Rattle.std.proofs.lemmas.List.{get_or_past, length-map}
use Rattle.model.specs.Forming.{Within}
use Rattle.model.specs.Lists.{In, below, keep, has}
use Rattle.model.specs.Meaning.{State}
use Rattle.model.specs.Books.{Start, Book, first_facts}
use Rattle.model.proofs.Members.{has_in, keep_out, below_out}
use Rattle.model.proofs.Following.{has_kept}
use Rattle.store.specs.Sets.{none, after_put}
use Rattle.protocol.specs.Steps.{put_numbers}
use Rattle.protocol.proofs.Puts.{put_numbers_has}
use Rattle.protocol.proofs.Tests.{unless_passed}
use Rattle.protocol.specs.BookCalls.{facts, book_begin}
use Rattle.book_runs.specs.Runs.{begin_by_puts}

-- one number more
keep_more : (p : ℕ → Bool) (k : ℕ) (xs : List ℕ) → keep p (xs ++ (k ∷ [])) ≡ keep p xs ++ cond (p k) (k ∷ []) []
keep_more p k [] = refl
keep_more p k (x ∷ xs) = on (p x) (keep_more p k xs)
  where
    on : (b : Bool) → keep p (xs ++ (k ∷ [])) ≡ keep p xs ++ cond (p k) (k ∷ []) []
        → cond b (x ∷ keep p (xs ++ (k ∷ []))) (keep p (xs ++ (k ∷ []))) ≡ cond b (x ∷ keep p xs) (keep p xs) ++ cond (p k) (k ∷ []) []
    on true h = ap (λ ys. x ∷ ys) h
    on false h = h

put_numbers_append : (n : ℕ) (xs ys : List ℕ) (s : State) → put_numbers n (xs ++ ys) s ≡ put_numbers n ys (put_numbers n xs s)
put_numbers_append n [] ys s = refl
put_numbers_append n (x ∷ xs) ys s = put_numbers_append n xs ys (after_put n s x true)

below_more : (k : ℕ) → below (k + 1) ≡ below k ++ (k ∷ [])
unfolding below
below_more k = let q : k + 1 ≡ suc k = omega arith in ap below q

-- none yet
pub put_none : (n : ℕ) (p : ℕ → Bool) (s : State) → s ≡ put_numbers n (keep p (below 0)) s
unfolding below
put_none n p s = refl

-- a turn: the number is put if it is one of those
module _ (n : ℕ) (p : ℕ → Bool) (k : ℕ) (s : State) where
  puts_more : put_numbers n (keep p (below (k + 1))) s ≡ put_numbers n (cond (p k) (k ∷ []) []) (put_numbers n (keep p (below k)) s)
  puts_more =
      ap (λ xs. put_numbers n (keep p xs) s) (below_more k)
      ∙ ap (λ xs. put_numbers n xs s) (keep_more p k (below k))
      ∙ put_numbers_append n (keep p (below k)) (cond (p k) (k ∷ []) []) s

  pub put_start : (m : ℕ) (t u : State) → p k ≡ true → m ≡ n → t ≡ put_numbers n (keep p (below k)) s → u ≡ after_put m t k true → u ≡ put_numbers n (keep p (below (k + 1))) s
  put_start m t u e q h r =
      r ∙ ap (λ (x : ℕ). after_put x t k true) q ∙ ap (λ (x : State). after_put n x k true) h
      ∙ sym (ap (λ (xs : List ℕ). put_numbers n xs (put_numbers n (keep p (below k)) s)) (cond-true (p k) (k ∷ []) [] e))
      ∙ sym puts_more

  pub put_no_start : (t : State) → p k ≡ false → t ≡ put_numbers n (keep p (below k)) s → t ≡ put_numbers n (keep p (below (k + 1))) s
  put_no_start t e h =
      h ∙ sym (ap (λ (xs : List ℕ). put_numbers n xs (put_numbers n (keep p (below k)) s)) (cond-false (p k) (k ∷ []) [] e))
      ∙ sym puts_more

-- numbers that are kept are below the bound
kept_within : (n size : ℕ) → n ≤ size → (p : ℕ → Bool) (xs : List ℕ) → ((k : ℕ) → In k xs → k < n) → Within size (keep p xs)
kept_within n size l p [] h = tt
kept_within n size l p (x ∷ xs) h = on (p x) (kept_within n size l p xs (λ k i. h k (inr i)))
  where
    on : (b : Bool) → Within size (keep p xs) → Within size (cond b (x ∷ keep p xs) (keep p xs))
    on true w = (omega (arith, h x (inl refl)), w)
    on false w = w

-- a fact that the book does not have does not start true
no_fact : (b : Book) (k : ℕ) → facts b ≤ k → first_facts b k ≡ false
no_fact b k h = get_or_past (map (λ (s : Start). s.starts) b.relevant) k false (omega (arith, length-map b.relevant (λ (s : Start). s.starts)))

-- nothing past the bound is kept
none_past : (p : ℕ → Bool) (k n : ℕ) → n ≤ k → has k (keep p (below n)) ≡ false
none_past p k n h = told (has k (keep p (below n))) refl
  where
    told : (b : Bool) → has k (keep p (below n)) ≡ b → has k (keep p (below n)) ≡ false
    told true e = let z : k < n = below_out k n (keep_out p k (below n) (has_in k (keep p (below n)) e)).0 in absurd (omega arith)
    told false e = e

or_none : (x y : Bool) → x ≡ y → x || false ≡ y
or_none true y e = e
or_none false y e = e

kept_start : (b : Book) (k : ℕ) → has k (keep (first_facts b) (below (facts b))) ≡ first_facts b k
kept_start b k = ⊎_elim (λ h. has_kept (first_facts b) k (facts b) h) (λ h. none_past (first_facts b) k (facts b) h ∙ sym (no_fact b k h)) (cases_lt k (facts b))

-- puts of the facts that start true leave the facts of the book at first, whatever the store held
pub begins_with_the_starts : (b : Book) (size : ℕ) (s : State) → begin_by_puts b size s ≡ book_begin b size s
begins_with_the_starts b size s =
    unless_passed (ltb size (facts b)) _ _ _ (λ e.
    let w = kept_within (facts b) size (ltb-false size (facts b) e) (first_facts b) (below (facts b)) (λ k i. below_out k (facts b) i) in
    ap (λ (z : State). record { set = z; answer = Ok 0 })
    (fun_ext (λ k. put_numbers_has size (keep (first_facts b) (below (facts b))) none k w ∙ or_none _ _ (kept_start b k))))
