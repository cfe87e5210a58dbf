-- Entries at the front of two arrays are what a table with as many entries has.
use Rattle.std.proofs.Common.{◌≡◌, ℕ, zero, suc, ◌<◌, ◌≤◌, List, [], ◌∷◌, ◌++◌, map, length, get_or, take, sym, refl, ap, ap₂, ◌∙◌, add-one, arith}
use Rattle.std.proofs.lemmas.List.{get_or_append_left, get_or-map, length-map, map-append, take_all, take_more}
use Rattle.table.specs.Reading.{Entry, entry}
use Rattle.model.specs.Lists.{below}
use Rattle.instantiate.specs.Growing.{over}
use Rattle.instantiate.specs.Outcome.{kinds_of, operands_of}

-- what stands at the places below n
first_ones : (es : List Entry) (f : ℕ → Entry) → ((k : ℕ) → k < length es → f k ≡ get_or es k (entry 0 0)) → (n : ℕ) → n ≤ length es → map f (below n) ≡ take n es
unfolding below
first_ones es f h zero l = refl
first_ones es f h (suc n) l =
    map-append f (below n) (n ∷ [])
    ∙ ap₂ (λ xs x. xs ++ x ∷ []) (first_ones es f h n (omega arith)) (h n (omega arith))
    ∙ sym (ap (λ m. take m es) (sym (add-one n)) ∙ take_more es n (entry 0 0) (omega arith))

-- a number at the front
stands_over : (f : Entry → ℕ) (es : List Entry) (old : List ℕ) (k : ℕ) → k < length es → get_or (over (map f es) old) k 0 ≡ f (get_or es k (entry 0 0))
stands_over f es old k l =
    let h : k < length (map f es) = omega (arith, length-map es f) in
    get_or_append_left (map f es) _ 0 k h ∙ get_or-map f es k (entry 0 0) 0 l

pub stands_at_front : (es : List Entry) (ks os : List ℕ) → map (λ k. entry (get_or (over (kinds_of es) ks) k 0) (get_or (over (operands_of es) os) k 0)) (below (length es)) ≡ es
stands_at_front es ks os =
    first_ones es (λ k. entry (get_or (over (kinds_of es) ks) k 0) (get_or (over (operands_of es) os) k 0))
    (λ k l. ap₂ entry (stands_over (λ e. e.kind) es ks k l) (stands_over (λ e. e.operand) es os k l)) (length es) (omega arith)
    ∙ take_all (length es) es (omega arith)
