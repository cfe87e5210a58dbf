-- Numbers of entries, one after another, at the front of an array.
use Rattle.std.proofs.Common.{◌≡◌, ℕ, ◌+◌, ◌<◌, ◌≤◌, List, [], ◌∷◌, ◌++◌, map, length, get_or, take, drop, set, sym, ap, ◌∙◌, arith}
use Rattle.std.proofs.lemmas.List.{append_assoc, drop_more, set_at, map_more, map_push, length_push, length-map, length-take-le}
use Rattle.table.specs.Entries.{coded}
use Rattle.table.specs.Reading.{Entry}
use Rattle.table.specs.declared.arrays.Head.{Head}
use Rattle.instantiate.specs.Growing.{over}

-- one number more
pub put_next : (xs old : List ℕ) (i v : ℕ) → length xs ≡ i → i < length old → set (over xs old) i v ≡ over (xs ++ v ∷ []) old
put_next xs old i v e l =
    ap (λ n. set (xs ++ drop n old) i v) e
    ∙ ap (λ rest. set (xs ++ rest) i v) (drop_more old i 0 l)
    ∙ set_at xs (get_or old i 0) (drop (i + 1) old) v i e
    ∙ sym (append_assoc xs (v ∷ []) (drop (i + 1) old))
    ∙ ap (λ n. (xs ++ v ∷ []) ++ drop n old) (sym (length_push xs v ∙ ap (λ n. n + 1) e))

-- the number of one entry more
pub one_over : (f : Entry → ℕ) (es : List Head) (old now : List ℕ) (i v : ℕ) (d : Head) → i < length es → length es ≤ length old
    → now ≡ over (map f (map coded (take i es))) old → v ≡ f (coded (get_or es i d)) → set now i v ≡ over (map f (map coded (take (i + 1) es))) old
one_over f es old now i v d l m before here =
    let n : length (map f (map coded (take i es))) ≡ i = length-map (map coded (take i es)) f ∙ length-map (take i es) coded ∙ length-take-le i es (omega arith) in
    ap (λ xs. set xs i v) before
    ∙ put_next (map f (map coded (take i es))) old i v n (omega arith)
    ∙ ap (λ x. over (map f (map coded (take i es)) ++ x ∷ []) old) here
    ∙ ap (λ xs. over xs old) (sym (ap (map f) (map_more coded es i d l) ∙ map_push f (map coded (take i es)) (coded (get_or es i d))))
