-- Numbers of four bytes, one after the other.
use Rattle.std.proofs.Common.{◌≡◌, ℕ, ◌+◌, ◌*◌, ◌<◌, ◌≤◌, set, List, [], ◌∷◌, ◌++◌, length, get_or, take, drop, sym, refl, ap, ◌∙◌, add-one, arith}
use Rattle.std.proofs.lemmas.List.{append-nil, take_more, map_push, length-map, length-append, get_or-map, drop_all}
use Rattle.std.proofs.lemmas.List.Concat.{flat_map-append}
use Rattle.std.specs.Int.{to_le_bytes, w32}
use Rattle.model.specs.Lists.{below}
use Rattle.instantiate.specs.Growing.{over}
use Rattle.instantiate.proofs.Becoming.{below_at, below_length}
use Rattle.instantiate.proofs.Copying.{put_next}
use Rattle.files.specs.Formats.{bytes_of, laid_out, number, numbers}

-- one number more is taken
pub numbers_next : (n : ℕ) (bytes : List ℕ) → numbers (n + 1) bytes ≡ numbers n bytes ++ (number (drop (4 * n) bytes) ∷ [])
unfolding below
numbers_next n bytes = rw add-one (map_push (λ i. number (drop (4 * i) bytes)) (below n) n)

pub numbers_none : (bytes : List ℕ) → numbers 0 bytes ≡ []
unfolding below
numbers_none bytes = refl

pub numbers_length : (n : ℕ) (bytes : List ℕ) → length (numbers n bytes) ≡ n
numbers_length n bytes = length-map (below n) (λ i. number (drop (4 * i) bytes)) ∙ below_length n

-- number i stands at byte 4 i
pub number_read : (n : ℕ) (bytes : List ℕ) (i d : ℕ) → i < n → get_or (numbers n bytes) i d ≡ number (drop (4 * i) bytes)
number_read n bytes i d h =
    get_or-map (λ k. number (drop (4 * k) bytes)) (below n) i 0 d (omega (arith, below_length n)) ∙ ap (λ k. number (drop (4 * k) bytes)) (below_at n i h)

-- one number more stands in the array
pub taken_next : (bytes old now : List ℕ) (i v : ℕ) → i < length old → now ≡ over (numbers i bytes) old → v ≡ number (drop (4 * i) bytes) → set now i v ≡ over (numbers (i + 1) bytes) old
taken_next bytes old now i v inside before here =
    ap (λ xs. set xs i v) before
    ∙ put_next (numbers i bytes) old i v (numbers_length i bytes) inside
    ∙ ap (λ x. over (numbers i bytes ++ x ∷ []) old) here
    ∙ ap (λ xs. over xs old) (sym (numbers_next i bytes))

-- as many numbers as the array has places leave nothing of what it held
pub taken_all : (bytes old now : List ℕ) (i : ℕ) → length old ≤ i → i ≤ length old → now ≡ over (numbers i bytes) old → now ≡ numbers (length old) bytes
taken_all bytes old now i least most before =
    let e : i ≡ length old = omega arith in
    before ∙ ap (λ k. over (numbers k bytes) old) e
    ∙ ap (λ k. numbers (length old) bytes ++ drop k old) (numbers_length (length old) bytes)
    ∙ ap (λ xs. numbers (length old) bytes ++ xs) (drop_all (length old) old (omega arith))
    ∙ append-nil (numbers (length old) bytes)

-- one number more is written
pub bytes_next : (ns : List ℕ) (i d : ℕ) → i < length ns → bytes_of (take (i + 1) ns) ≡ bytes_of (take i ns) ++ to_le_bytes w32 (get_or ns i d)
bytes_next ns i d h =
    ap bytes_of (take_more ns i d h)
    ∙ flat_map-append (to_le_bytes w32) (take i ns) (get_or ns i d ∷ [])
    ∙ ap (λ bs. bytes_of (take i ns) ++ bs) (append-nil (to_le_bytes w32 (get_or ns i d)))

pub bytes_length : (ns : List ℕ) → length (bytes_of ns) ≡ 4 * length ns
bytes_length [] = refl
bytes_length (n ∷ ns) = length-append (to_le_bytes w32 n) (bytes_of ns) ∙ ap (λ k. 4 + k) (bytes_length ns) ∙ omega arith

pub laid_length : (sizes ks os : List ℕ) → length ks ≡ length os → length (laid_out sizes ks os) ≡ 4 * length sizes + 5 * length ks
unfolding laid_out
laid_length sizes ks os same =
    length-append (bytes_of sizes) (ks ++ bytes_of os) ∙ omega (arith, same, bytes_length sizes, length-append ks (bytes_of os), bytes_length os)
