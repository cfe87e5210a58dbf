-- What is written is read back.
use Rattle.std.proofs.Common.{◌≡◌, ℕ, zero, suc, ◌+◌, ◌-◌, ◌*◌, ◌<◌, ◌≤◌, ◌^◌, List, [], ◌∷◌, ◌++◌, length, get_or, take, drop, sym, refl, ap, ◌∙◌, ⊎_elim, arith}
use Rattle.std.proofs.lemmas.Bool.{cases_lt}
use Rattle.std.proofs.lemmas.List.{same_lists, take_all, get_or_past, take_at, take-take, take-append-drop, drop-take, length-take-le, length-drop, drop_at, drop-drop, append_assoc, append-nil, length-append}
use Rattle.std.proofs.lemmas.List.Elements.{All-get_or, All-take, All-drop}
use Rattle.std.proofs.lemmas.List.Concat.{flat_map-append}
use Rattle.std.proofs.lemmas.Nat.{from_le_bytes-to_le_bytes_4, le_bytes_4}
use Rattle.std.specs.Int.{to_le_bytes, w32}
use Rattle.files.specs.Formats.{bytes_of, number, numbers, laid_out, entries_told, kinds_told, operands_told}
use Rattle.files.specs.Theorems.{Bytes, FourBytes, WrittenIsReadBack, ReadIsWrittenAgain}
use Rattle.files.proofs.Bytes.{numbers_length, numbers_next, numbers_none, number_read, bytes_length}
use Rattle.files.proofs.Fitting.{even, as_told}

-- a number that was written is read
number_back : (n : ℕ) (rest : List ℕ) → n < 2 ^ 32 → number (to_le_bytes w32 n ++ rest) ≡ n
unfolding number
number_back n rest h = from_le_bytes-to_le_bytes_4 n h

-- and so is each of several
nth_back : (ns rest : List ℕ) (i d : ℕ) → FourBytes ns → i < length ns → number (drop (4 * i) (bytes_of ns ++ rest)) ≡ get_or ns i d
nth_back [] rest i d h l = absurd (omega arith)
nth_back (n ∷ ns) rest zero d h l = ap number (append_assoc (to_le_bytes w32 n) (bytes_of ns) rest) ∙ number_back n (bytes_of ns ++ rest) (h 0 0 (omega arith))
nth_back (n ∷ ns) rest (suc i) d h l =
    let four : 4 * suc i ≡ 4 + 4 * i = omega arith in
    let whole = to_le_bytes w32 n ++ (bytes_of ns ++ rest) in
    ap (λ bs. number (drop (4 * suc i) bs)) (append_assoc (to_le_bytes w32 n) (bytes_of ns) rest)
    ∙ ap (λ k. number (drop k whole)) four
    ∙ ap number (sym (drop-drop (4 * i) 4 whole))
    ∙ nth_back ns rest i d (λ k e m. h (suc k) e (omega (arith, m))) (omega (arith, l))

all_back : (ns rest : List ℕ) → FourBytes ns → numbers (length ns) (bytes_of ns ++ rest) ≡ ns
all_back ns rest h =
    let bytes = bytes_of ns ++ rest in
    let l = numbers_length (length ns) bytes in
    same_lists (numbers (length ns) bytes) ns l (λ i d m. number_read (length ns) bytes i d (omega (arith, m, l)) ∙ nth_back ns rest i d h (omega (arith, m, l)))

pub written_is_read_back : WrittenIsReadBack
unfolding laid_out
written_is_read_back sizes kinds operands some small words last same =
    let n = length sizes in
    let front = bytes_of sizes in
    let behind = kinds ++ bytes_of operands in
    let file = laid_out sizes kinds operands in
    let told : entries_told n file ≡ length kinds = nth_back sizes behind (n - 1) 0 small (omega (arith, some)) ∙ last in
    let rest : drop (4 * n) file ≡ behind = drop_at front behind (4 * n) (bytes_length sizes) in
    let numbered : length (bytes_of operands) ≡ 4 * length kinds = bytes_length operands ∙ ap (λ k. 4 * k) (sym same) in
    record {
      length_fits = even n file (length-append front behind ∙ omega (arith, told, numbered, bytes_length sizes, length-append kinds (bytes_of operands)));
      sizes_read = all_back sizes behind small;
      kinds_read = ap (λ k. take k (drop (4 * n) file)) told ∙ ap (take (length kinds)) rest ∙ take_at kinds (bytes_of operands) (length kinds) refl;
      operands_read =
          ap (λ k. numbers k (drop (4 * n + k) file)) told
          ∙ ap (numbers (length kinds)) (sym (drop-drop (length kinds) (4 * n) file) ∙ ap (drop (length kinds)) rest ∙ drop_at kinds (bytes_of operands) (length kinds) refl)
          ∙ ap (λ k. numbers k (bytes_of operands)) same
          ∙ ap (numbers (length operands)) (sym (append-nil (bytes_of operands)))
          ∙ all_back operands [] words;
    }

take_split : (m n : ℕ) (xs : List ℕ) → take (m + n) xs ≡ take m xs ++ take n (drop m xs)
take_split m n xs =
    sym (take-append-drop m (take (m + n) xs))
    ∙ ap (λ ys. ys ++ drop m (take (m + n) xs)) (take-take m (m + n) xs (omega arith))
    ∙ ap (λ ys. take m xs ++ ys) (drop-take m n xs)

small : (bytes : List ℕ) → Bytes bytes → (i : ℕ) → get_or bytes i 0 < 256
small bytes h i = ⊎_elim
    (λ l. All-get_or (λ n. n < 256) bytes i 0 l h)
    (λ l. let past : get_or bytes i 0 ≡ 0 = get_or_past bytes i 0 l in omega (arith, past))
    (cases_lt i (length bytes))

-- four bytes that were read are written
four_again : (bytes : List ℕ) → Bytes bytes → 4 ≤ length bytes → to_le_bytes w32 (number bytes) ≡ take 4 bytes
unfolding number
four_again bytes h l = le_bytes_4 (take 4 bytes) (number bytes) (length-take-le 4 bytes l) (λ i. small (take 4 bytes) (All-take (λ n. n < 256) 4 bytes h) i) refl

-- numbers that were read are written as the bytes that were read
bytes_again : (n : ℕ) (bytes : List ℕ) → Bytes bytes → 4 * n ≤ length bytes → bytes_of (numbers n bytes) ≡ take (4 * n) bytes
bytes_again zero bytes h l = ap bytes_of (numbers_none bytes)
bytes_again (suc n) bytes h l =
    let rest = drop (4 * n) bytes in
    let more : suc n ≡ n + 1 = omega arith in
    let end : 4 * n + 4 ≡ 4 * suc n = omega arith in
    ap (λ k. bytes_of (numbers k bytes)) more
    ∙ ap bytes_of (numbers_next n bytes)
    ∙ flat_map-append (to_le_bytes w32) (numbers n bytes) (number rest ∷ [])
    ∙ ap (λ bs. bytes_of (numbers n bytes) ++ bs) (append-nil (to_le_bytes w32 (number rest)) ∙ four_again rest (All-drop (λ k. k < 256) (4 * n) bytes h) (omega (arith, l, length-drop (4 * n) bytes)))
    ∙ ap (λ bs. bs ++ take 4 rest) (bytes_again n bytes h (omega (arith, l)))
    ∙ sym (take_split (4 * n) 4 bytes)
    ∙ ap (λ k. take k bytes) end

pub read_is_written_again : ReadIsWrittenAgain
unfolding laid_out
read_is_written_again n bytes some h ok =
    let e = entries_told n bytes in
    let behind = drop (4 * n) bytes in
    let l : length bytes ≡ 4 * n + 5 * e = as_told n bytes ok in
    let m : length behind ≡ 5 * e = length-drop (4 * n) bytes ∙ omega (arith, l) in
    let rest : drop (4 * n + e) bytes ≡ drop e behind = sym (drop-drop e (4 * n) bytes) in
    let k : length (drop e behind) ≡ 4 * e = length-drop e behind ∙ omega (arith, m) in
    let small_rest = All-drop (λ b. b < 256) e behind (All-drop (λ b. b < 256) (4 * n) bytes h) in
    let operands : bytes_of (operands_told n bytes) ≡ drop e behind =
    ap (λ bs. bytes_of (numbers e bs)) rest ∙ bytes_again e (drop e behind) small_rest (omega (arith, k)) ∙ take_all (4 * e) (drop e behind) (omega (arith, k)) in
    ap (λ bs. bs ++ (kinds_told n bytes ++ bytes_of (operands_told n bytes))) (bytes_again n bytes h (omega (arith, l)))
    ∙ ap (λ bs. take (4 * n) bytes ++ (kinds_told n bytes ++ bs)) operands
    ∙ ap (λ bs. take (4 * n) bytes ++ bs) (take-append-drop e behind)
    ∙ take-append-drop (4 * n) bytes
