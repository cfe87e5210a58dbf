-- The image of a set, one byte after another.
use Rattle.std.proofs.Common.{◌≡◌, ℕ, ◌+◌, ◌<◌, ◌≤◌, Bool, true, false, cond, ltb, List, [], ◌∷◌, ◌++◌, map, length, get_or, drop, set, Ok, Err, sym, refl, ap, ◌∙◌, ⊎_elim, arith}
use mir.Val.{bool_byte}
use Rattle.std.specs.List.{range_with_len}
use Rattle.std.proofs.lemmas.List.{append_assoc, drop_more, set_at}
use Rattle.std.proofs.lemmas.List.FromFn.{length-map-range_with_len, map-range_with_len_more}
use Rattle.std.proofs.lemmas.Bool.{cases_lt, lt-ltb, le-ltb, cond-true, cond-false}
use Rattle.fault.specs.declared.Layer.TheVariants.{Run}
use Rattle.fault.specs.Faults.{refusal}
use Rattle.model.specs.Meaning.{State}
use Rattle.store.specs.Sets.{pictured, answered, copied}
use Rattle.store.proofs.Calls.{answered_in}

byte_is : (b : Bool) → bool_byte b ≡ cond b 1 0
byte_is true = refl
byte_is false = refl

pub answered_is : {X : Type 0} (size k : ℕ) (x y : X) → k < size → Ok y ≡ answered size k x → y ≡ x
answered_is size k x y lt e = let p = answered_in size k x lt in cc

pub pictured_more : (s : State) (old : List ℕ) (k : ℕ) (b : Bool) → k < length old → b ≡ s k → set (pictured k s old) k (bool_byte b) ≡ pictured (k + 1) s old
pictured_more s old k b h is =
    let f : ℕ → ℕ = λ j. cond (s j) 1 0 in
    let front = map f (range_with_len 0 k) in
    ap (λ rest. set (front ++ rest) k (bool_byte b)) (drop_more old k 0 h)
    ∙ set_at front (get_or old k 0) (drop (k + 1) old) (bool_byte b) k (length-map-range_with_len f 0 k)
    ∙ ap (λ v. front ++ v ∷ drop (k + 1) old) (byte_is b ∙ ap (λ q. cond q 1 0) is)
    ∙ sym (append_assoc front (f k ∷ []) (drop (k + 1) old))
    ∙ ap (λ l. l ++ drop (k + 1) old) (sym (map-range_with_len_more f 0 k k (omega arith)))

store_small : (size len n : ℕ) → size < n → Err (refusal 21 Run n) ≡ copied size len n
store_small size len n lt = sym (cond-true (ltb size n) (Err (refusal 21 Run n)) (cond (ltb len n) (Err (refusal 22 Run n)) (Ok tt)) (lt-ltb size n lt))

image_short : (size len n : ℕ) → n ≤ size → len < n → Err (refusal 22 Run n) ≡ copied size len n
image_short size len n le lt =
    sym (cond-false (ltb size n) (Err (refusal 21 Run n)) (cond (ltb len n) (Err (refusal 22 Run n)) (Ok tt)) (le-ltb size n le)
    ∙ cond-true (ltb len n) (Err (refusal 22 Run n)) (Ok tt) (lt-ltb len n lt))

-- a copy that is not refused has room
pub room_from_ok : (size len n : ℕ) (u : Unit {0}) → Ok u ≡ copied size len n → (n ≤ size) × (n ≤ len)
room_from_ok size len n u e =
    ⊎_elim
    (λ small. let p = store_small size len n small in let z : ◌≡◌ {A = ℕ} 0 1 = cc in absurd (let bad : ⊥ = omega arith in bad))
    (λ enough.
    ⊎_elim
    (λ short. let p = image_short size len n enough short in let z : ◌≡◌ {A = ℕ} 0 1 = cc in absurd (let bad : ⊥ = omega arith in bad))
    (λ long. (enough, long))
    (cases_lt len n))
    (cases_lt size n)
