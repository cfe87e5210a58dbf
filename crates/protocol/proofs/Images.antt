-- What an image shows of the set that it was filled from.
use Rattle.std.proofs.Common.{◌≡◌, ℕ, ◌%◌, ◌<◌, Bool, true, false, cond, eqb, List, map, drop, Ok, Err, Result, refl, ap, ◌∙◌, arith}
use Rattle.std.specs.List.{range_with_len}
use Rattle.std.proofs.lemmas.List.FromFn.{length-map-range_with_len, get_or-map-range_with_len}
use Rattle.std.proofs.lemmas.List.{get_or_append_left}
use Rattle.fault.specs.declared.Fault.{Fault}
use Rattle.model.specs.Meaning.{State}
use Rattle.store.specs.Sets.{pictured}
use Rattle.protocol.specs.Shown.{shown}

-- a byte of an image shows what it was made of
byte_shows : (b : Bool) → eqb (cond b 1 0 % 2) 1 ≡ b
byte_shows true = refl
byte_shows false = refl

-- the image of a set shows the set
pub image_shows : (n : ℕ) (s : State) (im : List ℕ) (k : ℕ) → k < n → shown (pictured n s im) k ≡ s k
image_shows n s im k h =
    let f : ℕ → ℕ = λ j. cond (s j) 1 0 in
    ap (λ (x : ℕ). eqb (x % 2) 1)
    (get_or_append_left (map f (range_with_len 0 n)) (drop n im) 0 k (omega (arith, length-map-range_with_len f 0 n)) ∙ get_or-map-range_with_len f 0 n k k 0 h (omega arith))
    ∙ byte_shows (s k)

-- a copy that is not refused had room
pub had_room : (x y : Bool) (f g : Fault) → ◌≡◌ {A = Result (Unit {0}) Fault} (Ok tt) (cond x (Err f) (cond y (Err g) (Ok tt))) → (x ≡ false) × (y ≡ false)
had_room true y f g e = absurd (let z : ◌≡◌ {A = ℕ} 0 1 = cc in omega arith)
had_room false true f g e = absurd (let z : ◌≡◌ {A = ℕ} 0 1 = cc in omega arith)
had_room false false f g e = (refl, refl)
