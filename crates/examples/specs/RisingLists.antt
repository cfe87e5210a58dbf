-- Lists that rise, and what is asked of one and done to it.
use Rattle.std.specs.Prelude.{◌≡◌, ℕ, ◌<◌, true, false, List, [], ◌∷◌, Ok, Err}
use Rattle.rising.specs.Ascent.{Spot, Rises, Gap, AfterInsert, AfterRemove}
use Rattle.rising.specs.Items.{items, room}
use Rattle.rising.specs.Literals.{Before, is_adds}
use Rattle.rising.specs.declared.literal.Literal.{Literal}
use Rattle.rising.specs.declared.literal.Sign.TheVariants.{Adds, Deletes}
use Rattle.rising.specs.declared.rising.Rising.{Rising}
use Rattle.rising.specs.declared.rising.Full.{Full}

-- the atom is added, or deleted
abbrev pub adding : ℕ → Literal
adding k = record { atom = k; sign = Adds }

abbrev pub deleting : ℕ → Literal
deleting k = record { atom = k; sign = Deletes }

-- the lists 1, 4, 9 and 1, 9
abbrev pub three : List ℕ
three = 1 ∷ 4 ∷ 9 ∷ []

abbrev pub two : List ℕ
two = 1 ∷ 9 ∷ []

pub record RisingListsByExample : Type 0 where
  -- 1, 4, 9 rise; 3, 1 do not
  pub rise : Rises ◌<◌ three
  pub fall : Rises ◌<◌ (3 ∷ 1 ∷ []) → ⊥
  -- three keys of a list with four places
  pub held : (r : Rising ℕ) → r.slots.now ≡ 1 ∷ 4 ∷ 9 ∷ 9 ∷ [] → r.len ≡ 3 → items r ≡ 1 ∷ 4 ∷ 9 ∷ []
  pub places : (r : Rising ℕ) → r.slots.now ≡ 1 ∷ 4 ∷ 9 ∷ 9 ∷ [] → room r ≡ 4
  -- 4 stands at 1, and not at 2
  pub spot : Spot three 4 1
  pub no_spot : Spot three 4 2 → ⊥
  -- 5 is missing: its place is 2, and not 1
  pub gap : Gap ◌<◌ three 5 2
  pub no_gap : Gap ◌<◌ three 5 1 → ⊥
  -- 4 joins 1 and 9, in its place and not in another
  pub joins : AfterInsert ◌<◌ 3 two three 4 (Ok true)
  pub not_so : AfterInsert ◌<◌ 3 two (4 ∷ 1 ∷ 9 ∷ []) 4 (Ok true) → ⊥
  -- 9 is there already, and nothing changes
  pub there : AfterInsert ◌<◌ 3 two two 9 (Ok false)
  -- a list of two places is full, one of three is not
  pub full : (e : Full) → AfterInsert ◌<◌ 2 two two 4 (Err e)
  pub not_full : (e : Full) → AfterInsert ◌<◌ 3 two two 4 (Err e) → ⊥
  -- 4 leaves, and 9 stays
  pub leaves : AfterRemove ◌<◌ three two 4 true
  pub stays : AfterRemove ◌<◌ three (1 ∷ []) 4 true → ⊥
  pub missing : AfterRemove ◌<◌ two two 4 false
  -- literals come by their atom, then added before deleted
  pub in_order : Rises Before (deleting 2 ∷ adding 3 ∷ deleting 3 ∷ [])
  pub turned : Before (deleting 3) (adding 3) → ⊥
  pub same : Before (adding 3) (adding 3) → ⊥
  pub adds : is_adds Deletes ≡ false
