-- Sets of facts as packed bits and as lists, what the calls of a store do to a set, and images.
use Rattle.std.specs.Prelude.{◌≡◌, ℕ, true, false, [], ◌∷◌, ◌==◌, Ok, Err}
use Rattle.fault.specs.declared.Layer.TheVariants.{Run, Store}
use Rattle.fault.specs.Faults.{refusal}
use Rattle.model.specs.Meaning.{State}
use Rattle.rising.specs.declared.rising.Rising.{Rising}
use Rattle.store.specs.Listed.{list_size, list_facts}
use Rattle.store.specs.Members.{listed, Under}
use Rattle.store.specs.Packed.{bit_size, bit_facts, size_of, facts_of}
use Rattle.store.specs.Sets.{none, answered, placed, after_put, put_all, answered_all, pictured, after_copy, copied}
use Rattle.store.specs.declared.bits.Bits.{Bits}
use Rattle.protocol.specs.Shown.{shown}

-- the set of 1 alone
abbrev pub one : State
one k = k == 1

pub record StoresByExample : Type 0 where
  -- two bytes have places for 16 facts; 5 has bits 0 and 2, and 1 has bit 0, which is fact 8
  pub bits : bit_size (5 ∷ 1 ∷ []) ≡ 16
  pub bit_two : bit_facts (5 ∷ 1 ∷ []) 2 ≡ true
  pub bit_one : bit_facts (5 ∷ 1 ∷ []) 1 ≡ false
  pub bit_eight : bit_facts (5 ∷ 1 ∷ []) 8 ≡ true
  pub packed_size : (b : Bits) → b.bytes.now ≡ 5 ∷ 1 ∷ [] → size_of b ≡ 16
  pub packed : (b : Bits) → b.bytes.now ≡ 5 ∷ 1 ∷ [] → facts_of b 8 ≡ true
  -- the numbers 2 and 5, in a list with three places
  pub in_list : listed (2 ∷ 5 ∷ []) 5 ≡ true
  pub not_in_list : listed (2 ∷ 5 ∷ []) 3 ≡ false
  pub under : Under 6 (2 ∷ 5 ∷ [])
  pub not_under : Under 5 (2 ∷ 5 ∷ []) → ⊥
  pub slots : (r : Rising ℕ) → r.slots.now ≡ 2 ∷ 5 ∷ 0 ∷ [] → list_size r ≡ 3
  pub members : (r : Rising ℕ) → r.slots.now ≡ 2 ∷ 5 ∷ 0 ∷ [] → r.len ≡ 2 → (list_facts r 5 ≡ true) × (list_facts r 0 ≡ false)
  -- nothing is in the empty set; 3 is put into it and taken out, if there is a place
  pub empty : none 3 ≡ false
  pub put : after_put 16 none 3 true 3 ≡ true
  pub put_apart : after_put 16 none 3 true 4 ≡ false
  pub taken_out : after_put 16 one 1 false 1 ≡ false
  pub no_place : after_put 3 none 3 true 3 ≡ false
  pub has : answered 16 1 (one 1) ≡ Ok true
  pub outside : answered 3 3 (one 3) ≡ Err (refusal 31 Store 3)
  -- 1, 5, 2 are put one after the other into four places: 5 is refused, and 2 no longer put
  pub puts : (put_all 4 none (1 ∷ 5 ∷ 2 ∷ []) 1 ≡ true) × (put_all 4 none (1 ∷ 5 ∷ 2 ∷ []) 2 ≡ false)
  pub puts_answer : answered_all 4 (1 ∷ 5 ∷ 2 ∷ []) ≡ Err (refusal 31 Store 5)
  pub puts_well : answered_all 6 (1 ∷ 5 ∷ 2 ∷ []) ≡ Ok tt
  -- an image of three facts in four bytes, and what it shows: odd bytes
  pub image : pictured 3 one (7 ∷ 7 ∷ 7 ∷ 7 ∷ []) ≡ 0 ∷ 1 ∷ 0 ∷ 7 ∷ []
  pub shows : (shown (0 ∷ 1 ∷ 3 ∷ 2 ∷ []) 2 ≡ true) × (shown (0 ∷ 1 ∷ 3 ∷ 2 ∷ []) 3 ≡ false)
  pub copy : after_copy 3 3 one (7 ∷ 7 ∷ 7 ∷ 7 ∷ []) ≡ 0 ∷ 1 ∷ 0 ∷ 7 ∷ []
  -- with too few places in the store or the image, nothing is copied
  pub no_copy : after_copy 2 3 one (7 ∷ 7 ∷ 7 ∷ 7 ∷ []) ≡ 7 ∷ 7 ∷ 7 ∷ 7 ∷ []
  pub places : placed 3 3 ≡ Ok tt
  pub few_places : placed 2 3 ≡ Err (refusal 21 Run 3)
  pub copies : copied 3 4 3 ≡ Ok tt
  pub small_store : copied 2 4 3 ≡ Err (refusal 21 Run 3)
  pub short_image : copied 3 2 3 ≡ Err (refusal 22 Run 3)
