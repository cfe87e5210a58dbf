-- Stores, by computing.
use Rattle.std.proofs.Common.{◌≡◌, ℕ, zero, suc, [], ◌∷◌, take, min, length, refl, ap, ◌∙◌, arith}
use Rattle.store.specs.Members.{listed, Under}
use Rattle.store.specs.Packed.{bit_size, bit_facts}
use Rattle.rising.specs.declared.rising.Rising.{Rising}
use Rattle.rising.specs.Items.{items}
use Rattle.examples.specs.Stores.{StoresByExample}

under : Under 6 (2 ∷ 5 ∷ [])
under zero h = omega arith
under (suc zero) h = omega arith
under (suc (suc i)) h = absurd (omega arith)

two_held : (r : Rising ℕ) → r.slots.now ≡ 2 ∷ 5 ∷ 0 ∷ [] → r.len ≡ 2 → items r ≡ 2 ∷ 5 ∷ []
two_held r e n = ap (λ k. take k r.slots.now) n ∙ ap (take 2) e

pub stores : StoresByExample
stores = record {
  bits = refl;
  bit_two = refl;
  bit_one = refl;
  bit_eight = refl;
  packed_size = λ b e. ap bit_size e;
  packed = λ b e. ap (λ bytes. bit_facts bytes 8) e;
  in_list = refl;
  not_in_list = refl;
  under = under;
  not_under = λ u. absurd (omega (arith, u 1 (omega arith)));
  slots = λ r e. ap (λ xs. min (length xs) 65536) e;
  members = λ r e n. (ap (λ xs. listed xs 5) (two_held r e n), ap (λ xs. listed xs 0) (two_held r e n));
  empty = refl;
  put = refl;
  put_apart = refl;
  taken_out = refl;
  no_place = refl;
  has = refl;
  outside = refl;
  puts = (refl, refl);
  puts_answer = refl;
  puts_well = refl;
  image = refl;
  shows = (refl, refl);
  copy = refl;
  no_copy = refl;
  places = refl;
  few_places = refl;
  copies = refl;
  small_store = refl;
  short_image = refl;
}
