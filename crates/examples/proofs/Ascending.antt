-- Lists that rise, case by case.
use Rattle.std.proofs.Common.{◌≡◌, ℕ, zero, suc, ◌<◌, ◌≤◌, ◌⊎◌, [], ◌∷◌, length, take, slice_index_or, refl, sym, ap, ◌∙◌, inl, inr, arith}
use Rattle.std.specs.List.{ContainsAt as Has}
use Rattle.rising.specs.Ascent.{Rises, With, Without}
use Rattle.rising.specs.Literals.{Before}
use Rattle.examples.specs.RisingLists.{RisingListsByExample, adding, deleting, three, two}

three_rise : Rises ◌<◌ three
three_rise zero (suc zero) d h l = omega arith
three_rise zero (suc (suc zero)) d h l = omega arith
three_rise (suc zero) (suc (suc zero)) d h l = omega arith
three_rise zero zero d h l = absurd (omega arith)
three_rise (suc i) zero d h l = absurd (omega arith)
three_rise (suc i) (suc zero) d h l = absurd (omega arith)
three_rise (suc (suc i)) (suc (suc j)) d h l = absurd (omega arith)
three_rise zero (suc (suc (suc j))) d h l = absurd (omega arith)
three_rise (suc zero) (suc (suc (suc j))) d h l = absurd (omega arith)

two_rise : Rises ◌<◌ two
two_rise zero (suc zero) d h l = omega arith
two_rise zero zero d h l = absurd (omega arith)
two_rise (suc i) zero d h l = absurd (omega arith)
two_rise (suc i) (suc j) d h l = absurd (omega arith)
two_rise zero (suc (suc j)) d h l = absurd (omega arith)

literals_rise : Rises Before (deleting 2 ∷ adding 3 ∷ deleting 3 ∷ [])
literals_rise zero (suc zero) d h l = inl (omega arith)
literals_rise zero (suc (suc zero)) d h l = inl (omega arith)
literals_rise (suc zero) (suc (suc zero)) d h l = inr (refl, refl, refl)
literals_rise zero zero d h l = absurd (omega arith)
literals_rise (suc i) zero d h l = absurd (omega arith)
literals_rise (suc i) (suc zero) d h l = absurd (omega arith)
literals_rise (suc (suc i)) (suc (suc j)) d h l = absurd (omega arith)
literals_rise zero (suc (suc (suc j))) d h l = absurd (omega arith)
literals_rise (suc zero) (suc (suc (suc j))) d h l = absurd (omega arith)

-- 4 is not one of 1 and 9
missing_four : Has two 4 → ⊥
missing_four (zero, l, is) = absurd (omega (arith, is 0))
missing_four (suc zero, l, is) = absurd (omega (arith, is 0))
missing_four (suc (suc k), l, is) = absurd (omega arith)

-- 1, 4, 9 are 1, 9 and 4
old_joined : (x : ℕ) → Has two x → Has three x
old_joined x (zero, l, is) = (0, omega arith, is)
old_joined x (suc zero, l, is) = (2, omega arith, is)
old_joined x (suc (suc k), l, is) = absurd (omega arith)

only_joined : (x : ℕ) → Has three x → Has two x ⊎ (x ≡ 4)
only_joined x (zero, l, is) = inl (0, omega arith, is)
only_joined x (suc zero, l, is) = inr (sym (is 0))
only_joined x (suc (suc zero), l, is) = inl (1, omega arith, is)
only_joined x (suc (suc (suc k)), l, is) = absurd (omega arith)

joined : With two 4 three
joined = record { old = old_joined; new = (1, omega arith, λ d. refl); only = only_joined }

parted : Without three 4 two
parted = record { old = only_joined; gone = missing_four; only = old_joined }

-- 9 is not in a list of 1 alone, and is not 4
nine_lost : Has {X = ℕ} (1 ∷ []) 9 ⊎ ◌≡◌ {A = ℕ} 9 4 → ⊥
nine_lost (inl (zero, l, is)) = absurd (omega (arith, is 0))
nine_lost (inl (suc k, l, is)) = absurd (omega arith)
nine_lost (inr e) = absurd (omega arith)

-- the place of 5
before_five : (j d : ℕ) → j < 2 → slice_index_or three j d < 5
before_five zero d h = omega arith
before_five (suc zero) d h = omega arith
before_five (suc (suc j)) d h = absurd (omega arith)

after_five : (j d : ℕ) → 2 ≤ j → j < 3 → 5 < slice_index_or three j d
after_five zero d h l = absurd (omega arith)
after_five (suc zero) d h l = absurd (omega arith)
after_five (suc (suc zero)) d h l = omega arith
after_five (suc (suc (suc j))) d h l = absurd (omega arith)

turned : Before (deleting 3) (adding 3) → ⊥
turned (inl h) = absurd (omega arith)
turned (inr (a, b, c)) = cc

same : Before (adding 3) (adding 3) → ⊥
same (inl h) = absurd (omega arith)
same (inr (a, b, c)) = cc

pub rising_lists : RisingListsByExample
rising_lists = record {
  rise = three_rise;
  fall = λ r. absurd (omega (arith, r 0 1 0 (omega arith) (omega arith)));
  held = λ r e n. ap (λ k. take k r.slots.now) n ∙ ap (take 3) e;
  places = λ r e. ap length e;
  spot = record { within = omega arith; is = λ d. refl };
  no_spot = λ s. absurd (omega (arith, s.is 0));
  gap = record { within = omega arith; below = before_five; above = after_five };
  no_gap = λ g. absurd (omega (arith, g.above 1 0 (omega arith) (omega arith)));
  joins = (missing_four, three_rise, joined, refl);
  not_so = λ a. absurd (omega (arith, a.1 0 1 0 (omega arith) (omega arith)));
  there = ((1, omega arith, λ d. refl), refl);
  full = λ e. (missing_four, omega arith, refl);
  not_full = λ e a. absurd (omega (arith, a.1));
  leaves = ((1, omega arith, λ d. refl), two_rise, parted, refl);
  stays = λ a. nine_lost (a.2.old 9 (2, omega arith, λ d. refl));
  missing = (missing_four, refl);
  in_order = literals_rise;
  turned = turned;
  same = same;
  adds = refl;
}
