-- Choices by one test.
use Rattle.std.proofs.Common.{◌≡◌, Bool, true, false, cond, refl}

-- two choices by one test agree if their first ways do
pub if_passed : {A : Type 0} (b : Bool) (x y z : A) → (b ≡ true → x ≡ y) → cond b x z ≡ cond b y z
if_passed true x y z h = h refl
if_passed false x y z h = refl

-- two choices by one test agree if their second ways do
pub unless_passed : {A : Type 0} (b : Bool) (x y z : A) → (b ≡ false → y ≡ z) → cond b x y ≡ cond b x z
unless_passed true x y z h = refl
unless_passed false x y z h = h refl
