-- The order of literals, and their signs as tests.
use Rattle.std.specs.Prelude.{◌≡◌, ◌<◌, Bool, true, false, ◌⊎◌}
use Rattle.rising.specs.declared.literal.Literal.{Literal}
use Rattle.rising.specs.declared.literal.Sign.{Sign}
use Rattle.rising.specs.declared.literal.Sign.TheVariants.{Adds, Deletes}

-- by atom, then added before deleted
abbrev pub Before : Literal → Literal → Type 0
Before l m = (l.atom < m.atom) ⊎ ((l.atom ≡ m.atom) × (l.sign ≡ Adds) × (m.sign ≡ Deletes))

-- whether a literal with this sign adds
abbrev pub is_adds : Sign → Bool
is_adds Adds = true
is_adds Deletes = false

-- the sign of a literal that adds, or that deletes
abbrev pub sign_of : Bool → Sign
sign_of true = Adds
sign_of false = Deletes
