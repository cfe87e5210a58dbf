-- Different literals, and a rising list of them.
use Rattle.std.specs.Prelude.{◌≡◌, ℕ, suc, Bool, true, cond, ◌&&◌, List, [], ◌∷◌, length, ◌==◌}
use Rattle.std.specs.Bool.{beq}
use Rattle.std.specs.List.{ContainsAt as Has}
use Rattle.rising.specs.Ascent.{Rises}
use Rattle.rising.specs.Literals.{Before}
use Rattle.rising.specs.declared.literal.Literal as code
use Rattle.model.specs.Lists.{any_of}
use Rattle.model.specs.Meaning.{Literal}
use Rattle.runs.specs.Effects.{meant}

-- the same atom is added, or deleted, by both
abbrev pub same_literal : Literal → Literal → Bool
same_literal l m = beq l.adds m.adds && l.atom == m.atom

-- the literal is in the list
abbrev pub is_in : Literal → List Literal → Bool
is_in l = any_of (same_literal l)

-- how many different literals a list has: each is counted where it stands last
abbrev pub different : List Literal → ℕ
different [] = 0
different (l ∷ ls) = cond (is_in l ls) (different ls) (suc (different ls))

-- these keys rise, and are just the literals of the list
pub record Lists (keys : List code.Literal) (ls : List Literal) : Type 0 where
  pub rises : Rises Before keys
  pub listed : (k : code.Literal) → Has keys k → is_in (meant k) ls ≡ true
  pub all : (k : code.Literal) → is_in (meant k) ls ≡ true → Has keys k
  pub count : length keys ≡ different ls
