-- Literals that a round's verdicts forbid.
use Rattle.std.specs.Prelude.{◌≡◌, Bool, true, false, not, List}
use Rattle.std.specs.Bool.{beq}
use Rattle.model.specs.Lists.{any_of}
use Rattle.model.specs.Trees.{Task, Name}
use Rattle.model.specs.Forming.{WellFormed}
use Rattle.model.specs.Meaning.{fits, Literal}
use Rattle.model.specs.Settling.{Verdict, always, unsettled, Round, reach, round_one, round_two}

-- always true, or always false, as b says
abbrev pub is_always : Bool → Verdict → Bool
is_always b (always c) = beq b c
is_always b unsettled = false

-- the literal adds an atom that is always false, or deletes one that is always true
abbrev pub clashes : Round → Literal → Bool
clashes r l = is_always (not l.adds) (r.verdict l.atom)

-- some literal of the list does
abbrev pub some_clashes : Round → List Literal → Bool
some_clashes r = any_of (clashes r)

-- no action that is left in a round brings about such a literal
pub record NoneClashes (t : Task) (m : Name) : Type 0 where
  pub one : some_clashes (round_one t) (reach t (round_one t) m) ≡ false
  pub two : some_clashes (round_two t) (reach t (round_two t) m) ≡ false

abbrev pub NoLiteralClashes : Type 0
NoLiteralClashes = (t : Task) → WellFormed t → (m : Name) → fits t m ≡ true → NoneClashes t m
