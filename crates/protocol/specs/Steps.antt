-- Puts into a store.
use Rattle.std.specs.Prelude.{ℕ, Bool, true, false, cond, List, [], ◌∷◌}
use Rattle.std.specs.Bool.{beq}
use Rattle.model.specs.Meaning.{State, Literal}
use Rattle.store.specs.Sets.{after_put}

-- puts of the literals that add, or that delete, into a store of that size
abbrev pub put_literals : ℕ → Bool → List Literal → State → State
put_literals size b [] s = s
put_literals size b (l ∷ ls) s = put_literals size b ls (cond (beq l.adds b) (after_put size s l.atom b) s)

-- all deletes, then all adds
abbrev pub put_step : ℕ → List Literal → State → State
put_step size ls s = put_literals size true ls (put_literals size false ls s)

-- puts of one number after the other
abbrev pub put_numbers : ℕ → List ℕ → State → State
put_numbers size [] s = s
put_numbers size (k ∷ ks) s = put_numbers size ks (after_put size s k true)
