-- A window on a list of literals.
use Rattle.std.specs.Prelude.{◌+◌, ◌-◌, Bool, cond, ◌&&◌, List, map, take, ◌==◌, nat_le, nat_lt, slice_set}
use Rattle.model.specs.Meaning.{Literal}
use Rattle.runs.specs.Effects.{meant}
use Rattle.rising.specs.declared.literal.Literal as code
use Rattle.rising.specs.Literals.{sign_of}
use Rattle.runs.specs.declared.window.Window.{Window}

-- it takes no more literals
abbrev pub packed : Window → Bool
packed w = w.skip == 0 && nat_le 64 w.len

-- a literal as the code has it
abbrev pub written : Literal → code.Literal
written l = record { atom = l.atom; sign = sign_of l.adds }

-- one more literal: passed over, or kept while there is a place
abbrev pub offered : Window → Literal → Window
offered w l =
    cond (nat_lt 0 w.skip) (record { items = w.items; len = w.len; skip = w.skip - 1 })
    (cond (nat_lt w.len 64) (record { items = slice_set w.items w.len (written l); len = w.len + 1; skip = w.skip }) w)

-- the literals that it holds
abbrev pub kept : Window → List Literal
kept w = map meant (take w.len w.items)
