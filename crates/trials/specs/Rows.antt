-- Tables that are built row by row.
use Rattle.std.specs.Prelude.{◌≡◌, ◌++◌, ℕ, List}
use Rattle.trials.specs.declared.rows.Rows.{Rows}

-- these codes of kinds and these operands were appended
abbrev pub Appended : List ℕ → List ℕ → Rows → Rows → Type 0
Appended codes operands before after = (after.kinds.items ≡ before.kinds.items ++ codes) × (after.operands.items ≡ before.operands.items ++ operands)
