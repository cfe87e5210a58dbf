use Rattle.std.proofs.Common.{◌∙◌, arith}
use Rattle.book_runs.proofs.Standing.{deep, listed_stand, listed_end, single_ends}
use Rattle.book_runs.proofs.skip.+skip_skip_all.Goals as goal

pub skip-skip_all-requires : goal.skip-skip_all-requires
skip-skip_all-requires t c = (grind (arith, deep), listed_stand _ _ _ c.requires _ c.kind_at.ensures c.in-And.is)

pub skip-returns-in-And : goal.skip-returns-in-And
skip-returns-in-And t c = c.skip_all.ensures ∙ listed_end _ _ _ c.requires _ c.kind_at.ensures c.in-And.is

pub skip-returns-in_default : goal.skip-returns-in_default
skip-returns-in_default t c = single_ends _ _ _ c.requires _ c.kind_at.ensures c.in_default.not-Not c.in_default.not-And c.in_default.not-Or
