use Rattle.std.proofs.Common.{◌≡◌}
use Rattle.store.specs.Sets.{pictured}
use Rattle.store.proofs.images.copy.Given as goal

abbrev pub invariant-loop-k : goal.invariant-loop-k
invariant-loop-k g l = l.image ≡ pictured l.k (g.S.Store.facts l.store) l.initial.image
