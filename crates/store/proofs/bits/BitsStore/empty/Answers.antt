use Rattle.std.proofs.Common.{drop, ap, ◌∙◌}
use Rattle.store.proofs.Packing.{rest_cleared}
use Rattle.store.proofs.bits.BitsStore.empty.Goals as goal

pub returns-clause-rest : goal.returns-clause-rest
returns-clause-rest c = ap (drop 8192) c.clear.ensures ∙ rest_cleared c.args.self.now.bytes.now
