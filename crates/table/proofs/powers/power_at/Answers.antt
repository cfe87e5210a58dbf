use Rattle.std.proofs.Common.{rules}
use Rattle.table.proofs.PowerRule.{powers_at}
use Rattle.table.proofs.powers.power_at.Goals as goal

pub returns : goal.returns
returns c = search (rules, powers_at)
