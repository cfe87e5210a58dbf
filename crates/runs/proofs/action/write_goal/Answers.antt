use Rattle.std.proofs.Common.{◌∙◌}
use Rattle.runs.proofs.Extending.{entries_cut}
use Rattle.runs.proofs.action.write_goal.Goals as goal

pub returns-in-Err : goal.returns-in-Err
returns-in-Err c = entries_cut _ _ _ c.len-start.result (c.len-start.ensures ∙ c.args.out.now.ok.0) c.in-Err.ensures c.truncate.ensures.items
