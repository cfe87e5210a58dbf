use Rattle.std.proofs.Common.{◌∙◌}
use Rattle.runs.proofs.Extending.{entries_extend, entries_cut, literals_cut}
use Rattle.runs.proofs.fitting_name.Fitting.write_action.Goals as goal

pub returns-in-Err-clause-unchanged : goal.returns-in-Err-clause-unchanged
returns-in-Err-clause-unchanged c =
    let old = c.args.draft.now in
    let d = c.in-Err.ensures.extends in (
      entries_cut _ _ _ c.len-entries.result (c.len-entries.ensures ∙ old.entries.ok.0) (entries_extend d) c.truncate.ensures.items,
      literals_cut _ _ _ _ c.len-literals.result (c.len-literals.ensures ∙ old.literals.ok.0) d.appends.literals c.truncate-in-Err.ensures.items,
    )
