use Rattle.std.proofs.Common.{rules}
use Rattle.runs.proofs.sheet.Scene.take_step.Goals as goal

-- an effect that stands in the scene stands in the one that the first puts leave, and has the same literals there
pub returns-clause-set : goal.returns-clause-set
returns-clause-set g c = λ e j h.
    let second = c.put_effect-2.ensures.set e j (search rules) in
    search (second, c.put_effect.ensures.set e j h, c.put_effect.ensures.same, c.put_effect.ensures.size)
