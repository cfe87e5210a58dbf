use Rattle.std.proofs.Common.{length, ap, ◌∙◌}
use Rattle.store.specs.Packed.{facts_of}
use Rattle.adl.specs.Held.{tree_of}
use Rattle.instantiate.specs.Verdicts.{starts_of, always_of}
use Rattle.instantiate.proofs.Settling.{starts_are, always_are, preface_written}
use Rattle.instantiate.proofs.preface.write_preface.Goals as goal

pub returns-clause-wrote : goal.returns-clause-wrote
returns-clause-wrote c =
    let k = c.args.task.now in
    preface_written (tree_of k) c.args.verdicts.now (facts_of c.args.facts.now) k.atoms _ _ _ _ c.requires.settled c.requires.facts k.counted
    c.in_ok-relevant.ensures.wrote c.in_ok-always.ensures.wrote c.in_ok-write_goal.ensures

pub returns-clause-groups : goal.returns-clause-groups
returns-clause-groups c =
    let k = c.args.task.now in
    let vs = c.args.verdicts.now in
    let s = facts_of c.args.facts.now in (
      c.in_ok-relevant.ensures.count ∙ ap (λ n. length (starts_of s vs n)) k.counted ∙ ap length (starts_are (tree_of k) vs s c.requires.settled c.requires.facts),
      c.in_ok-always.ensures.count ∙ ap (λ n. length (always_of vs n)) k.counted ∙ ap length (always_are (tree_of k) vs c.requires.settled),
    )
