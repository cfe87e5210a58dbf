use Rattle.std.proofs.Common.{◌≡◌, refl, ap, ◌∙◌, arith}
use Rattle.std.proofs.lemmas.List.{take_all}
use Rattle.model.specs.Trees.{atoms, atoms_of}
use Rattle.adl.specs.Held.{held, tree_of}
use Rattle.adl_theorems.proofs.Standing.{arities_length}
use Rattle.adl_theorems.proofs.WellFormed.{loaded_tasks_are_well_formed}
use Rattle.instantiate.specs.Verdicts.{told_one}
use Rattle.instantiate.proofs.Becoming.{told_none, told_to, same_one}
use Rattle.instantiate.proofs.verdicts.verdicts_one.Goals as goal

pub loop-predicate-init : goal.loop-predicate-init
loop-predicate-init c = (refl, c.new-verdicts.ensures.items ∙ told_none (told_one (tree_of c.args.task.now)))

pub returns : goal.returns
returns c =
    let k = c.args.task.now in
    let t = tree_of k in
    let first = c.loop-predicate.first in
    let items = c.loop-predicate.verdicts.items in
    let all : first ≡ atoms t = c.loop-predicate.invariant.0 ∙ ap (atoms_of t.objects) (take_all c.loop-predicate.predicate t.arities (omega (arith, arities_length (held k) k.formed))) in
    same_one t (loaded_tasks_are_well_formed (held k) k.formed) items (told_to (told_one t) first (atoms t) items all c.loop-predicate.invariant.1)
