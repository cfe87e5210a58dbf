use Rattle.std.proofs.Common.{◌≡◌, ◌+◌, not, length, sym, refl, ap, ◌∙◌, ap₂, arith}
use Rattle.model.specs.Lists.{below, keep}
use Rattle.model.specs.Meaning.{is_fact}
use Rattle.rising.specs.Items.{items}
use Rattle.rising.specs.Literals.{is_adds}
use Rattle.model.specs.Settling.{can_change_two}
use Rattle.adl.specs.Held.{held, tree_of}
use Rattle.adl_theorems.proofs.Standing.{atoms_bounded}
use Rattle.adl_theorems.proofs.WellFormed.{loaded_tasks_are_well_formed}
use Rattle.instantiate.specs.Verdicts.{judged}
use Rattle.instantiate.proofs.Becoming.{one_more, told_none, told_to, none_relevant, count_more, few_relevant, byte_is, opens, opens_is, told_two, same_two}
use Rattle.instantiate.proofs.Found.{found_change}
use Rattle.instantiate.proofs.verdicts.verdicts_two.Goals as goal
use Rattle.instantiate.proofs.verdicts.verdicts_two.Goals.{then-is_fact, else-is_fact}

pub loop-atom-init : goal.loop-atom-init
loop-atom-init c = (none_relevant (opens (tree_of c.args.task.now)), c.new-verdicts.ensures.items ∙ told_none (told_two (tree_of c.args.task.now)))

-- the other sign is asked for than the atom's truth has
sign_is : (c : goal.After-from-fact) → is_adds c.if-is_fact.sign ≡ not c.holds-is_fact.result
sign_is c = elim c.if-is_fact.branch [
  | then-is_fact w ↦ ap is_adds w.sign-is ∙ sym (ap not w.if-is_fact.true)
  | else-is_fact w ↦ ap is_adds w.sign-is ∙ sym (ap not w.if-is_fact.false)
]

-- whether the atom can change
can_change_is : (c : goal.After-from-fact) → c.is_ok-can_change.result ≡ can_change_two (tree_of c.args.task.now) c.loop-atom.atom
can_change_is c =
    let t = tree_of c.args.task.now in
    let f = c.holds-is_fact.ensures ∙ ap (λ s. s c.loop-atom.atom) c.requires.facts in
    c.is_ok-can_change.ensures.value
    ∙ found_change t (items c.args.listed.now) c.find.result c.loop-atom.atom c.if-is_fact.sign c.requires.listed (c.find.ensures.found c.requires.listed.rises) (sign_is c ∙ ap not f)

-- the relevant atoms with this one
more-relevant : (c : goal.After-from-fact) → c.loop-atom.fact + c.from-fact.result ≡ length (keep (opens (tree_of c.args.task.now)) (below (c.loop-atom.atom + 1)))
more-relevant c =
    let t = tree_of c.args.task.now in
    let b = c.is_ok-can_change.result in
    ap (λ x. c.loop-atom.fact + x) (c.from-fact.ensures ∙ byte_is b)
    ∙ count_more (opens t) c.loop-atom.atom (c.loop-atom.atom + 1) c.loop-atom.fact b refl c.loop-atom.invariant.0 (opens_is t c.loop-atom.atom b (can_change_is c))

pub overflow_add-fact : goal.overflow_add-fact
overflow_add-fact c =
    let k = c.args.task.now in
    let n = c.loop-atom.atom + 1 in
    omega (arith, more-relevant c, few_relevant (opens (tree_of k)) n, k.counted, atoms_bounded (held k) k.formed)

pub loop-atom-preserved : goal.loop-atom-preserved
loop-atom-preserved c =
    let t = tree_of c.args.task.now in
    let n = c.loop-atom.atom in
    let f = c.holds-is_fact.ensures ∙ ap (λ s. s n) c.requires.facts in
    let v : c.judge.result ≡ told_two t n = c.judge.ensures ∙ ap₂ (λ b d. judged b d c.loop-atom.fact) f (can_change_is c) ∙ ap (judged (is_fact t n) (can_change_two t n)) c.loop-atom.invariant.0 in
    (more-relevant c, one_more (told_two t) n (n + 1) c.loop-atom.verdicts.items c.push.new.self.items c.judge.result refl c.in_ok-push.ensures.items c.loop-atom.invariant.1 v)

pub returns : goal.returns
returns c =
    let k = c.args.task.now in
    let t = tree_of k in
    same_two t (loaded_tasks_are_well_formed (held k) k.formed) c.loop-atom.verdicts.items
    (told_to (told_two t) c.loop-atom.atom _ c.loop-atom.verdicts.items (omega (arith, k.counted)) c.loop-atom.invariant.1)
