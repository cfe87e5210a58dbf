use Rattle.std.proofs.Common.{◌≡◌, ℕ, ◌≤◌, ltb, ap, ◌∙◌, arith}
use Rattle.std.proofs.lemmas.Bool.{cond-false, le-ltb}
use Rattle.model.specs.Trees.{Task, atoms}
use Rattle.model.specs.Meaning.{State, is_fact}
use Rattle.adl.specs.Held.{held, tree_of}
use Rattle.adl_theorems.proofs.Standing.{atoms_bounded}
use Rattle.protocol.specs.Machines.{Begun}
use Rattle.protocol.specs.TaskCalls.{task_begin}
use Rattle.instantiate.proofs.facts.put_first.Goals as goal

-- a store with a place for each atom then holds the facts
holds_facts : (t : Task) (n : ℕ) (s : State) (b : Begun) → atoms t ≤ n → b ≡ task_begin t n s → b.set ≡ is_fact t
holds_facts t n s b h e = ap (λ (x : Begun). x.set) (e ∙ cond-false (ltb n (atoms t)) _ _ (le-ltb n (atoms t) h))

pub returns-in-Ok : goal.returns-in-Ok
returns-in-Ok c =
    let k = c.args.task.now in
    holds_facts (tree_of k) _ _ _ (omega (arith, atoms_bounded (held k) k.formed, c.requires)) c.begin.ensures.begun

pub returns-in_default : goal.returns-in_default
returns-in_default c =
    let k = c.args.task.now in
    holds_facts (tree_of k) _ _ _ (omega (arith, atoms_bounded (held k) k.formed, c.requires)) c.begin.ensures.begun
