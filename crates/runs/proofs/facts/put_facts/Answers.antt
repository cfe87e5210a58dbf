use Rattle.std.proofs.Common.{◌≡◌, ◌+◌, ◌-◌, [], drop, sym, refl, ap, ◌∙◌, arith}
use Rattle.table.specs.Reading.{many}
use Rattle.model.specs.Trees.{Fact, number}
use Rattle.adl.specs.Held.{held, tree_of}
use Rattle.adl.specs.Reads.{fact, facts_place}
use Rattle.adl_theorems.proofs.Standing.{stands}
use Rattle.runs.proofs.Sheets.{terms_over, atom_over}
use Rattle.runs.proofs.FactPuts.{next_in, put_next}
use Rattle.runs.proofs.facts.put_facts.Goals as goal

pub loop-k-init : goal.loop-k-init
loop-k-init g c =
    let k = c.args.task.now in
    let n : k.table.sizes.facts - 0 ≡ k.table.sizes.facts = omega arith in
    (refl, ap (λ x. many (fact (held k)) x (facts_place (held k))) n ∙ (stands (held k) k.formed).facts, refl)

pub atom_number-requires : goal.atom_number-requires
atom_number-requires g c =
    let w = next_in c.args.task.now c.loop-k._k c.loop-k.at c.loop-k-test.true c.loop-k.invariant.1 in
    let e = c.of-sheet.ensures in
    (w.2.arguments, w.1, terms_over c.of-sheet.result c.args.task.now [] e.task e.depth e.bound w.2.stand)

pub loop-k-preserved : goal.loop-k-preserved
loop-k-preserved g c =
    let k = c.args.task.now in
    let m = g.S.Store in
    let i = c.loop-k.at in
    let s = c.of-sheet.ensures in
    let w = next_in k c.loop-k._k c.loop-k.at c.loop-k-test.true c.loop-k.invariant.1 in
    let e : i + (1 + c.arity.result) ≡ w.1 = ap (λ x. i + (1 + x)) c.arity.ensures ∙ sym w.2.ends in
    let a : c.atom_number.result ≡ number (tree_of k) w.0.predicate w.0.arguments =
    c.atom_number.ensures.atom w.2.arguments w.1 (terms_over c.of-sheet.result k [] s.task s.depth s.bound w.2.stand) ∙ atom_over c.of-sheet.result k [] s.task s.depth s.bound _ w.2.arguments ∙ ap (λ (f : Fact). number (tree_of k) f.predicate f.arguments) (sym w.2.is) in (
      c.put.ensures.size ∙ c.loop-k.invariant.0,
      ap (λ x. many (fact (held k)) (k.table.sizes.facts - (c.loop-k._k + 1)) x) e ∙ w.4,
      put_next (tree_of k) (m.extent c.args.store.now) _ c.atom_number.result w.0 (drop c.loop-k._k (tree_of k).facts) (drop (c.loop-k._k + 1) (tree_of k).facts) (m.facts c.loop-k.store) _ _ w.3 c.loop-k.invariant.0 a c.put.ensures.set c.loop-k.invariant.2,
    )
