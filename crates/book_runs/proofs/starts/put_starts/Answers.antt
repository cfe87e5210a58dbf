use Rattle.std.proofs.Common.{◌≡◌, ℕ, sym, refl, ap, ◌∙◌, arith}
use Rattle.model.specs.Books.{first_facts}
use Rattle.model.specs.Lists.{below, keep}
use Rattle.book.specs.Held.{tree_of}
use Rattle.protocol.specs.Steps.{put_numbers}
use Rattle.protocol.specs.BookCalls.{facts}
use Rattle.book_runs.proofs.Beginning.{put_none, put_start, put_no_start}
use Rattle.book_runs.proofs.Opened.{fact_count}
use Rattle.book_runs.proofs.starts.put_starts.Goals as goal
use Rattle.book_runs.proofs.starts.put_starts.Goals.{then-starts_true, else-starts_true}

pub loop-fact-init : goal.loop-fact-init
loop-fact-init g c = (refl, put_none _ (first_facts (tree_of c.args.book.now)) _)

pub loop-fact-preserved : goal.loop-fact-preserved
loop-fact-preserved g c =
    let M = g.S.Store in
    let b = c.args.book.now in
    let k = c.loop-fact.fact in
    let N = M.extent c.args.store.now in
    elim c.if-starts_true.branch [
      | then-starts_true w ↦ (
        ap M.extent w.store-is ∙ w.put.ensures.size ∙ c.loop-fact.invariant.0,
        ap M.facts w.store-is ∙ put_start N (first_facts (tree_of b)) k (M.facts c.args.store.now) (M.extent c.loop-fact.store) (M.facts c.loop-fact.store) _ (sym c.starts_true.ensures ∙ w.if-starts_true.true) c.loop-fact.invariant.0 c.loop-fact.invariant.1 w.put.ensures.set,
      )
      | else-starts_true w ↦ (
        ap M.extent w.store-is ∙ c.loop-fact.invariant.0,
        ap M.facts w.store-is ∙ put_no_start N (first_facts (tree_of b)) k (M.facts c.args.store.now) (M.facts c.loop-fact.store) (sym c.starts_true.ensures ∙ w.if-starts_true.false) c.loop-fact.invariant.1,
      )
    ]

pub returns : goal.returns
returns g c =
    let M = g.S.Store in
    let b = c.args.book.now in
    let e : c.loop-fact.fact ≡ facts (tree_of b) = omega (arith, fact_count b) in
    record {
      size = c.loop-fact.invariant.0;
      set = c.loop-fact.invariant.1 ∙ ap (λ (n : ℕ). put_numbers (M.extent c.args.store.now) (keep (first_facts (tree_of b)) (below n)) (M.facts c.args.store.now)) e;
    }
