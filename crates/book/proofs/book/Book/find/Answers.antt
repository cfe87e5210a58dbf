use Rattle.table.proofs.Lengths.{operands_long}
use Rattle.std.proofs.Common.{◌≡◌, sym, ap, ◌∙◌, subst, arith}
use Rattle.protocol.specs.Names.{name_of}
use Rattle.model.specs.Trees.{Name}
use Rattle.book.specs.Reads.{precedes, listed}
use Rattle.book.specs.Held.{held}
use Rattle.book.specs.Named.{name_in, SomeBody, body_end}
use Rattle.book.proofs.Order.{cmp_less, cmp_greater, cmp_equal}
use Rattle.book.proofs.Places.{some_action, some_body, next_action, name_inside, name_here}
use Rattle.book.proofs.Searching.{nth, passed_more, passed_all, passed_by, found}
use Rattle.book.proofs.book.Book.find.Goals as goal
use Rattle.book.proofs.book.Book.find.Goals.{After-cmp}

-- the name that is compared is that of action k
the_name : (c : After-cmp) → name_of c.name_at-found.result ≡ nth (held c.args.self.now) c.args.self.now.formed (operands_long c.args.self.now.table.entries c.args.self.now.table.whole) (name_of c.args.name) c.loop-k.k
the_name c =
    let b = c.args.self.now in
    c.name_at-found.ensures ∙ ap (name_in b.table.entries.operands.now c.loop-k.at) c.end_of_name-end.ensures ∙ name_here (held b) b.formed c.loop-k.k c.loop-k.at (omega arith) c.loop-k.invariant.0 (operands_long b.table.entries b.table.whole) (name_of c.args.name)

pub end_of_name-end-requires : goal.end_of_name-end-requires
end_of_name-end-requires c = some_action (held c.args.self.now) c.args.self.now.formed c.loop-k.k c.loop-k.at (omega arith) c.loop-k.invariant.0

pub name_at-found-requires : goal.name_at-found-requires
name_at-found-requires c =
    let b = c.args.self.now in
    let w = name_inside (held b) b.formed c.loop-k.k c.loop-k.at (omega arith) c.loop-k.invariant.0 (operands_long b.table.entries b.table.whole) in
    let e = c.end_of_name-end.ensures in
    (omega (arith, w.0, e), omega (arith, w.1, e))

pub returns-in-Equal : goal.returns-in-Equal
returns-in-Equal c =
    let b = c.args.self.now in
    let m = name_of c.args.name in
    let e = sym (the_name ((goal.at.returns-in-Equal c).After-cmp)) ∙ cmp_equal (name_of c.name_at-found.result) m c.in-Equal.ensures in
    let w = found (held b) b.formed (operands_long b.table.entries b.table.whole) m c.loop-k.k (omega arith) e in
    record { number = w.number; exact = w.exact }

pub returns-in-Greater : goal.returns-in-Greater
returns-in-Greater c =
    let b = c.args.self.now in
    let m = name_of c.args.name in
    let e = the_name ((goal.at.returns-in-Greater c).After-cmp) in
    let p = ap (λ (n : Name). precedes (listed m) (listed n)) (sym e) ∙ cmp_greater (listed (name_of c.name_at-found.result)) (listed m) c.in-Greater.ensures in
    let w = passed_by (held b) b.formed (operands_long b.table.entries b.table.whole) m c.loop-k.k (omega arith) c.loop-k.invariant.1 p in
    record { number = w.number; exact = w.exact }

pub end_of_body-at-requires : goal.end_of_body-at-requires
end_of_body-at-requires c =
    let t = held c.args.self.now in
    subst (λ x. SomeBody t x) (sym c.end_of_name-end.ensures) (some_body t c.args.self.now.formed c.loop-k.k c.loop-k.at (omega arith) c.loop-k.invariant.0)

pub loop-k-preserved : goal.loop-k-preserved
loop-k-preserved c =
    let b = c.args.self.now in
    let m = name_of c.args.name in
    let e = the_name ((goal.at.loop-k-preserved c).After-cmp) in
    let p = ap (λ (n : Name). precedes (listed n) (listed m)) (sym e) ∙ cmp_less (listed (name_of c.name_at-found.result)) (listed m) c.in-Less.ensures in (
      c.end_of_body-at.ensures ∙ ap (body_end (held b)) c.end_of_name-end.ensures ∙ next_action (held b) b.formed c.loop-k.k c.loop-k.at (omega arith) c.loop-k.invariant.0,
      passed_more (held b) b.formed (operands_long b.table.entries b.table.whole) m c.loop-k.k c.loop-k.invariant.1 p,
    )

pub returns : goal.returns
returns c =
    let b = c.args.self.now in
    let w = passed_all (held b) b.formed (operands_long b.table.entries b.table.whole) (name_of c.args.name) c.loop-k.k (omega arith) c.loop-k.invariant.1 in
    record { number = w.number; exact = w.exact }
