use Rattle.table.proofs.Lengths.{operands_long}
use Rattle.std.proofs.Common.{sym, ◌∙◌, arith}
use Rattle.book.specs.Held.{held}
use Rattle.book.proofs.Atoms.{has_by}
use Rattle.book.proofs.Grouped.{groups_inside, always_rises, always_is}
use Rattle.book.proofs.book.Book.is_always.Goals as goal

pub slice_bounds-always-end : goal.slice_bounds-always-end
slice_bounds-always-end c = let b = c.args.self.now in omega (arith, groups_inside (held b) b.formed (operands_long b.table.entries b.table.whole))

pub invariant_of-always : goal.invariant_of-always
invariant_of-always c = let b = c.args.self.now in record { rises = always_rises (held b) b.formed (operands_long b.table.entries b.table.whole) }

pub returns : goal.returns
returns c =
    let b = c.args.self.now in
    c.is_some.ensures ∙ sym (has_by _ c.args.atom c.place_of.result c.place_of.ensures) ∙ always_is (held b) b.formed (operands_long b.table.entries b.table.whole) c.args.atom
