use Rattle.std.proofs.Common.{inr, arith}
use Rattle.model.specs.Books.{book}
use Rattle.adl.specs.Held.{tree_of}
use Rattle.instantiate.specs.Growing.{Grown}
use Rattle.instantiate.specs.Outcome.{book_entries}
use Rattle.instantiate.proofs.Composing.{book_grown, same_sizes, told_too_long}
use Rattle.instantiate.proofs.instantiating.compose.Goals as goal

pub returns-then-book : goal.returns-then-book
returns-then-book c =
    let t = tree_of c.args.task.now in
    let g : Grown (book_entries t) c.write_actions.new.book =
    book_grown t c.args.book.now c.add.new.self c.write_actions.new.book c.clear.new.self.entries.items c.write_preface.new.out.items c.deref.result.now
    c.clear.ensures.0 c.in_ok-groups.ensures.wrote c.deref.ensures.value c.requires.empty c.in_ok-add.ensures.grown c.in_ok-actions.ensures.grown in
    record { composed = inr (told_too_long _ _ _ _ c.new.ensures g.total (omega (arith, c.in_ok-add.ensures.most, c.in_ok-actions.ensures.most))) }

pub returns : goal.returns
returns c =
    let k = c.args.task.now in
    let t = tree_of k in
    let g : Grown (book_entries t) c.write_actions.new.book =
    book_grown t c.args.book.now c.add.new.self c.write_actions.new.book c.clear.new.self.entries.items c.write_preface.new.out.items c.deref.result.now
    c.clear.ensures.0 c.in_ok-groups.ensures.wrote c.deref.ensures.value c.requires.empty c.in_ok-add.ensures.grown c.in_ok-actions.ensures.grown in
    record {
      composed = (
        same_sizes (book t) k.counted c.in_ok-groups.ensures.groups.0 c.in_ok-groups.ensures.groups.1 c.in_ok-actions.ensures.count g.total,
        g.kept c.if-book.false,
        omega (arith, g.total, c.in_ok-add.ensures.most, c.in_ok-actions.ensures.most),
      );
    }
