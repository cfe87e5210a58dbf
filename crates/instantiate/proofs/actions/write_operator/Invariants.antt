use Rattle.std.proofs.Common.{◌≡◌, ◌++◌, List, length}
use Rattle.adl.specs.Held.{tree_of}
use Rattle.model.specs.Lists.{gather}
use Rattle.table.specs.Reading.{Entry}
use Rattle.book_theorems.specs.Writes.{write_action}
use Rattle.instantiate.specs.Growing.{Grown}
use Rattle.instantiate.proofs.Acting.{acted}
use Rattle.instantiate.proofs.actions.write_operator.Given as goal

abbrev pub invariant-loop-objects : goal.invariant-loop-objects
invariant-loop-objects l =
    let done = acted (tree_of l.task) l.operator l.count l.objects-index l.objects-items in
    (l.book.most ≡ l.initial.book.most)
    × (l.actions ≡ length done)
    × ((es : List Entry) → Grown es l.initial.book → Grown (es ++ gather write_action done) l.book)
