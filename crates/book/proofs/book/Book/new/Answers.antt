use Rattle.std.proofs.Common.{refl}
use Rattle.book.specs.Reads.{ground, objects, book}
use Rattle.book.proofs.book.Book.new.Goals as goal

pub invariant_of-result-2 : goal.invariant_of-result-2
unfolding book ground objects
invariant_of-result-2 c = record { formed = refl; placed = refl }

pub returns : goal.returns
unfolding book ground objects
returns c = refl
