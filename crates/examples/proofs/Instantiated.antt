-- Instantiating, by computing.
use Rattle.std.proofs.Common.{refl}
use Rattle.model.specs.Lists.{below}
use Rattle.adl.specs.Reads.{task, formula, effect, consequent}
use Rattle.book_theorems.specs.Writes.{write_book}
use Rattle.book_of_task.specs.Places.{first_clash}
use Rattle.examples.specs.Instantiating.{InstantiatingByExample}

pub instantiating : InstantiatingByExample
unfolding task formula effect consequent below write_book first_clash
instantiating = record {
  twice = refl;
  needs = refl;
  one_place = refl;
  two_places = refl;
  kinds_short = refl;
  operands_short = refl;
  nine_places = refl;
  list_first = refl;
  clash = refl;
  front = refl;
}
