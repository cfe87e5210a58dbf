-- The sizes that files open with.
use Rattle.std.proofs.Common.{◌≡◌, ℕ, List, get_or, ap}
use Rattle.model.specs.Lists.{below}
use Rattle.adl.specs.declared.sizes.Sizes as task
use Rattle.book.specs.declared.sizes.Sizes as ground
use Rattle.files.specs.Formats.{numbers}
use Rattle.files.specs.Converting.{task_sizes, book_sizes}

abbrev six : List ℕ → task.Sizes
six sizes = record {
  objects = get_or sizes 0 0;
  types = get_or sizes 1 0;
  predicates = get_or sizes 2 0;
  facts = get_or sizes 3 0;
  operators = get_or sizes 4 0;
  entries = get_or sizes 5 0;
}

pub six_sizes : (bytes sizes : List ℕ) → sizes ≡ numbers 6 bytes → six sizes ≡ task_sizes bytes
unfolding below
six_sizes bytes sizes e = ap six e

abbrev five : List ℕ → ground.Sizes
five sizes = record {
  atoms = get_or sizes 0 0;
  relevant = get_or sizes 1 0;
  always = get_or sizes 2 0;
  actions = get_or sizes 3 0;
  entries = get_or sizes 4 0;
}

pub five_sizes : (bytes sizes : List ℕ) → sizes ≡ numbers 5 bytes → five sizes ≡ book_sizes bytes
unfolding below
five_sizes bytes sizes e = ap five e
