-- What an opened book's record gives: where its goal and its actions stand.
use Rattle.table.proofs.Lengths.{operands_long}
use Rattle.std.proofs.Common.{◌≡◌, ℕ, ◌<◌, true, eqb, get_or, ap, arith}
use Rattle.table.specs.Answers.{is_good}
use Rattle.table.specs.Reading.{Out}
use Rattle.model.specs.Settling.{Ground}
use Rattle.model.specs.Books.{first_facts}
use Rattle.model.specs.Opening.{WellFormedBook}
use Rattle.book.specs.Tables.{most_names, most_levels}
use Rattle.book.specs.Reads.{ground, goal_place}
use Rattle.book.specs.Held.{held, tree_of}
use Rattle.book.specs.declared.book.Book.{Book}
use Rattle.book.proofs.Standing.{Opened, opened}
use Rattle.book.proofs.WellFormed.{opened_books_are_well_formed}
use Rattle.protocol.specs.BookCalls.{facts}
use Rattle.book_runs.proofs.Standing.{begins}

module _ (b : Book) where
  pub parts : Opened (held b)
  parts = opened (held b) b.formed (operands_long b.table.entries b.table.whole)

  pub well_formed : WellFormedBook most_names most_names (tree_of b)
  well_formed = opened_books_are_well_formed (held b) b.formed (operands_long b.table.entries b.table.whole) b.table.few

  -- as many facts as the table has relevant atoms
  pub fact_count : facts (tree_of b) ≡ b.table.sizes.relevant
  fact_count = parts.relevant

  pub goal_stands : is_good (ground (held b) most_levels (goal_place (held b))) ≡ true
  goal_stands = ap (λ (o : Out Ground). is_good o) parts.goal

  -- the entries of the relevant atoms come before the goal
  pub start_inside : (j : ℕ) → j < b.table.sizes.relevant → j < b.table.sizes.entries
  start_inside j h = omega (arith, begins (held b) most_levels (goal_place (held b)) goal_stands)

  -- a fact starts true if its entry says so
  pub starts_by_kind : (j : ℕ) → j < b.table.sizes.relevant → first_facts (tree_of b) j ≡ eqb (get_or (held b).kinds j 0) 19
  starts_by_kind j h = parts.starting j h
