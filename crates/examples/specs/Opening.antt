-- Opening: a table for each number that it refuses with, what a table that opens is, and finding actions.
use Rattle.std.specs.Prelude.{◌≡◌, ℕ, true, List, [], ◌∷◌, ◌++◌, replicate, Some, None, Ok, Err}
use Rattle.fault.specs.declared.Layer.TheVariants as layer
use Rattle.fault.specs.Faults.{refusal}
use Rattle.table.specs.Answers.{Answer}
use Rattle.model.specs.Worked.{name}
use Rattle.book.specs.Groups.{Rises}
use Rattle.book.specs.Held.{held, tree_of}
use Rattle.book.specs.Opens.{opens, given, accepted, blank}
use Rattle.book.specs.Reads.{actions_place}
use Rattle.book.specs.Tables.{Table}
use Rattle.book.specs.declared.book.Book.{Book as Record}
use Rattle.book.specs.Finds.{number_from, Tells, action_place, fact_of}
use Rattle.book_theorems.specs.Theorems.{WasWritten}
use Rattle.worked.specs.declared.case.Case.{Case}
use Rattle.worked.specs.declared.case.Case.TheVariants.{CellPainted, GoalTrue, ObjectTwice}
use Rattle.worked.specs.Tables.{book_sizes, book_table}
use Rattle.worked.specs.ComingOut.{the_book}

-- a book that is refused so
abbrev pub refused : ℕ → ℕ → Answer
refused n p = Err (refusal n layer.Book p)

-- NOT of NOT, so many times, and TRUE
abbrev pub nots : ℕ → List ℕ
nots n = replicate n 4 ++ (0 ∷ [])

pub record OpeningByExample : Type 0 where
  -- TRUE alone is a book
  pub good : opens (book_sizes 0 0 0 0 1) (0 ∷ []) (0 ∷ []) ≡ Ok tt
  -- 1: more atoms are listed than there are
  pub too_many_listed : opens (book_sizes 1 1 1 0 3) (20 ∷ 21 ∷ 0 ∷ []) (0 ∷ 0 ∷ 0 ∷ []) ≡ refused 1 2
  -- 2: an array is too short
  pub operands_short : opens (book_sizes 0 0 0 0 1) (0 ∷ []) [] ≡ refused 2 0
  -- 3: the goal is a quantifier
  pub not_permitted : opens (book_sizes 0 0 0 0 1) (8 ∷ []) (0 ∷ []) ≡ refused 3 0
  -- 4: NOT of nothing; an entry is left over
  pub too_few : opens (book_sizes 0 0 0 0 1) (4 ∷ []) (0 ∷ []) ≡ refused 4 1
  pub too_many : opens (book_sizes 0 0 0 0 2) (0 ∷ 0 ∷ []) (0 ∷ 0 ∷ []) ≡ refused 4 1
  -- 5: one relevant atom, and a second fact; a name of five objects
  pub no_fact : opens (book_sizes 1 1 0 0 2) (20 ∷ 13 ∷ []) (0 ∷ 1 ∷ []) ≡ refused 5 1
  pub too_many_objects : opens (book_sizes 0 0 0 1 9) (0 ∷ 18 ∷ 10 ∷ 10 ∷ 10 ∷ 10 ∷ 10 ∷ 0 ∷ 5 ∷ []) (0 ∷ 0 ∷ 0 ∷ 1 ∷ 2 ∷ 3 ∷ 4 ∷ 0 ∷ 0 ∷ []) ≡ refused 5 6
  -- 6: 513 NOTs around TRUE; 512 may be
  pub too_deep : opens (book_sizes 0 0 0 0 514) (nots 513) (replicate 514 0) ≡ refused 6 513
  pub deep_enough : opens (book_sizes 0 0 0 0 513) (nots 512) (replicate 513 0) ≡ Ok tt
  -- 8: atoms that do not rise; an atom that is listed twice; two actions of one name
  pub atoms_fall : opens (book_sizes 2 2 0 0 3) (20 ∷ 20 ∷ 0 ∷ []) (1 ∷ 0 ∷ 0 ∷ []) ≡ refused 8 1
  pub atom_twice : opens (book_sizes 2 1 1 0 3) (20 ∷ 21 ∷ 0 ∷ []) (1 ∷ 1 ∷ 0 ∷ []) ≡ refused 8 1
  pub name_twice : opens (book_sizes 0 0 0 2 7) (0 ∷ 18 ∷ 0 ∷ 5 ∷ 18 ∷ 0 ∷ 5 ∷ []) (0 ∷ 3 ∷ 0 ∷ 0 ∷ 3 ∷ 0 ∷ 0 ∷ []) ≡ refused 8 4
  -- the book of each worked task is written in its table, well formed and within the limits
  pub written : (c : Case) → WasWritten (book_table c).sizes (book_table c).kinds (book_table c).operands

abbrev pub twice_table : Table
twice_table = given (book_table ObjectTwice).sizes (book_table ObjectTwice).kinds (book_table ObjectTwice).operands

-- of the actions of objects 0, 1 and of objects 1, 0
pub record FindingByExample : Type 0 where
  -- the second has the name 1, 0; none has the name 1, 1
  pub number : number_from 0 (the_book ObjectTwice).actions (name 0 (1 ∷ 0 ∷ [])) ≡ Some 1
  pub no_number : number_from 0 (the_book ObjectTwice).actions (name 0 (1 ∷ 1 ∷ [])) ≡ None
  pub tells : Tells (Some 1) (the_book ObjectTwice).actions (name 0 (1 ∷ 0 ∷ []))
  pub not_first : Tells (Some 0) (the_book ObjectTwice).actions (name 0 (1 ∷ 0 ∷ [])) → ⊥
  pub tells_none : Tells None (the_book ObjectTwice).actions (name 0 (1 ∷ 1 ∷ []))
  pub not_none : Tells None (the_book ObjectTwice).actions (name 0 (1 ∷ 0 ∷ [])) → ⊥
  -- a book stands in its table, the actions begin at 1, and the second at 6; a record that holds the table
  pub stands : accepted twice_table ≡ true
  pub begin : actions_place twice_table ≡ 1
  pub place : action_place twice_table 1 ≡ 6
  pub held_book : (b : Record) → held b ≡ twice_table → tree_of b ≡ the_book ObjectTwice
  -- where no book stands, the goal TRUE alone is taken to stand
  pub blank_book : the_book GoalTrue ≡ blank
  -- that atom 0 is painted is a fact, that atom 2 is true is none
  pub is_fact : fact_of (the_book CellPainted) 0 ≡ Some 0
  pub no_fact : fact_of (the_book CellPainted) 2 ≡ None
  -- the atoms of a group rise
  pub rise : Rises (0 ∷ 2 ∷ [])
  pub rise_not : Rises (2 ∷ 2 ∷ []) → ⊥
