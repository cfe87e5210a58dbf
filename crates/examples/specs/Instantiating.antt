-- Instantiating: how many literals a list has room for, and what is refused.
use Rattle.std.specs.Prelude.{◌≡◌, ℕ, true, false, [], ◌∷◌, Ok, Err}
use Rattle.fault.specs.declared.Layer.TheVariants.{Book}
use Rattle.fault.specs.Faults.{refusal}
use Rattle.model.specs.Meaning.{Literal}
use Rattle.instantiate.specs.Growing.{over}
use Rattle.instantiate.specs.Listing.{different}
use Rattle.instantiate.specs.Outcome.{instantiates, literals_needed, unless_clash}
use Rattle.std.proofs.Math.Option.{some}
use Rattle.worked.specs.declared.case.Case.TheVariants.{CellPainted, DeletedAndAdded}
use Rattle.worked.specs.Tables.{book_table}
use Rattle.worked.specs.ComingOut.{the_task}

-- atom k is added, or deleted
abbrev pub adding : ℕ → Literal
adding k = record { adds = true; atom = k }

abbrev pub deleting : ℕ → Literal
deleting k = record { adds = false; atom = k }

pub record InstantiatingByExample : Type 0 where
  -- adding 0 twice and deleting it are two different literals
  pub twice : different (adding 0 ∷ deleting 0 ∷ adding 0 ∷ []) ≡ 2
  -- the task that deletes and adds an atom needs two places, and refuses one; with two it is written
  pub needs : literals_needed (the_task DeletedAndAdded) ≡ 2
  pub one_place : instantiates (the_task DeletedAndAdded) 1 100 100 ≡ Err (refusal 12 Book 1)
  pub two_places : instantiates (the_task DeletedAndAdded) 2 100 100 ≡ Ok (book_table DeletedAndAdded).sizes
  -- the book of the painted cell has nine entries: it does not go into arrays one of which has eight places
  pub kinds_short : instantiates (the_task CellPainted) 1 8 100 ≡ Err (refusal 11 Book 9)
  pub operands_short : instantiates (the_task CellPainted) 1 100 8 ≡ Err (refusal 11 Book 9)
  pub nine_places : instantiates (the_task CellPainted) 1 9 9 ≡ Ok (book_table CellPainted).sizes
  -- a list that is too short is told first
  pub list_first : instantiates (the_task CellPainted) 0 8 8 ≡ Err (refusal 12 Book 0)
  -- a clash is told by its place
  pub clash : unless_clash (some 16) (Ok (book_table CellPainted).sizes) ≡ Err (refusal 13 Book 16)
  -- what stands at the front of an array
  pub front : over (1 ∷ 2 ∷ []) (7 ∷ 7 ∷ 7 ∷ []) ≡ 1 ∷ 2 ∷ 7 ∷ []
