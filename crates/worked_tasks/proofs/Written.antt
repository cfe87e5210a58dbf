-- What loading and instantiating a worked task come to.
use Rattle.std.proofs.Common.{◌≡◌, ℕ, List, ◌++◌, length, take, drop, Ok, sym, refl, ap, ◌∙◌, subst}
use Rattle.std.proofs.Math.Seq.{take-append_seam}
use Rattle.model.specs.Trees.{Task}
use Rattle.adl.specs.Loads.{loads, given, task_of}
use Rattle.adl.specs.declared.sizes.Sizes as task
use Rattle.instantiate.specs.Growing.{over}
use Rattle.instantiate.specs.Outcome.{instantiates, book_entries, kinds_of, operands_of}
use Rattle.worked.specs.declared.case.Case.{Case}
use Rattle.worked.specs.declared.case.Case.TheVariants.{CellPainted, GoalTrue, ForallOfNone, ExistsOfNone, OrOfNothing, AndOfNothing, NotOfNot, ObjectTwice, DeletedAndAdded}
use Rattle.worked.specs.Tables.{Table, task_table, book_table}
use Rattle.worked.specs.ComingOut.{the_task}
use Rattle.worked.proofs.Cases.{come_out}
use Rattle.worked_tasks.proofs.Answered.{small}

-- a table that is the task's loads from these arrays, and the task stands in it
pub table_loads : (c : Case) (t : Table task.Sizes) → t ≡ task_table c → (ks os : List ℕ) → ks ≡ t.kinds → os ≡ t.operands → loads t.sizes ks os ≡ Ok tt
table_loads c t is ks os k o =
    ap (λ (xs : List ℕ). loads t.sizes xs os) k
    ∙ ap (λ (ys : List ℕ). loads t.sizes t.kinds ys) o
    ∙ subst (λ (u : Table task.Sizes). loads u.sizes u.kinds u.operands ≡ Ok tt) (sym is) (come_out c).loads

pub task_stands : (c : Case) (t : Table task.Sizes) → t ≡ task_table c → (ks os : List ℕ) → ks ≡ t.kinds → os ≡ t.operands → task_of (given t.sizes ks os) ≡ the_task c
task_stands c t is ks os k o =
    ap (λ (xs : List ℕ). task_of (given t.sizes xs os)) k
    ∙ ap (λ (ys : List ℕ). task_of (given t.sizes t.kinds ys)) o
    ∙ ap (λ (u : Table task.Sizes). task_of (given u.sizes u.kinds u.operands)) is

-- instantiating it, with room for sixteen literals and sixteen entries
pub sizes_told : (c : Case) (t : Task) → t ≡ the_task c → instantiates t 16 16 16 ≡ Ok (book_table c).sizes
sizes_told c t is =
    subst (λ (x : Task). instantiates x 16 16 16 ≡ Ok (book_table c).sizes) (sym is)
    ((come_out c).sizes 16 16 16 (small c).literals (small c).entries (small c).entries)

-- both arrays of a book have as many places as there are entries
long : (c : Case) → (length (book_table c).kinds ≡ (book_table c).sizes.entries) × (length (book_table c).operands ≡ (book_table c).sizes.entries)
long CellPainted = (refl, refl)
long GoalTrue = (refl, refl)
long ForallOfNone = (refl, refl)
long ExistsOfNone = (refl, refl)
long OrOfNothing = (refl, refl)
long AndOfNothing = (refl, refl)
long NotOfNot = (refl, refl)
long ObjectTwice = (refl, refl)
long DeletedAndAdded = (refl, refl)

-- numbers that stand at the front of an array
front : (n : ℕ) (xs ys old new : List ℕ) → new ≡ over xs old → xs ≡ ys → length ys ≡ n → take n new ≡ ys
front n xs ys old new written same count =
    ap (take n) written
    ∙ ap (λ (k : ℕ). take k (xs ++ drop (length xs) old)) (sym (ap length same ∙ count))
    ∙ take-append_seam xs (drop (length xs) old)
    ∙ same

pub kinds_front : (c : Case) (t : Task) → t ≡ the_task c → (old new : List ℕ) → new ≡ over (kinds_of (book_entries t)) old
    → take (book_table c).sizes.entries new ≡ (book_table c).kinds
kinds_front c t is old new written =
    front (book_table c).sizes.entries (kinds_of (book_entries t)) (book_table c).kinds old new written
    (ap (λ (x : Task). kinds_of (book_entries x)) is ∙ (come_out c).kinds) (long c).0

pub operands_front : (c : Case) (t : Task) → t ≡ the_task c → (old new : List ℕ) → new ≡ over (operands_of (book_entries t)) old
    → take (book_table c).sizes.entries new ≡ (book_table c).operands
operands_front c t is old new written =
    front (book_table c).sizes.entries (operands_of (book_entries t)) (book_table c).operands old new written
    (ap (λ (x : Task). operands_of (book_entries x)) is ∙ (come_out c).operands) (long c).1
