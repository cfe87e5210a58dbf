-- A task and a book, and a list of calls played on each.
use Rattle.std.specs.Prelude.{◌≡◌, ℕ, List, ◌∷◌, ◌++◌, length, slice_index_or}
use Rattle.model.specs.Trees as tree
use Rattle.model.specs.Books.{book}
use Rattle.adl.specs.Held as loaded
use Rattle.adl.specs.declared.task.Task.{Task}
use Rattle.book.specs.Held as opened
use Rattle.book.specs.declared.book.Book.{Book}
use Rattle.protocol.specs.declared.calls.Answer.{Answer}
use Rattle.protocol.specs.declared.calls.Answer.TheVariants.{NoRun}
use Rattle.protocol.specs.declared.calls.Call.{Call}
use Rattle.agreement.specs.Agreement.{steps_of, Alike}

-- the book was made from the task: the record holds the book of the task that is loaded
abbrev pub MadeFrom : Task → Book → Type 0
MadeFrom t b = opened.tree_of b ≡ book (loaded.tree_of t)

-- the answers that stand in the two arrays agree, call by call
abbrev pub AnswersAgree : tree.Task → List Call → List Answer → List Answer → Type 0
AnswersAgree t cs out out' =
    (before : List Call) (c : Call) (rest : List Call) → cs ≡ before ++ (c ∷ rest)
    → Alike t (steps_of t before) c (slice_index_or out (length before) NoRun) (slice_index_or out' (length before) NoRun)
