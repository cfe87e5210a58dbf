-- What was played on a worked task is answered as it should be.
use Rattle.std.proofs.Common.{◌≡◌, ℕ, ◌≤◌, List, length, map, take, Result, Ok, Err, sym, ap, ◌∙◌, subst, arith}
use Rattle.std.specs.Result.{IsOk, OnOk}
use Rattle.std.proofs.lemmas.List.{length-map}
use Rattle.model.specs.Lists.{below}
use Rattle.model.specs.Trees.{Task, atoms}
use Rattle.model.specs.Meaning.{State}
use Rattle.model.specs.Books.{Book}
use Rattle.adl.specs.Reads.{task, formula, effect, consequent}
use Rattle.book.specs.Reads.{book, ground, objects}
use Rattle.agreement.specs.Agreement.{call_of}
use Rattle.protocol.specs.Machines.{Played, unbegun, answers}
use Rattle.protocol.specs.TaskCalls.{task_machine}
use Rattle.protocol.specs.BookCalls.{facts, book_machine}
use Rattle.protocol.specs.declared.calls.Answer.{Answer}
use Rattle.protocol.specs.declared.calls.Call.{Call}
use Rattle.instantiate.specs.Outcome.{literals_needed}
use Rattle.worked.specs.Tables.{book_table}
use Rattle.worked.specs.Calls.{calls, in_task, in_book}
use Rattle.worked.specs.ComingOut.{the_task, the_book}
use Rattle.worked.specs.declared.case.Case.{Case}
use Rattle.worked.specs.declared.case.Case.TheVariants.{CellPainted, GoalTrue, ForallOfNone, ExistsOfNone, OrOfNothing, AndOfNothing, NotOfNot, ObjectTwice, DeletedAndAdded}
use Rattle.worked.proofs.Cases.{come_out}

-- eight facts are room enough, and twelve answers, sixteen literals and sixteen entries of a book
pub record Small (c : Case) : Type 0 where
  pub atoms : atoms (the_task c) ≤ 8
  pub facts : facts (the_book c) ≤ 8
  pub calls : length (calls c) ≤ 12
  pub literals : literals_needed (the_task c) ≤ 16
  pub entries : (book_table c).sizes.entries ≤ 16

pub small : (c : Case) → Small c
unfolding task formula effect consequent below book ground objects
small CellPainted = record { atoms = omega arith; facts = omega arith; calls = omega arith; literals = omega arith; entries = omega arith }
small GoalTrue = record { atoms = omega arith; facts = omega arith; calls = omega arith; literals = omega arith; entries = omega arith }
small ForallOfNone = record { atoms = omega arith; facts = omega arith; calls = omega arith; literals = omega arith; entries = omega arith }
small ExistsOfNone = record { atoms = omega arith; facts = omega arith; calls = omega arith; literals = omega arith; entries = omega arith }
small OrOfNothing = record { atoms = omega arith; facts = omega arith; calls = omega arith; literals = omega arith; entries = omega arith }
small AndOfNothing = record { atoms = omega arith; facts = omega arith; calls = omega arith; literals = omega arith; entries = omega arith }
small NotOfNot = record { atoms = omega arith; facts = omega arith; calls = omega arith; literals = omega arith; entries = omega arith }
small ObjectTwice = record { atoms = omega arith; facts = omega arith; calls = omega arith; literals = omega arith; entries = omega arith }
small DeletedAndAdded = record { atoms = omega arith; facts = omega arith; calls = omega arith; literals = omega arith; entries = omega arith }

-- what holds of a value, where there is one
taken : {T E P : Type 0} (r : Result T E) → IsOk r → OnOk r P → P
taken (Ok x) ok p = p
taken (Err e) ok p = absurd (cc)

as_many : (c : Case) (cs : List Call) → map call_of cs ≡ calls c → length cs ≡ length (calls c)
as_many c cs same = sym (length-map cs call_of) ∙ ap length same

-- the task's run, over a store and an image with room for eight facts
pub task_answered : {T E : Type 0} (c : Case) (x : Task) → x ≡ the_task c → (size : ℕ) → 8 ≤ size → (s set : State) (im image : List ℕ) → 8 ≤ length im
    → (cs : List Call) → map call_of cs ≡ calls c → (held out : List Answer) → 12 ≤ length held
    → (r : Result T E) → (length cs ≤ length held → IsOk r) → OnOk r (Played (task_machine x size) (unbegun s im) cs held set image out)
    → take (length (calls c)) out ≡ in_task c
task_answered c x is size room s set im image long cs same held out places r done played =
    let few = small c in
    let n = as_many c cs same in
    let p = taken r (done (omega (arith, n))) played in
    ap (λ (k : ℕ). take k out) (sym n)
    ∙ p.answered
    ∙ subst (λ (y : Task). answers (task_machine y size) (unbegun s im) cs ≡ in_task c) (sym is)
    ((come_out c).task_answers size s im (omega arith) (omega arith) cs same)

-- the book's run, over a store and an image with room for eight facts
pub book_answered : {T E : Type 0} (c : Case) (x : Book) → x ≡ the_book c → (size : ℕ) → 8 ≤ size → (s set : State) (im image : List ℕ) → 8 ≤ length im
    → (cs : List Call) → map call_of cs ≡ calls c → (held out : List Answer) → 12 ≤ length held
    → (r : Result T E) → (length cs ≤ length held → IsOk r) → OnOk r (Played (book_machine x size) (unbegun s im) cs held set image out)
    → take (length (calls c)) out ≡ in_book c
book_answered c x is size room s set im image long cs same held out places r done played =
    let few = small c in
    let n = as_many c cs same in
    let p = taken r (done (omega (arith, n))) played in
    ap (λ (k : ℕ). take k out) (sym n)
    ∙ p.answered
    ∙ subst (λ (y : Book). answers (book_machine y size) (unbegun s im) cs ≡ in_book c) (sym is)
    ((come_out c).book_answers size s im (omega arith) (omega arith) cs same)
