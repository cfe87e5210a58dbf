-- With room enough: what instantiating answers, and what runs answer to lists of calls.
use Rattle.std.proofs.Common.{◌≡◌, ℕ, ◌≤◌, cond, ltb, List, [], ◌∷◌, map, length, Ok, Err, Result, refl, ap, ◌∙◌, arith}
use mathlib.Core.Option as plain
use Rattle.fault.specs.declared.Fault.{Fault}
use Rattle.fault.specs.declared.Layer.TheVariants.{Book as InBook}
use Rattle.fault.specs.Faults.{refusal}
use Rattle.model.specs.Trees.{Task, atoms}
use Rattle.model.specs.Meaning.{State}
use Rattle.model.specs.Books.{Book, book}
use Rattle.model.specs.Runs as model
use Rattle.model.specs.Theorems.{before_all}
use Rattle.book.specs.declared.sizes.Sizes.{Sizes}
use Rattle.protocol.specs.Machines.{Machine, Turn, unbegun, turn, answers}
use Rattle.protocol.specs.TaskCalls.{task_machine}
use Rattle.protocol.specs.BookCalls.{facts, book_machine}
use Rattle.protocol.specs.declared.calls.Call.{Call}
use Rattle.protocol.specs.declared.calls.Answer.{Answer}
use Rattle.instantiate.specs.Outcome.{instantiates, book_entries, literals_needed, sizes_of, most, unless_clash}
use Rattle.book_of_task.specs.Places.{first_clash}
use Rattle.agreement.specs.Agreement.{call_of}
use Rattle.agreement.proofs.Tied.{answer_as, Stands, Tied, turn_stands, task_tied, book_tied, passes}

-- instantiating a task without a clash, whose book has few entries
pub writes : (t : Task) (z : Sizes) → first_clash t ≡ plain.none → sizes_of (book t) ≡ z → z.entries ≤ 1048576
    → (room kinds operands : ℕ) → literals_needed t ≤ room → z.entries ≤ kinds → z.entries ≤ operands
    → instantiates t room kinds operands ≡ Ok z
writes t z none same few room kinds operands r k o =
    let n = length (book_entries t) in
    let long : n ≡ z.entries = ap (λ (y : Sizes). y.entries) same in
    let fits : n ≤ most kinds operands = omega (arith, long) in
    let written : Result Sizes Fault = cond (ltb (most kinds operands) n) (Err (refusal 11 InBook n)) (Ok (sizes_of (book t))) in
    passes (literals_needed t) room _ (unless_clash (first_clash t) written) r
    ∙ ap (λ (c : plain.Option ℕ). unless_clash c written) none
    ∙ passes n (most kinds operands) _ _ fits
    ∙ ap (λ (y : Sizes). Ok y) same

-- the answers of a machine of the model to a list of calls
abbrev pub told : model.Machine → model.Turn → List model.Call → List model.Answer
told r v [] = []
told r v (c ∷ cs) = (model.turn r v.steps v.state c).answer ∷ told r (model.turn r v.steps v.state c) cs

-- a machine that is tied to it answers alike
answers_stand : (n : ℕ) (m : Machine) (r : model.Machine) → Tied n m r → (u : Turn) (v : model.Turn) → Stands n u v → (cs : List Call)
    → answers m u cs ≡ map answer_as (told r v (map call_of cs))
answers_stand n m r tied u v st [] = refl
answers_stand n m r tied u v st (c ∷ cs) =
    let w = model.turn r v.steps v.state (call_of c) in
    let next = turn_stands n m r tied u v st c in
    ap (λ (x : Turn). x.answer ∷ answers m (turn m u c) cs) next.0
    ∙ ap (λ (xs : List Answer). answer_as w.answer ∷ xs) (answers_stand n m r tied (turn m u c) w next cs)

-- so does a task's run, and a book's, before which there was none
pub task_tells : (t : Task) (xs : List model.Call) (ys : List Answer) → ((s : State) → map answer_as (told (model.task_run t) (before_all s) xs) ≡ ys)
    → (size : ℕ) (s : State) (im : List ℕ) → atoms t ≤ size → atoms t ≤ length im → (cs : List Call) → map call_of cs ≡ xs
    → answers (task_machine t size) (unbegun s im) cs ≡ ys
task_tells t xs ys tells size s im room long cs same =
    answers_stand (atoms t) (task_machine t size) (model.task_run t) (task_tied t size room) (unbegun s im) (before_all s) (refl, long) cs
    ∙ ap (λ (zs : List model.Call). map answer_as (told (model.task_run t) (before_all s) zs)) same
    ∙ tells s

pub book_tells : (b : Book) (xs : List model.Call) (ys : List Answer) → ((s : State) → map answer_as (told (model.book_run b) (before_all s) xs) ≡ ys)
    → (size : ℕ) (s : State) (im : List ℕ) → facts b ≤ size → facts b ≤ length im → (cs : List Call) → map call_of cs ≡ xs
    → answers (book_machine b size) (unbegun s im) cs ≡ ys
book_tells b xs ys tells size s im room long cs same =
    answers_stand (facts b) (book_machine b size) (model.book_run b) (book_tied b size room) (unbegun s im) (before_all s) (refl, long) cs
    ∙ ap (λ (zs : List model.Call). map answer_as (told (model.book_run b) (before_all s) zs)) same
    ∙ tells s
