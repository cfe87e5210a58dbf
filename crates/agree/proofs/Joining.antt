-- The two lists of answers, joined by the agreement of the runs.
use Rattle.std.proofs.Common.{◌≡◌, ℕ, ◌<◌, List, [], ◌∷◌, ◌++◌, length, get_or, take, sym, refl, ap, ◌∙◌, subst, arith, length-append}
use Rattle.std.proofs.lemmas.List.{get_or-take}
use Rattle.model.specs.Meaning.{State}
use Rattle.model.specs.Trees as tree
use Rattle.model.specs.Books as books
use Rattle.model.specs.Forming.{WellFormed}
use Rattle.protocol.specs.Machines.{Machine, Turn, unbegun, turn, after, answers}
use Rattle.protocol.specs.TaskCalls.{task_machine}
use Rattle.protocol.specs.BookCalls.{book_machine}
use Rattle.protocol.specs.declared.calls.Answer.{Answer}
use Rattle.protocol.specs.declared.calls.Answer.TheVariants.{NoRun}
use Rattle.protocol.specs.declared.calls.Call.{Call}
use Rattle.agreement.specs.Agreement.{Alike, steps_of, Room, BeginsFirst, EachCallAgrees}
use Rattle.agreement.proofs.Agreement.{task_and_book_agree}
use Rattle.agree.specs.Sides.{AnswersAgree}

-- the answer to a call of a list
answer_at : (m : Machine) (u : Turn) (before : List Call) (c : Call) (rest : List Call)
    → get_or (answers m u (before ++ (c ∷ rest))) (length before) NoRun ≡ (turn m (after m u before) c).answer
answer_at m u [] c rest = refl
answer_at m u (x ∷ before) c rest = answer_at m (turn m u x) before c rest

-- a call of a list has its place among the first answers
place_below : (before : List Call) (c : Call) (rest : List Call) → length before < length (before ++ (c ∷ rest))
place_below before c rest = omega (arith, length-append before (c ∷ rest))

-- where the first answers of an array are those of a list of calls, the answer to each call stands at its place
answer_stands : (m : Machine) (u : Turn) (cs : List Call) (out : List Answer) → take (length cs) out ≡ answers m u cs
    → (before : List Call) (c : Call) (rest : List Call) → cs ≡ before ++ (c ∷ rest) → get_or out (length before) NoRun ≡ (turn m (after m u before) c).answer
answer_stands m u cs out e before c rest q =
    let h : length before < length cs = omega (arith, ap length q, place_below before c rest) in
    sym (get_or-take (length cs) out (length before) NoRun h)
    ∙ ap (λ (xs : List Answer). get_or xs (length before) NoRun) (e ∙ ap (answers m u) q)
    ∙ answer_at m u before c rest

-- the agreement, of the runs and of the answers that were written
pub agreed : (t : tree.Task) (b : books.Book) (size size' : ℕ) (s f : State) (im im' : List ℕ) (cs : List Call) (out out' : List Answer)
    → WellFormed t → b ≡ books.book t → Room t size size' im im' → BeginsFirst cs
    → take (length cs) out ≡ answers (task_machine t size) (unbegun s im) cs → take (length cs) out' ≡ answers (book_machine b size') (unbegun f im') cs
    → EachCallAgrees t size size' s f im im' cs × AnswersAgree t cs out out'
agreed t b size size' s f im im' cs out out' formed made room order x y =
    let each = task_and_book_agree t formed size size' s f im im' room cs order in
    let y' : take (length cs) out' ≡ answers (book_machine (books.book t) size') (unbegun f im') cs = y ∙ ap (λ (z : books.Book). answers (book_machine z size') (unbegun f im') cs) made in (
      each,
      λ before c rest q.
          subst (λ (a : Answer). Alike t (steps_of t before) c a (get_or out' (length before) NoRun)) (sym (answer_stands (task_machine t size) (unbegun s im) cs out x before c rest q))
          (subst (λ (a : Answer). Alike t (steps_of t before) c (turn (task_machine t size) (after (task_machine t size) (unbegun s im) before) c).answer a) (sym (answer_stands (book_machine (books.book t) size') (unbegun f im') cs out' y' before c rest q))
          (each before c rest q).answers),
    )
