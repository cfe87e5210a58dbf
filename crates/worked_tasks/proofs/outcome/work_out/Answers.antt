use Rattle.std.proofs.Common.{◌≡◌, Ok, Err, Result, sym, ap, ◌∙◌, ⊎_elim}
use Rattle.std.proofs.lemmas.Result.{err_from_is_err_and}
use Rattle.fault.specs.declared.Fault.{Fault}
use Rattle.model.specs.Books.{book}
use Rattle.adl.specs.Held.{tree_of as task_in}
use Rattle.adl.specs.Loads.{task_of}
use Rattle.book.specs.Opens.{book_of}
use Rattle.book.specs.declared.sizes.Sizes.{Sizes}
use Rattle.worked.specs.Views.{table_in}
use Rattle.worked.specs.ComingOut.{the_task}
use Rattle.worked.proofs.Cases.{come_out}
use Rattle.worked_tasks.proofs.Written.{table_loads, task_stands, sizes_told, kinds_front, operands_front}
use Rattle.worked_tasks.proofs.outcome.work_out.Goals as goal

-- a refusal is no answer
clash : {A T E : Type 0} (e : E) (x : T) → Err e ≡ Ok x → A
clash e x h = absurd (cc)

-- results that are the same have the same inside
inside : (z y : Sizes) → ◌≡◌ {A = Result Sizes Fault} (Ok z) (Ok y) → z ≡ y
inside z y h = cc

inside_err : (f g : Fault) → ◌≡◌ {A = Result Sizes Fault} (Err f) (Err g) → f ≡ g
inside_err f g h = cc

pub returns-in_err-load : goal.returns-in_err-load
returns-in_err-load c =
    clash _ _
    (c.in_err-load.ensures.answers
    ∙ table_loads c.args.case (table_in c.task-written.result) c.task-written.ensures _ _
    (c.deref.ensures.value ∙ c.in_ok-task_kinds.ensures) (c.deref-2.ensures.value ∙ c.in_ok-task_operands.ensures))

pub returns-in_err-sizes : goal.returns-in_err-sizes
returns-in_err-sizes c =
    let t : task_in c.load.new.self ≡ the_task c.args.case =
    ap task_of c.in_ok-load.ensures.fills
    ∙ task_stands c.args.case (table_in c.task-written.result) c.task-written.ensures _ _
    (c.deref.ensures.value ∙ c.in_ok-task_kinds.ensures) (c.deref-2.ensures.value ∙ c.in_ok-task_operands.ensures) in
    ⊎_elim
    (λ full.
    let p = err_from_is_err_and c.from_residual-in_err-sizes.result c.from_residual-in_err-sizes.ensures.1 in
    rw (p.1, p.2) (inside_err _ _ full))
    (λ told. clash _ _ (told ∙ sizes_told c.args.case (task_in c.load.new.self) t))
    c.in_err-sizes.ensures.answers

pub answers_of_book-of_book-requires : goal.answers_of_book-of_book-requires
answers_of_book-of_book-requires c =
    let t : task_in c.load.new.self ≡ the_task c.args.case =
    ap task_of c.in_ok-load.ensures.fills
    ∙ task_stands c.args.case (table_in c.task-written.result) c.task-written.ensures _ _
    (c.deref.ensures.value ∙ c.in_ok-task_kinds.ensures) (c.deref-2.ensures.value ∙ c.in_ok-task_operands.ensures) in
    ap book_of c.in_ok-open.ensures.fills ∙ c.in_ok-sizes.ensures.opens.1 ∙ ap book t ∙ sym (come_out c.args.case).stands

pub returns : goal.returns
returns c =
    let case = c.args.case in
    let t : task_in c.load.new.self ≡ the_task c.args.case =
    ap task_of c.in_ok-load.ensures.fills
    ∙ task_stands c.args.case (table_in c.task-written.result) c.task-written.ensures _ _
    (c.deref.ensures.value ∙ c.in_ok-task_kinds.ensures) (c.deref-2.ensures.value ∙ c.in_ok-task_operands.ensures) in
    record {
      sizes =
          ⊎_elim
          (λ full. clash _ _ (sym full))
          (λ told. inside _ _ (told ∙ sizes_told case (task_in c.load.new.self) t))
          c.in_ok-sizes.ensures.answers;
      kinds = kinds_front case (task_in c.load.new.self) t _ c.instantiate.new.kinds c.in_ok-sizes.ensures.written.0;
      operands = operands_front case (task_in c.load.new.self) t _ c.instantiate.new.operands c.in_ok-sizes.ensures.written.1;
      of_task = c.answers_of_task-of_task.ensures;
      of_book = c.answers_of_book-of_book.ensures;
    }
