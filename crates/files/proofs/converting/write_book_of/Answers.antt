use Rattle.std.proofs.Common.{take, sym, ap, subst₂, inr, ⊎_elim}
use Rattle.std.specs.Result.{is_ok}
use Rattle.model.proofs.Values.{clash}
use Rattle.adl.specs.Held.{held as held_table, tree_of}
use Rattle.adl_theorems.proofs.Sound.{records_within_limits}
use Rattle.adl_theorems.proofs.WellFormed.{loaded_tasks_are_well_formed}
use Rattle.std.proofs.lemmas.Result.{IfOk-weaker}
use Rattle.files.specs.Converting.{size_list}
use Rattle.files.specs.Theorems.{Tells}
use Rattle.files.proofs.Booked.{sizes_told, kinds_at_front, operands_at_front, as_file, renamed, answered, held}
use Rattle.files.proofs.converting.write_book_of.Goals as goal

pub returns-clause-answers : goal.returns-clause-answers
returns-clause-answers c =
    let told = ⊎_elim (λ e. clash (sym (ap is_ok e))) (λ e. e) c.in_ok-sizes.ensures.answers in
    inr (answered (tree_of c.args.task.now) c.in_ok-sizes.sizes _ _ _ _ _ c.write_book_file.ensures.answers told)

pub returns-clause-written : goal.returns-clause-written
returns-clause-written c =
    let t = tree_of c.args.task.now in
    let z = c.in_ok-sizes.sizes in
    let told = ⊎_elim (λ e. clash (sym (ap is_ok e))) (λ e. e) c.in_ok-sizes.ensures.answers in
    let (e, short) = sizes_told t _ _ _ z told in
    let (kinds, operands) = c.in_ok-sizes.ensures.written in
    let same = as_file t z _ _ e (kinds_at_front t z _ _ e kinds) (operands_at_front t z _ _ e operands) in
    renamed c.write_book_file.result _ c.args.output.now _ _ same c.write_book_file.ensures.written

pub returns-clause-opens : goal.returns-clause-opens
returns-clause-opens c =
    let k = c.args.task.now in
    let t = tree_of k in
    let z = c.in_ok-sizes.sizes in
    let told = ⊎_elim (λ e. clash (sym (ap is_ok e))) (λ e. e) c.in_ok-sizes.ensures.answers in
    let (e, short) = sizes_told t _ _ _ z told in
    let (kinds, operands) = c.in_ok-sizes.ensures.written in
    IfOk-weaker _ _ _
    (λ n tells. held t (loaded_tasks_are_well_formed (held_table k) k.formed) (records_within_limits k) z _ e short
    (subst₂ (λ ks os. Tells (size_list z) ks os (take n c.write_book_file.new.output)) (kinds_at_front t z _ _ e kinds) (operands_at_front t z _ _ e operands) tells))
    c.write_book_file.ensures.tells
