use Rattle.std.proofs.Common.{◌++◌, ◌∷◌, not, map, sym, refl, ap, ◌∙◌, arith, append-nil}
use Rattle.std.proofs.lemmas.Result.{err_from_is_err_and}
use Rattle.table.specs.Entries.{coded}
use Rattle.table.specs.Reading.{entry}
use Rattle.model.specs.Books.{clauses}
use Rattle.model.specs.Lists.{gather}
use Rattle.model.specs.Meaning.{effect_of}
use Rattle.adl.specs.Held.{tree_of}
use Rattle.protocol.specs.Names.{name_of}
use Rattle.book_theorems.specs.Writes.{write_clause}
use Rattle.book_of_task.specs.Clashes.{some_clashes}
use Rattle.runs.specs.Effects.{meant}
use Rattle.runs.specs.Settled.{round_of}
use Rattle.runs.proofs.Sheets.{formula_over, effect_over}
use Rattle.runs.proofs.Turns.{operator_small, objects_few, objects_known, precondition_stands, effect_stands}
use Rattle.runs.proofs.Writing.{told_false, reach_is, reach_none, precondition_left, effect_written, stop_explained, taken_back, group_inside, group_filled, action_joined}
use Rattle.runs.proofs.Extending.{extends_same, extends_after, extends_pushed, entries_extend, draft_by, draft_entries}
use Rattle.runs.proofs.fitting_name.Fitting.append_action.Goals as goal

pub overflow_cast-operator : goal.overflow_cast-operator
overflow_cast-operator c = omega (arith, operator_small c.args.self.now)

pub offset_bounds-task-name : goal.offset_bounds-task-name
offset_bounds-task-name c = omega (arith, operator_small c.args.self.now)

pub bounds-task-name : goal.bounds-task-name
bounds-task-name c = omega (arith, operator_small c.args.self.now)

pub of-requires : goal.of-requires
of-requires c =
    let k = c.args.self.now.task.now in
    let n = name_of c.args.self.now.name in
    record { few = omega (arith, objects_few c.args.self.now); objects = objects_known k n c.args.self.now.fits }

pub simplify-requires : goal.simplify-requires
simplify-requires c =
    let k = c.args.self.now.task.now in
    let n = name_of c.args.self.now.name in
    let e = c.of.ensures in
    (_, _, formula_over c.of.result k n.objects e.task e.depth e.bound (precondition_stands k n c.args.self.now.fits))

pub write_effect-requires : goal.write_effect-requires
write_effect-requires c =
    let k = c.args.self.now.task.now in
    let n = name_of c.args.self.now.name in
    let e = c.of.ensures in
    (_, _, effect_over c.of.result k n.objects e.task e.depth e.bound (effect_stands k n c.args.self.now.fits))

pub returns-then-eq-clause-told : goal.returns-then-eq-clause-told
returns-then-eq-clause-told c =
    let f = c.args.self.now in
    let k = f.task.now in
    let n = name_of f.name in
    let e = c.of.ensures in
    let l = precondition_left c.of.result c.args.verdicts k n f.fits e.task e.depth e.bound _ _ _ _ c.in_ok-truth.ensures in
    ap not (c.if-eq.ensures ∙ told_false _ _ l.truth)

pub returns-then-eq-clause-wrote : goal.returns-then-eq-clause-wrote
returns-then-eq-clause-wrote c =
    let f = c.args.self.now in
    let k = f.task.now in
    let n = name_of f.name in
    let e = c.of.ensures in
    let l = precondition_left c.of.result c.args.verdicts k n f.fits e.task e.depth e.bound _ _ _ _ c.in_ok-truth.ensures in
    record {
      entries = taken_back _ _ _ _ _ _ _ (c.len-start.ensures ∙ c.args.draft.now.entries.ok.0) c.in_ok-write_name.ensures l.entries c.truncate.ensures.items;
      literals = sym (append-nil _) ∙ ap (λ ls. map meant c.args.draft.now.literals.items ++ ls) (reach_none (tree_of k) (round_of c.args.verdicts.now) n (c.if-eq.ensures ∙ told_false _ _ l.truth));
    }

pub returns-then-eq-clause-clear : goal.returns-then-eq-clause-clear
returns-then-eq-clause-clear c =
    let f = c.args.self.now in
    let k = f.task.now in
    let n = name_of f.name in
    let r = round_of c.args.verdicts.now in
    let e = c.of.ensures in
    let l = precondition_left c.of.result c.args.verdicts k n f.fits e.task e.depth e.bound _ _ _ _ c.in_ok-truth.ensures in
    ap (some_clashes r) (sym (reach_none (tree_of k) r n (c.if-eq.ensures ∙ told_false _ _ l.truth)))

pub index_mut-requires : goal.index_mut-requires
index_mut-requires c =
    let f = c.args.self.now in
    let k = f.task.now in
    let n = name_of f.name in
    let e = c.of.ensures in
    let l = precondition_left c.of.result c.args.verdicts k n f.fits e.task e.depth e.bound _ _ _ _ c.in_ok-truth.ensures in
    let p = effect_written c.of.result c.args.verdicts k n f.fits e.task e.depth e.bound _ _ _ _ c.in_ok-written.ensures.wrote in
    omega (arith, group_inside _ _ _ _ _ (c.len-group.ensures ∙ c.write_known.new.out.ok.0) c.in_ok-write.ensures p.0.entries, c.write_effect.new.draft.entries.ok.0)

pub returns-clause-told : goal.returns-clause-told
returns-clause-told c =
    let f = c.args.self.now in
    let k = f.task.now in
    let n = name_of f.name in
    let e = c.of.ensures in
    let l = precondition_left c.of.result c.args.verdicts k n f.fits e.task e.depth e.bound _ _ _ _ c.in_ok-truth.ensures in
    ap not (c.if-eq.ensures ∙ told_false _ _ l.truth)

pub returns-clause-wrote : goal.returns-clause-wrote
returns-clause-wrote c =
    let f = c.args.self.now in
    let k = f.task.now in
    let n = name_of f.name in
    let e = c.of.ensures in
    let l = precondition_left c.of.result c.args.verdicts k n f.fits e.task e.depth e.bound _ _ _ _ c.in_ok-truth.ensures in
    let p = effect_written c.of.result c.args.verdicts k n f.fits e.task e.depth e.bound _ _ _ _ c.in_ok-written.ensures.wrote in
    record {
      entries = action_joined _ _ _ _ _ _ _ c.in_ok-write_name.ensures (c.in_ok-write_known.ensures _ _ l)
          (group_filled _ _ _ _ _ (c.len-group.ensures ∙ c.write_known.new.out.ok.0) c.in_ok-write.ensures p.0.entries c.in_ok-written.written c.index_mut.result.now c.index_mut.ensures.value
          ∙ ap (λ m. map coded c.write_known.new.out.items ++ (entry 5 m ∷ gather write_clause (clauses (tree_of k) (round_of c.args.verdicts.now) (effect_of (tree_of k) n)))) p.1);
      literals = p.0.literals ∙ ap (λ ls. map meant c.args.draft.now.literals.items ++ ls) (reach_is (tree_of k) (round_of c.args.verdicts.now) n (c.if-eq.ensures ∙ told_false _ _ l.truth));
    }

pub returns-clause-clear : goal.returns-clause-clear
returns-clause-clear c =
    let f = c.args.self.now in
    let k = f.task.now in
    let n = name_of f.name in
    let r = round_of c.args.verdicts.now in
    let e = c.of.ensures in
    let l = precondition_left c.of.result c.args.verdicts k n f.fits e.task e.depth e.bound _ _ _ _ c.in_ok-truth.ensures in
    let p = effect_written c.of.result c.args.verdicts k n f.fits e.task e.depth e.bound _ _ _ _ c.in_ok-written.ensures.wrote in
    ap (some_clashes r) (sym (reach_is (tree_of k) r n (c.if-eq.ensures ∙ told_false _ _ l.truth))) ∙ p.2

pub returns-in_err-written-clause-stopped : goal.returns-in_err-written-clause-stopped
returns-in_err-written-clause-stopped c =
    let f = c.args.self.now in
    let k = f.task.now in
    let n = name_of f.name in
    let e = c.of.ensures in
    let l = precondition_left c.of.result c.args.verdicts k n f.fits e.task e.depth e.bound _ _ _ _ c.in_ok-truth.ensures in
    let p = err_from_is_err_and c.from_residual-in_err-written.result c.from_residual-in_err-written.ensures.1 in
    rw (p.1, p.2) (stop_explained c.of.result c.args.verdicts k n f.fits e.task e.depth e.bound _ (c.if-eq.ensures ∙ told_false _ _ l.truth) c.in_err-written.ensures.stopped)

pub returns-in_err-write_known-clause-extends : goal.returns-in_err-write_known-clause-extends
returns-in_err-write_known-clause-extends c =
    let f = c.args.self.now in
    let k = f.task.now in
    let n = name_of f.name in
    let e = c.of.ensures in
    let l = precondition_left c.of.result c.args.verdicts k n f.fits e.task e.depth e.bound _ _ _ _ c.in_ok-truth.ensures in
    let p = err_from_is_err_and c.from_residual-in_err-write_known.result c.from_residual-in_err-write_known.ensures.1 in
    rw p.1 (draft_entries (extends_after _ c.in_ok-write_name.ensures (extends_after _ l.entries (extends_same c.in_err-write_known.ensures))) refl)

pub returns-in_err-write-clause-extends : goal.returns-in_err-write-clause-extends
returns-in_err-write-clause-extends c =
    let f = c.args.self.now in
    let k = f.task.now in
    let n = name_of f.name in
    let e = c.of.ensures in
    let l = precondition_left c.of.result c.args.verdicts k n f.fits e.task e.depth e.bound _ _ _ _ c.in_ok-truth.ensures in
    let p = err_from_is_err_and c.from_residual-in_err-write.result c.from_residual-in_err-write.ensures.1 in
    rw p.1 (draft_entries (extends_after _ c.in_ok-write_name.ensures (extends_after _ (c.in_ok-write_known.ensures _ _ l) (extends_same c.in_err-write.ensures))) refl)

pub returns-in_err-written-clause-extends : goal.returns-in_err-written-clause-extends
returns-in_err-written-clause-extends c =
    let f = c.args.self.now in
    let k = f.task.now in
    let n = name_of f.name in
    let e = c.of.ensures in
    let l = precondition_left c.of.result c.args.verdicts k n f.fits e.task e.depth e.bound _ _ _ _ c.in_ok-truth.ensures in
    let d = c.in_err-written.ensures.extends in
    let p = err_from_is_err_and c.from_residual-in_err-written.result c.from_residual-in_err-written.ensures.1 in
    rw p.1 (draft_by _ (extends_after _ c.in_ok-write_name.ensures (extends_after _ (c.in_ok-write_known.ensures _ _ l) (extends_pushed _ c.in_ok-write.ensures (entries_extend d)))) d.appends.literals)
