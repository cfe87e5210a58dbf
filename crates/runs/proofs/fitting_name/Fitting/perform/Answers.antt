use Rattle.std.proofs.Common.{cond, List, ap, ◌∙◌, arith}
use Rattle.model.specs.Meaning.{Literal, operator_of, precondition_of}
use Rattle.adl.specs.Held.{tree_of}
use Rattle.protocol.specs.Shown.{shown}
use Rattle.protocol.specs.Steps.{put_step}
use Rattle.runs.proofs.Sheets.{formula_over, effect_over, value_over, literals_over}
use Rattle.protocol.specs.Names.{name_of}
use Rattle.runs.proofs.Turns.{operator_small, objects_few, objects_known, precondition_stands, effect_stands}
use Rattle.runs.proofs.fitting_name.Fitting.perform.Goals as goal

pub overflow_cast-operator : goal.overflow_cast-operator
overflow_cast-operator g c = omega (arith, operator_small c.args.self.now)

pub offset_bounds-task-name : goal.offset_bounds-task-name
offset_bounds-task-name g c = omega (arith, operator_small c.args.self.now)

pub bounds-task-name : goal.bounds-task-name
bounds-task-name g c = omega (arith, operator_small c.args.self.now)

pub of-sheet-requires : goal.of-sheet-requires
of-sheet-requires g c =
    let k = c.args.self.now.task.now in
    let n = name_of c.args.self.now.name in
    record { few = omega (arith, objects_few c.args.self.now); objects = objects_known k n c.args.self.now.fits }

pub attempt-requires : goal.attempt-requires
attempt-requires g c =
    let k = c.args.self.now.task.now in
    let n = name_of c.args.self.now.name in
    let e = c.of-sheet.ensures in
    record {
      stands = (_, _, formula_over c.of-sheet.result k n.objects e.task e.depth e.bound (precondition_stands k n c.args.self.now.fits));
      effect = (_, _, effect_over c.of-sheet.result k n.objects e.task e.depth e.bound (effect_stands k n c.args.self.now.fits));
    }

pub returns : goal.returns
returns g c =
    let k = c.args.self.now.task.now in
    let n = name_of c.args.self.now.name in
    let e = c.of-sheet.ensures in
    let m = g.S.Store in
    record {
      size = c.attempt.ensures.size;
      judged = c.attempt.ensures.judged _ _ (formula_over c.of-sheet.result k n.objects e.task e.depth e.bound (precondition_stands k n c.args.self.now.fits)) ∙ value_over c.of-sheet.result k n.objects e.task e.depth e.bound (shown c.args.image.now) (precondition_of (tree_of k) n);
      set = c.attempt.ensures.set _ _ (effect_over c.of-sheet.result k n.objects e.task e.depth e.bound (effect_stands k n c.args.self.now.fits))
          ∙ ap (λ (ls : List Literal). cond c.attempt.result (put_step (m.extent c.args.store.now) ls (m.facts c.args.store.now)) (m.facts c.args.store.now)) (literals_over c.of-sheet.result k n.objects e.task e.depth e.bound (shown c.args.image.now) (operator_of (tree_of k) n.operator).effect);
    }
