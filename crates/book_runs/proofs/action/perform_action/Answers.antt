use Rattle.std.proofs.Common.{cond, List, sym, refl, ap, ◌∙◌, arith}
use Rattle.model.specs.Meaning.{Literal}
use Rattle.model.specs.Books.{find}
use Rattle.book.specs.Held.{held, tree_of}
use Rattle.protocol.specs.Names.{name_of}
use Rattle.protocol.specs.Shown.{shown}
use Rattle.protocol.specs.Steps.{put_step}
use Rattle.book_runs.specs.Runs.{is_taken}
use Rattle.book_runs.proofs.Finding.{none_found}
use Rattle.book_runs.proofs.Actions.{has_place, found_at, precondition_stands, effect_stands, judged_there, literals_there}
use Rattle.book_runs.proofs.action.perform_action.Goals as goal

pub returns-in_default : goal.returns-in_default
returns-in_default g c =
    record {
      size = refl;
      judged = sym (ap (is_taken (shown c.args.image.now)) (none_found 0 (tree_of c.args.book.now).actions (name_of c.args.name) (sym c.in_default.ensures.number)));
      set = refl;
    }

pub unreachable-requires : goal.unreachable-requires
unreachable-requires g c = has_place c.args.book.now (name_of c.args.name) c.in-Some.number c.in-Some.ensures.number c.in_default-action_at.ensures

pub overflow_add-at : goal.overflow_add-at
overflow_add-at g c =
    let b = c.args.book.now in
    let w = found_at b (name_of c.args.name) c.in-Some.number c.in-Some.ensures.number c.in-Some-action_at.at c.in-Some-action_at.ensures in
    omega (arith, w.2.inside, b.table.entries)

pub after_objects-precondition-requires : goal.after_objects-precondition-requires
after_objects-precondition-requires g c =
    (found_at c.args.book.now (name_of c.args.name) c.in-Some.number c.in-Some.ensures.number c.in-Some-action_at.at c.in-Some-action_at.ensures).2.named

pub attempt-requires : goal.attempt-requires
attempt-requires g c =
    let b = c.args.book.now in
    let w = found_at b (name_of c.args.name) c.in-Some.number c.in-Some.ensures.number c.in-Some-action_at.at c.in-Some-action_at.ensures in
    record {
      stands = precondition_stands (held b) c.in-Some-action_at.at c.after_objects-precondition.result w.0 w.2 c.after_objects-precondition.ensures;
      effect = effect_stands (held b) c.in-Some-action_at.at c.after_objects-precondition.result w.0 w.2 c.after_objects-precondition.ensures;
    }

pub returns : goal.returns
returns g c =
    let M = g.S.Store in
    let b = c.args.book.now in
    let v = shown c.args.image.now in
    let o = find (name_of c.args.name) (tree_of b).actions in
    let w = found_at b (name_of c.args.name) c.in-Some.number c.in-Some.ensures.number c.in-Some-action_at.at c.in-Some-action_at.ensures in
    record {
      size = c.attempt.ensures.size;
      judged = c.attempt.ensures.judged ∙ judged_there (held b) c.in-Some-action_at.at c.after_objects-precondition.result w.0 w.2 c.after_objects-precondition.ensures o w.1 v;
      set =
          c.attempt.ensures.set
          ∙ ap (λ (ls : List Literal). cond c.attempt.result (put_step (M.extent c.args.store.now) ls (M.facts c.args.store.now)) (M.facts c.args.store.now))
          (literals_there (held b) c.in-Some-action_at.at c.after_objects-precondition.result w.0 w.2 c.after_objects-precondition.ensures o w.1 v);
    }
