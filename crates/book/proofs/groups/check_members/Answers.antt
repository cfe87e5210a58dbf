use Rattle.std.proofs.Common.{◌+◌, ◌-◌, Err, sym, ap, ◌∙◌, arith}
use Rattle.fault.specs.declared.Layer.TheVariants as layer
use Rattle.table.proofs.Answering.{series_refused, series_turn, series_over}
use Rattle.book.specs.Groups.{member, after_member}
use Rattle.table.specs.Entries.{coded}
use Rattle.book.specs.Views.{table}
use Rattle.book.proofs.Heading.{handed_back}
use Rattle.book.proofs.Atoms.{member_refused, too_low, among_others, member_goes}
use Rattle.book.proofs.groups.check_members.Goals as goal
use Rattle.book.proofs.groups.check_members.Goals.{then-atom-low-via-then-atom-low, then-atom-low-via-else-atom-low+then-begins_with}

pub returns-in_err-atom : goal.returns-in_err-atom
returns-in_err-atom c =
    let t = table c.args.table.now in
    handed_back c.from_residual.result _ c.from_residual.ensures.1
    ∙ series_refused layer.Book (member t c.args.place c.args.others.atoms.now) after_member (c.args.count - c.loop.counter) c.loop.low c.loop.at c.in_err-atom.field-0.0 (omega arith) (member_refused t c.args.place c.args.others.atoms.now c.loop.low c.loop.at c.in_err-atom.field-0.0 c.in_err-atom.ensures.same)
    ∙ c.loop.invariant.answers

pub returns-then-atom-low : goal.returns-then-atom-low
returns-then-atom-low c =
    let t = table c.args.table.now in
    let e = coded c.in_ok-atom.field-0 in
    let h = c.in_ok-atom.ensures.same in
    ap Err c.new.ensures
    ∙ series_refused layer.Book (member t c.args.place c.args.others.atoms.now) after_member (c.args.count - c.loop.counter) c.loop.low c.loop.at _ (omega arith)
    (elim c.then-atom-low.branch [
      | then-atom-low-via-then-atom-low w ↦ too_low t c.args.place c.args.others.atoms.now c.loop.low c.loop.at e h (omega arith)
      | then-atom-low-via-else-atom-low+then-begins_with w ↦ among_others t c.args.place c.args.others.atoms.now c.loop.low c.loop.at e h (sym (c.loop.invariant.kept e.operand (omega arith)) ∙ sym (c.without_below-others.ensures.kept e.operand (omega arith)) ∙ sym w.begins_with.ensures ∙ w.if-begins_with.true)
    ])
    ∙ c.loop.invariant.answers

pub loop-preserved : goal.loop-preserved
loop-preserved c =
    let t = table c.args.table.now in
    let e = coded c.in_ok-atom.field-0 in
    record {
      answers =
          series_turn layer.Book (member t c.args.place c.args.others.atoms.now) after_member c.args.count c.loop.counter c.loop.low c.loop.at e (c.loop.at + 1) (omega arith)
          (member_goes t c.args.place c.args.others.atoms.now c.loop.low c.loop.at e c.in_ok-atom.ensures.same (omega arith) (sym (c.loop.invariant.kept e.operand (omega arith)) ∙ sym (c.without_below-others.ensures.kept e.operand (omega arith)) ∙ sym c.begins_with.ensures ∙ c.if-begins_with.false))
          ∙ c.loop.invariant.answers;
      kept = λ x l. c.without_below-others.ensures.kept x (omega arith) ∙ c.loop.invariant.kept x (omega arith);
    }

pub returns : goal.returns
returns c =
    sym (series_over layer.Book (member (table c.args.table.now) c.args.place c.args.others.atoms.now) after_member (c.args.count - c.loop.counter) c.loop.low c.loop.at (omega arith))
    ∙ c.loop.invariant.answers
