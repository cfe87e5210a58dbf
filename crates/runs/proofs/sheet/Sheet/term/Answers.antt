use Rattle.std.proofs.Common.{◌≡◌, get_or, sym, ap, ◌∙◌, ⊎_elim, get_or-take, rules}
use Rattle.table.specs.declared.kind.Kind.TheVariants.{Object}
use Rattle.model.specs.Trees.{Term}
use Rattle.model.specs.Meaning.{object_of}
use Rattle.adl.specs.Held.{held}
use Rattle.runs.specs.Shown.{bound}
use Rattle.runs.specs.Standing.{TermAt}
use Rattle.table.proofs.Codes.{other_code}
use Rattle.runs.proofs.Shapes.{term_kind, at_variable}
use Rattle.runs.proofs.Sheets.{within_at}
use Rattle.runs.proofs.sheet.Sheet.term.Goals as goal

-- what is no object is a variable
is-variable : (c : goal.After-result-1) (x : Term) → TermAt (held c.args.self.now.task.now) c.args.self.now.depth c.args.at x → get_or c.args.self.now.task.now.table.entries.kinds.now c.args.at 0 ≡ 11
is-variable c x s = ⊎_elim (λ e. absurd (other_code _ Object c.in_default.not-Object (c.kind_at.ensures ∙ e))) (λ e. e) (term_kind s)

pub returns-in_default : goal.returns-in_default
returns-in_default c =
    let o = get_or c.args.self.now.task.now.table.entries.operands.now c.args.at 0 in
    let objects = c.args.self.now.objects in
    record {
      small =
          let p = c.requires in
          let v = at_variable p.1 (is-variable c p.0 p.1) in
          within_at _ objects c.args.self.now.depth o c.args.self.now.within (search rules) v.1;
      object = λ x s.
          let v = at_variable s (is-variable c x s) in
          sym (ap (object_of (bound c.args.self.now)) v.0 ∙ get_or-take c.args.self.now.depth objects o 0 v.1);
    }
