use Rattle.std.proofs.Common.{rules, ◌++◌, ◌<◌, sym, subst, ◌∙◌, inl, inr}
use Rattle.adl.specs.Held.{held, tree_of}
use Rattle.adl_theorems.proofs.WellFormed.{loaded_tasks_are_well_formed}
use Rattle.protocol.specs.Names.{name_of}
use Rattle.rising.specs.Items.{items, room}
use Rattle.instantiate.specs.Listing.{different, Lists}
use Rattle.instantiate.proofs.Endings.{at_failure, if_failed, if_done, told_short}
use Rattle.instantiate.proofs.Clashes.{stopped_in_one}
use Rattle.instantiate.proofs.Gathering.{drafted}
use Rattle.instantiate.proofs.listing.list_one.Goals as goal

pub returns-in_err-write_action-clause-held : goal.returns-in_err-write_action-clause-held
returns-in_err-write_action-clause-held c = λ ls h.
    let f = c.args.fitting.now in
    at_failure _ _ _ c.from_residual.result c.from_residual.ensures.1
    (λ y e. inl (e ∙ stopped_in_one (tree_of f.task.now) (loaded_tasks_are_well_formed (held f.task.now) f.task.now.formed) _ _ f.fits c.requires _ c.in_err-write_action.ensures.stopped))

pub returns-then-is_err-clause-held : goal.returns-then-is_err-clause-held
returns-then-is_err-clause-held c = λ ls h. let f = c.args.fitting.now in inr (
  told_short _ _ _ c.new.ensures (c.places.ensures ∙ c.note_all.ensures.places),
  subst (λ z. room c.args.listed.now < different (ls ++ z))
      (drafted (tree_of f.task.now) _ c.requires (name_of f.name) _ _ _ c.in_ok-write_action.ensures.wrote (search rules) _ c.deref.ensures.value)
      (if_failed _ _ c.note_all.result (sym c.if-is_err.ensures.value) (c.note_all.ensures.held ls h)),
)

pub returns-clause-held : goal.returns-clause-held
returns-clause-held c = λ ls h.
    let f = c.args.fitting.now in
    subst (λ z. Lists (items c.note_all.new.listed) (ls ++ z))
    (drafted (tree_of f.task.now) _ c.requires (name_of f.name) _ _ _ c.in_ok-write_action.ensures.wrote (search rules) _ c.deref.ensures.value)
    (if_done _ _ c.note_all.result (sym c.if-is_err.ensures.value) (c.note_all.ensures.held ls h))
