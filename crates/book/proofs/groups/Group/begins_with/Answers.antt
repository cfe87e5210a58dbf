use Rattle.std.proofs.Common.{ap, ◌∙◌}
use Rattle.std.specs.Prelude.{Some, nat_eq}
use Rattle.std.specs.Option.{option_eq}
use Rattle.book.proofs.Atoms.{has_first}
use Rattle.book.proofs.groups.Group.begins_with.Goals as goal

pub returns : goal.returns
returns c =
    c.eq.ensures
    ∙ ap (λ o. option_eq nat_eq o (Some c.args.atom)) (c.copied.ensures ∙ c.first.ensures.value)
    ∙ has_first c.args.self.now.atoms.now c.args.self.now.rises c.args.atom c.requires
