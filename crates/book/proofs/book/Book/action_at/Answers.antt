use Rattle.std.proofs.Common.{sym, ap, ◌∙◌, subst, arith}
use Rattle.book.specs.Held.{held}
use Rattle.book.specs.Named.{SomeBody, body_end}
use Rattle.book.proofs.Places.{some_action, some_body, next_action}
use Rattle.book.proofs.book.Book.action_at.Goals as goal

pub end_of_name-requires : goal.end_of_name-requires
end_of_name-requires c = some_action (held c.args.self.now) c.args.self.now.formed c.loop.counter c.loop.at (omega arith) c.loop.invariant

pub end_of_body-at-requires : goal.end_of_body-at-requires
end_of_body-at-requires c =
    let t = held c.args.self.now in
    subst (λ x. SomeBody t x) (sym c.end_of_name.ensures) (some_body t c.args.self.now.formed c.loop.counter c.loop.at (omega arith) c.loop.invariant)

pub loop-preserved : goal.loop-preserved
loop-preserved c =
    let t = held c.args.self.now in
    c.end_of_body-at.ensures
    ∙ ap (body_end t) c.end_of_name.ensures
    ∙ next_action t c.args.self.now.formed c.loop.counter c.loop.at (omega arith) c.loop.invariant
