use Rattle.std.proofs.Common.{◌+◌, length, ap, ◌∙◌, arith, rules, ltb-false}
use Rattle.table.specs.Reading.{many}
use Rattle.adl.specs.Held.{held, tree_of}
use Rattle.adl.specs.Reads.{parameter}
use Rattle.runs.proofs.Fittings.{length_others, first_parameter, typed_others}
use Rattle.runs.proofs.fitting.+are_typed.Goals as goal

pub are_typed-requires : goal.are_typed-requires
are_typed-requires t c =
    let xs = c.args.objects.now in
    let p = c.requires in
    let w = first_parameter (held c.args.task.now) (length xs) c.args.at p.0 p.1 (omega (arith, ltb-false)) p.2 in
    (search rules, (w.0, p.1, ap (λ n. many (parameter (held c.args.task.now)) n (c.args.at + 1)) (length_others xs) ∙ w.2))

pub returns-then-is_member : goal.returns-then-is_member
returns-then-is_member t c tys j e =
    let xs = c.args.objects.now in
    let k = c.args.task.now in
    let w = first_parameter (held k) (length xs) c.args.at tys j (omega (arith, ltb-false)) e in
    typed_others (tree_of k) _ tys w.0 xs c.are_typed.result (omega (arith, ltb-false)) w.1 c.if-is_member.ensures
    (c.are_typed.ensures w.0 j (ap (λ n. many (parameter (held k)) n (c.args.at + 1)) (length_others xs) ∙ w.2))
