use Rattle.table.proofs.Lengths.{operands_long}
use Rattle.std.proofs.Common.{◌+◌, sym, ap, ◌∙◌, arith}
use Rattle.table.specs.Reading.{many}
use Rattle.adl.specs.Held.{held, tree_of}
use Rattle.protocol.specs.Names.{name_of}
use Rattle.adl.specs.Reads.{parameter}
use Rattle.adl_theorems.proofs.Standing.{operators_length}
use Rattle.runs.proofs.Fittings.{places_of, no_operator, wrong_number, fits_if_distinct, fits_not, operator_begun}
use Rattle.runs.proofs.fitting.fits.Goals as goal

pub returns-then-name-task : goal.returns-then-name-task
returns-then-name-task c =
    let k = c.args.task.now in
    no_operator (tree_of k) (name_of c.args.name) (omega (arith, operators_length (held k) k.formed))

pub offset_bounds-task-start : goal.offset_bounds-task-start
offset_bounds-task-start c =
    let k = c.args.task.now in
    let r = (operator_begun k c.args.name.operator c.if-name-task.false).1 in
    omega (arith, r.inside, k.table.short)

pub bounds-task-start : goal.bounds-task-start
bounds-task-start c =
    let k = c.args.task.now in
    let r = (operator_begun k c.args.name.operator c.if-name-task.false).1 in
    omega (arith, r.inside, (operands_long k.table.entries k.table.whole))

pub returns-then-task-start : goal.returns-then-task-start
returns-then-task-start c =
    let k = c.args.task.now in
    let r = (operator_begun k c.args.name.operator c.if-name-task.false).1 in
    wrong_number (tree_of k) (name_of c.args.name) (λ e. c.if-task-start.true (r.count ∙ e))

pub overflow_add-start : goal.overflow_add-start
overflow_add-start c =
    let k = c.args.task.now in
    let r = (operator_begun k c.args.name.operator c.if-name-task.false).1 in
    omega (arith, r.inside, k.table.short)

pub are_typed-requires : goal.are_typed-requires
are_typed-requires c =
    let k = c.args.task.now in
    let r = (operator_begun k c.args.name.operator c.if-name-task.false).1 in
    (_, _, ap (λ n. many (parameter (held k)) n ((places_of k c.args.name.operator).start + 1)) (sym c.if-task-start.false) ∙ r.parameters)

pub returns-then-are_typed : goal.returns-then-are_typed
returns-then-are_typed c =
    let k = c.args.task.now in
    let r = (operator_begun k c.args.name.operator c.if-name-task.false).1 in
    let e = ap (λ n. many (parameter (held k)) n ((places_of k c.args.name.operator).start + 1)) (sym c.if-task-start.false) ∙ r.parameters in
    fits_if_distinct (tree_of k) (name_of c.args.name) (omega (arith, operators_length (held k) k.formed)) c.are_distinct.result
    (c.if-are_typed.ensures _ _ e) c.are_distinct.ensures

pub returns-else-are_typed : goal.returns-else-are_typed
returns-else-are_typed c =
    let k = c.args.task.now in
    let r = (operator_begun k c.args.name.operator c.if-name-task.false).1 in
    let e = ap (λ n. many (parameter (held k)) n ((places_of k c.args.name.operator).start + 1)) (sym c.if-task-start.false) ∙ r.parameters in
    c.if-are_typed.false ∙ fits_not (tree_of k) (name_of c.args.name) (omega (arith, operators_length (held k) k.formed)) (c.if-are_typed.ensures _ _ e)
