use Rattle.std.proofs.Common.{◌≡◌, ◌+◌, ◌++◌, [], length, refl, sym, ap, subst, ◌∙◌, ◌*◌, take, drop, arith}
use Rattle.std.proofs.lemmas.List.{append_assoc, length-append, take_at}
use Rattle.instantiate.specs.Growing.{over}
use Rattle.files.specs.Formats.{bytes_of, laid_out}
use Rattle.files.specs.Converting.{size_list}
use Rattle.files.specs.Theorems.{Tells}
use Rattle.files.proofs.Bytes.{laid_length}
use Rattle.files.proofs.ReadBack.{written_is_read_back}
use Rattle.files.proofs.writing.write_book_file.Goals as goal

pub returns-clause-written : goal.returns-clause-written
unfolding laid_out
returns-clause-written c =
    let before = c.args.output.now in
    let sizes = bytes_of (size_list c.args.sizes) in
    let kinds = c.args.kinds.now in
    let start : c.append_numbers-kinds_at.result ≡ 20 = c.append_numbers-kinds_at.ensures.next in
    let one : c.append_numbers-kinds_at.new.output ≡ over sizes before = c.append_numbers-kinds_at.ensures.wrote [] before refl refl in
    let two : c.append.new.output ≡ over (sizes ++ kinds) before = c.append.ensures sizes before (sym start) one in
    c.append_numbers.ensures.wrote (sizes ++ kinds) before (length-append sizes kinds ∙ ap (λ k. k + length kinds) (sym start)) two
    ∙ ap (λ bs. over bs before) (append_assoc sizes kinds (bytes_of c.args.operands.now))

pub returns-clause-tells : goal.returns-clause-tells
returns-clause-tells c =
    let sizes = size_list c.args.sizes in
    let ks = c.args.kinds.now in
    let os = c.args.operands.now in
    let same : length ks ≡ length os = c.requires.kinds ∙ sym c.requires.operands in
    let front : take (20 + 5 * length ks) c.append_numbers.new.output ≡ laid_out sizes ks os =
    ap (take (20 + 5 * length ks)) (returns-clause-written c)
    ∙ take_at (laid_out sizes ks os) (drop (length (laid_out sizes ks os)) c.args.output.now) (20 + 5 * length ks) (laid_length sizes ks os same) in
    subst (Tells sizes ks os) (sym front)
    (written_is_read_back sizes ks os (omega arith) c.append_numbers-kinds_at.ensures.small c.append_numbers.ensures.small (sym c.requires.kinds) same)
