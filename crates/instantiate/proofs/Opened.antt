-- What was written opens as the task's book.
use Rattle.std.proofs.Common.{◌≡◌, ℕ, ◌≤◌, List, length, get_or, map, Ok, sym, ap, ◌∙◌, arith}
use Rattle.std.proofs.lemmas.List.{length-append, length-map}
use Rattle.table.specs.Entries.{coded}
use Rattle.table.specs.Reading.{entry}
use Rattle.table.specs.declared.arrays.Head.{Head}
use Rattle.model.specs.Forming.{WellFormed}
use Rattle.model.specs.Lists.{below}
use Rattle.model.specs.Trees.{Task}
use Rattle.model.specs.Books.{book}
use Rattle.adl_theorems.specs.Writes.{WithinLimits}
use Rattle.book.specs.Opens.{opens, given, book_of}
use Rattle.book.specs.declared.sizes.Sizes.{Sizes}
use Rattle.book_theorems.specs.Writes.{Writes}
use Rattle.book_of_task.proofs.Opening.{books_of_tasks_open}
use Rattle.instantiate.specs.Growing.{over}
use Rattle.instantiate.specs.Outcome.{book_entries, kinds_of, operands_of, most, sizes_of}
use Rattle.instantiate.proofs.Standing.{stands_at_front}

-- an array is at least as long as its front
long_enough : (n : ℕ) (xs old new : List ℕ) → new ≡ over xs old → n ≡ length xs → n ≤ length new
long_enough n xs old new e l = let a = ap length e in omega (arith, a, l, length-append {A = ℕ})

pub opened : (t : Task) → WellFormed t → WithinLimits t → (z : Sizes) → z ≡ sizes_of (book t) → (hs copied : List Head) → copied ≡ hs → map coded hs ≡ book_entries t
    → (ks os ks' os' : List ℕ) → ks' ≡ over (kinds_of (map coded copied)) ks → os' ≡ over (operands_of (map coded copied)) os → length (book_entries t) ≤ most (length ks) (length os)
    → (opens z ks' os' ≡ Ok tt) × (book_of (given z ks' os') ≡ book t)
opened t formed limits z e hs copied same are ks os ks' os' p q fits =
    let es = book_entries t in
    let n : z.entries ≡ length es = ap (λ s. s.entries) e in
    let m : map coded copied ≡ es = ap (map coded) same ∙ are in
    let k : ks' ≡ over (kinds_of es) ks = p ∙ ap (λ xs. over (kinds_of xs) ks) m in
    let o : os' ≡ over (operands_of es) os = q ∙ ap (λ xs. over (operands_of xs) os) m in
    let written : Writes (book t) (given z ks' os') = record {
      atoms = ap (λ s. s.atoms) e;
      relevant = ap (λ s. s.relevant) e;
      always = ap (λ s. s.always) e;
      actions = ap (λ s. s.actions) e;
      entries = (λ i. map (λ j. entry (get_or (k i) j 0) (get_or (o i) j 0)) (below (n i))) ∙ stands_at_front es ks os;
    } in
    books_of_tasks_open t formed limits (omega arith) z ks' os' written
    (long_enough z.entries (kinds_of es) ks ks' k (n ∙ sym (length-map es (λ x. x.kind))))
    (long_enough z.entries (operands_of es) os os' o (n ∙ sym (length-map es (λ x. x.operand))))
