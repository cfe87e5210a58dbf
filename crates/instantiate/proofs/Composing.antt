-- A book that was put together: its entries, one group after another.
use Rattle.std.proofs.Common.{◌≡◌, ℕ, ◌<◌, List, [], ◌++◌, map, length, ap, ◌∙◌, subst, arith}
use Rattle.std.proofs.lemmas.List.{append_assoc}
use Rattle.fault.specs.declared.Cause.TheVariants.{BookTooLong}
use Rattle.fault.specs.declared.Fault.{Fault}
use Rattle.fault.specs.declared.Layer.TheVariants as layer
use Rattle.fault.specs.Faults.{refusal, writing_cause}
use Rattle.table.specs.Entries.{coded}
use Rattle.table.specs.Reading.{Entry, entry}
use Rattle.table.specs.declared.arrays.Head.{Head}
use Rattle.model.specs.Lists.{gather}
use Rattle.model.specs.Trees.{Task}
use Rattle.model.specs.Settling.{names, round_two}
use Rattle.model.specs.Books.{Book, actions, book}
use Rattle.book.specs.declared.sizes.Sizes.{Sizes}
use Rattle.book_theorems.specs.Writes.{write_start, write_ground, write_action, write_book}
use Rattle.instantiate.specs.declared.growing.Growing.{Growing}
use Rattle.instantiate.specs.Growing.{Grown}
use Rattle.instantiate.specs.Outcome.{book_entries, preface_entries, sizes_of}
use Rattle.instantiate.specs.Refusals.{TooLong}

-- the actions of a task's book, written out
abbrev pub action_entries : Task → List Entry
action_entries t = gather write_action (actions t (round_two t) (names t))

whole_book : (t : Task) → preface_entries t ++ action_entries t ≡ book_entries t
unfolding write_book
whole_book t =
    let starts = map write_start (book t).relevant in
    let always = map (entry 21) (book t).always in
    let goal = write_ground (book t).goal in
    append_assoc starts (always ++ goal) (action_entries t) ∙ ap (λ es. starts ++ es) (append_assoc always goal (action_entries t))

pub book_grown : (t : Task) (begun filled full : Growing) (old draft finished : List Head) → old ≡ [] → map coded draft ≡ map coded old ++ preface_entries t → finished ≡ draft
    → Grown [] begun → ((es : List Entry) → Grown es begun → Grown (es ++ map coded finished) filled)
    → ((es : List Entry) → Grown es filled → Grown (es ++ action_entries t) full) → Grown (book_entries t) full
book_grown t begun filled full old draft finished cleared wrote same empty first then =
    let e : map coded finished ++ action_entries t ≡ book_entries t =
    ap (λ es. map coded es ++ action_entries t) same ∙ ap (λ es. es ++ action_entries t) (wrote ∙ ap (λ hs. map coded hs ++ preface_entries t) cleared) ∙ whole_book t in
    subst (λ (es : List Entry). Grown es full) e (then (map coded finished) (first [] empty))

-- a book that is too long
pub told_too_long : (n total : ℕ) (es : List Entry) (f : Fault) → f ≡ record { cause = BookTooLong; layer = layer.Book; place = total } → total ≡ length es → n < total → TooLong n es f
unfolding writing_cause
told_too_long n total es f is count more = (is ∙ ap (refusal 11 layer.Book) count, omega arith)

-- the sizes that are told
pub same_sizes : {a r w n e : ℕ} (b : Book) → a ≡ b.atoms → r ≡ length b.relevant → w ≡ length b.always → n ≡ length b.actions → e ≡ length (write_book b)
    → ◌≡◌ {A = Sizes} (record { atoms = a; relevant = r; always = w; actions = n; entries = e }) (sizes_of b)
same_sizes b p q r s e = λ i. record { atoms = p i; relevant = q i; always = r i; actions = s i; entries = e i }
