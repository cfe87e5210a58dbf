-- The file of a task's book.
use Rattle.std.proofs.Common.{◌≡◌, ℕ, ◌+◌, ◌*◌, ◌≤◌, Bool, true, false, cond, ltb, List, [], ◌++◌, map, length, get_or, take, Ok, Err, Result, sym, refl, ap, ◌∙◌, subst, arith}
use Rattle.std.specs.Result.{MatchResult, is_ok}
use Rattle.std.proofs.Math.Option.{Option, some, none}
use Rattle.std.proofs.lemmas.Bool.{ltb-false}
use Rattle.std.proofs.lemmas.List.{take_at, append-nil, drop_all, length-map}
use Rattle.fault.specs.declared.Fault.{Fault}
use Rattle.fault.specs.declared.Layer.TheVariants.{File}
use Rattle.fault.specs.Faults.{refusal}
use Rattle.table.specs.Reading.{Entry, entry}
use Rattle.model.specs.Forming.{WellFormed}
use Rattle.model.specs.Lists.{below}
use Rattle.model.specs.Trees.{Task}
use Rattle.model.specs.Books.{book}
use Rattle.model.proofs.Values.{clash}
use Rattle.adl_theorems.specs.Writes.{WithinLimits}
use Rattle.book.specs.Opens.{opens, given, book_of}
use Rattle.book.specs.declared.sizes.Sizes.{Sizes}
use Rattle.book_theorems.specs.Writes.{Writes}
use Rattle.book_of_task.proofs.Opening.{books_of_tasks_open}
use Rattle.instantiate.specs.Growing.{over}
use Rattle.instantiate.specs.Outcome.{book_entries, kinds_of, operands_of, most, sizes_of, instantiates, unless_clash}
use Rattle.instantiate.proofs.Standing.{stands_at_front}
use Rattle.files.specs.Formats.{kinds_told, laid_out, operands_told}
use Rattle.files.specs.Converting.{HoldsBook, before, book_file, book_sizes, size_list, writes_file}
use Rattle.files.specs.Theorems.{Tells}
use Rattle.files.proofs.Bytes.{laid_length}
use Rattle.files.proofs.Opening.{five_sizes}

value_or : {T E : Type 0} → T → Result T E → T
value_or d (Ok x) = x
value_or d (Err y) = d

-- such an answer is no refusal
told : (b c : Bool) (o : Option ℕ) (f g : Fault) (x z : Sizes) → Ok z ≡ cond b (Err f) (unless_clash o (cond c (Err g) (Ok x))) → (z ≡ x) × (c ≡ false)
unfolding value_or
told true c o f g x z h = clash (sym (ap is_ok h))
told false c (some p) f g x z h = clash (sym (ap is_ok h))
told false true none f g x z h = clash (sym (ap is_ok h))
told false false none f g x z h = (ap (value_or z) h, refl)

-- instantiating that is not refused tells the sizes of the book, which has no more entries than a book may have
pub sizes_told : (t : Task) (room ks os : ℕ) (z : Sizes) → Ok z ≡ instantiates t room ks os → (z ≡ sizes_of (book t)) × (length (book_entries t) ≤ 1048576)
sizes_told t room ks os z h =
    let (sizes, fits) = told _ (ltb (most ks os) (length (book_entries t))) _ _ _ (sizes_of (book t)) z h in
    (sizes, omega (arith, ltb-false (most ks os) (length (book_entries t)) fits))

-- the front of an array into which entries were written
pub front : (xs old now : List ℕ) (n : ℕ) → now ≡ over xs old → n ≡ length xs → take n now ≡ xs
front xs old now n h e = ap (take n) h ∙ take_at xs _ n (sym e)

-- what stands at the front of the arrays is the book's kinds and operands
pub kinds_at_front : (t : Task) (z : Sizes) (ks ks' : List ℕ) → z ≡ sizes_of (book t) → ks' ≡ over (kinds_of (book_entries t)) ks → take z.entries ks' ≡ kinds_of (book_entries t)
kinds_at_front t z ks ks' e k = front (kinds_of (book_entries t)) ks ks' z.entries k (ap (λ x. x.entries) e ∙ sym (length-map (book_entries t) (λ (x : Entry). x.kind)))

pub operands_at_front : (t : Task) (z : Sizes) (os os' : List ℕ) → z ≡ sizes_of (book t) → os' ≡ over (operands_of (book_entries t)) os → take z.entries os' ≡ operands_of (book_entries t)
operands_at_front t z os os' e o = front (operands_of (book_entries t)) os os' z.entries o (ap (λ x. x.entries) e ∙ sym (length-map (book_entries t) (λ (x : Entry). x.operand)))

-- what was written is the book's file
pub as_file : (t : Task) (z : Sizes) (ks os : List ℕ) → z ≡ sizes_of (book t) → ks ≡ kinds_of (book_entries t) → os ≡ operands_of (book_entries t) → laid_out (size_list z) ks os ≡ book_file t
as_file t z ks os e k o =
    let sizes = size_list (sizes_of (book t)) in
    ap (λ x. laid_out (size_list x) ks os) e ∙ ap (λ x. laid_out sizes x os) k ∙ ap (laid_out sizes (kinds_of (book_entries t))) o

-- what is written, by another name
pub renamed : (r : Result ℕ Fault) (now before f g : List ℕ) → f ≡ g → MatchResult r (λ _. now ≡ over f before) (λ _. now ≡ before)
    → MatchResult r (λ _. now ≡ over g before) (λ _. now ≡ before)
renamed r now before f g e h = subst (λ x. MatchResult r (λ _. now ≡ over x before) (λ _. now ≡ before)) e h

pub file_length : (t : Task) → length (book_file t) ≡ 20 + 5 * (sizes_of (book t)).entries
file_length t =
    let es = book_entries t in
    let ks : length (kinds_of es) ≡ length es = length-map es (λ (e : Entry). e.kind) in
    laid_length (size_list (sizes_of (book t))) (kinds_of es) (operands_of es) (ks ∙ sym (length-map es (λ (e : Entry). e.operand))) ∙ ap (λ n. 20 + 5 * n) ks

-- what writing it answers
pub answered : (t : Task) (z : Sizes) (a b c out : ℕ) (r : Result ℕ Fault) → r ≡ cond (ltb out (20 + 5 * z.entries)) (Err (refusal 14 File (20 + 5 * z.entries))) (Ok (20 + 5 * z.entries))
    → Ok z ≡ instantiates t a b c → r ≡ writes_file t a b c out
answered t z a b c out r is h =
    let l : 20 + 5 * z.entries ≡ length (book_file t) = ap (λ x. 20 + 5 * x.entries) (sizes_told t a b c z h).0 ∙ sym (file_length t) in
    is ∙ ap (λ n. cond (ltb out n) (Err (refusal 14 File n)) (Ok n)) l ∙ ap (λ x. before x (cond (ltb out (length (book_file t))) (Err (refusal 14 File (length (book_file t)))) (Ok (length (book_file t))))) h

over_nothing : (xs : List ℕ) → over xs [] ≡ xs
over_nothing xs = ap (λ rest. xs ++ rest) (drop_all (length xs) [] (omega arith)) ∙ append-nil xs

-- the entries stand in their two lists
stands : (es : List Entry) → map (λ k. entry (get_or (kinds_of es) k 0) (get_or (operands_of es) k 0)) (below (length es)) ≡ es
stands es =
    ap (λ xs. map (λ k. entry (get_or xs k 0) (get_or (operands_of es) k 0)) (below (length es))) (sym (over_nothing (kinds_of es)))
    ∙ ap (λ xs. map (λ k. entry (get_or (over (kinds_of es) []) k 0) (get_or xs k 0)) (below (length es))) (sym (over_nothing (operands_of es)))
    ∙ stands_at_front es [] []

-- what it tells is the task's book, and opens
pub held : (t : Task) → WellFormed t → WithinLimits t → (z : Sizes) (bytes : List ℕ) → z ≡ sizes_of (book t) → length (book_entries t) ≤ 1048576
    → Tells (size_list z) (kinds_of (book_entries t)) (operands_of (book_entries t)) bytes → HoldsBook bytes (book t)
held t formed limits z bytes e short tells =
    let es = book_entries t in
    let z' : z ≡ book_sizes bytes = five_sizes bytes (size_list z) (sym tells.sizes_read) in
    let ks = kinds_of es in
    let os = operands_of es in
    let n : z.entries ≡ length es = ap (λ x. x.entries) e in
    let written : Writes (book t) (given z ks os) = record {
      atoms = ap (λ x. x.atoms) e;
      relevant = ap (λ x. x.relevant) e;
      always = ap (λ x. x.always) e;
      actions = ap (λ x. x.actions) e;
      entries = ap (λ k. map (λ i. entry (get_or ks i 0) (get_or os i 0)) (below k)) n ∙ stands es;
    } in
    let (opens_so, is_so) = books_of_tasks_open t formed limits short z ks os written
    (omega (arith, n, length-map es (λ (x : Entry). x.kind))) (omega (arith, n, length-map es (λ (x : Entry). x.operand))) in
    record {
      fits = tells.length_fits;
      opens =
          ap (λ x. opens x (kinds_told 5 bytes) (operands_told 5 bytes)) (sym z')
          ∙ ap (λ x. opens z x (operands_told 5 bytes)) tells.kinds_read
          ∙ ap (opens z ks) tells.operands_read
          ∙ opens_so;
      book =
          ap (λ x. book_of (given x (kinds_told 5 bytes) (operands_told 5 bytes))) (sym z')
          ∙ ap (λ x. book_of (given z x (operands_told 5 bytes))) tells.kinds_read
          ∙ ap (λ x. book_of (given z ks x)) tells.operands_read
          ∙ is_so;
    }
