-- A book that is written out in a table is read from it, and opens.
use Rattle.std.proofs.Common.{◌≡◌, ℕ, ◌+◌, ◌<◌, ◌≤◌, Bool, true, false, ◌||◌, eqb, ltb, List, [], ◌∷◌, ◌++◌, map, length, take, Ok, sym, refl, ap, ◌∙◌, subst, arith}
use Rattle.std.proofs.lemmas.Bool.{le-ltb, le-leb, ne_eqb, or_from}
use Rattle.std.proofs.lemmas.List.{length-map}
use Rattle.fault.specs.declared.Layer.TheVariants as layer
use Rattle.table.specs.Reading.{Entry, entry, good, then, unless, series}
use Rattle.table.specs.Answers.{done, refuse_if, and_then}
use Rattle.model.specs.Lists.{has, gather}
use Rattle.model.specs.Forming.{Each, Within}
use Rattle.model.specs.Trees.{Name}
use Rattle.model.specs.Settling.{Ground}
use Rattle.model.specs.Books as tree
use Rattle.model.specs.Opening.{KnownGround, KnownAction}
use Rattle.book.specs.Tables.{Table, most_levels, most_names}
use Rattle.book.specs.Reads.{start, after_start, starts_in, always_true, after_atom, always_in, ground, precedes, listed, action, after_action, actions_in, book}
use Rattle.book.specs.Opens.{sizes_fit, lengths_fit, given, book_in}
use Rattle.book.specs.declared.sizes.Sizes.{Sizes}
use Rattle.book.proofs.Standing.{at_end, after_goal, after_always, after_starts, book_parts, atoms_of_starts}
use Rattle.book_theorems.specs.Writes.{write_ground, write_action, write_start, write_book, Writes, WithinLimits}
use Rattle.book_theorems.specs.Theorems.{WellFormed, WhatIsWrittenOpens}
use Rattle.book_theorems.proofs.Written.{Written, written_whole, written_split}
use Rattle.book_theorems.proofs.Reading.{begins, ground_reads, actions_read, starts_read, always_read}

-- what holds of everything holds of each element
each_all : {A : Type 0} (P : A → Type 0) → ((x : A) → P x) → (xs : List A) → Each P xs
each_all P h [] = tt
each_all P h (x ∷ xs) = (h x, each_all P h xs)

-- a formula has an entry
ground_entries : (g : Ground) → 0 < length (write_ground g)
ground_entries g = let f = begins g in omega (arith, ap length f.is)

-- The whole book.
module _ (x : tree.Book) (formed : WellFormed x) (limits : WithinLimits x) (t : Table) (w : Writes x t) (long : t.entries ≤ length t.operands) where
  -- the entries of its parts
  abbrev starts_part : List Entry
  starts_part = map write_start x.relevant

  abbrev always_part : List Entry
  always_part = map (entry 21) x.always

  abbrev goal_part : List Entry
  goal_part = write_ground x.goal

  abbrev actions_part : List Entry
  actions_part = gather write_action x.actions

  -- where the parts after the first begin
  abbrev goal_from : ℕ
  goal_from = t.relevant + length always_part

  abbrev actions_from : ℕ
  actions_from = goal_from + length goal_part

  -- the whole stands in the table
  all_written : Written t (write_book x) 0 t.entries
  all_written = written_whole t (write_book x) w.entries

  -- every part stands at its place
  record PartsWritten : Type 0 where
    starts : Written t starts_part 0 t.relevant
    always : Written t always_part t.relevant goal_from
    goal : Written t goal_part goal_from actions_from
    actions : Written t actions_part actions_from t.entries

  -- since the parts follow one another in the whole
  parts_written : PartsWritten
  unfolding write_book
  parts_written =
      let from_goal : List Entry = goal_part ++ actions_part in
      let from_always : List Entry = always_part ++ from_goal in
      let n : 0 + length starts_part ≡ t.relevant = omega (arith, length-map x.relevant write_start, w.relevant) in
      let a = written_split t starts_part from_always 0 t.entries all_written in
      let b = written_split t always_part from_goal t.relevant t.entries (subst (λ i. Written t from_always i t.entries) n a.1) in
      let c = written_split t goal_part actions_part goal_from t.entries b.1 in
      record { starts = subst (λ j. Written t starts_part 0 j) n a.0; always = b.0; goal = c.0; actions = c.1 }

  -- no part goes past the entries
  goal_inside : actions_from ≤ t.entries
  goal_inside = omega (arith, parts_written.actions.ends)

  -- the parts are read, each from its place to the next
  starts_are_read : starts_in t ≡ good x.relevant t.relevant
  starts_are_read =
      let within = subst (λ n. Within n (map (λ (s : tree.Start). s.atom) x.relevant)) (sym w.atoms) formed.relevant_within in
      ap (λ m. series (start t) after_start m 0 0) w.relevant
      ∙ starts_read t x.relevant 0 0 t.relevant within (each_all (λ k. 0 ≤ k) (λ k. omega arith) (map (λ (s : tree.Start). s.atom) x.relevant)) formed.relevant_rise parts_written.starts (omega (arith, goal_inside))

  -- the atoms that the table lists are the relevant ones
  listed_atoms : map (λ (s : tree.Start). s.atom) x.relevant ≡ take t.relevant t.operands
  listed_atoms = atoms_of_starts t t.relevant 0 0 x.relevant t.relevant starts_are_read (omega (arith, goal_inside))

  always_are_read : always_in t t.relevant ≡ good x.always goal_from
  always_are_read =
      let within = subst (λ n. Within n x.always) (sym w.atoms) formed.always_within in
      let apart = subst (λ (rs : List ℕ). Each (λ k. has k rs ≡ false) x.always) listed_atoms formed.apart in
      ap (λ m. series (always_true t) after_atom m 0 t.relevant) w.always
      ∙ always_read t x.always 0 t.relevant goal_from within (each_all (λ k. 0 ≤ k) (λ k. omega arith) x.always) formed.always_rise apart parts_written.always (omega (arith, goal_inside))

  goal_is_read : ground t most_levels goal_from ≡ good x.goal actions_from
  goal_is_read = ground_reads t x.goal most_levels goal_from actions_from (subst (λ n. KnownGround n x.goal) (sym w.relevant) formed.goal) limits.goal parts_written.goal goal_inside

  actions_are_read : actions_in t actions_from ≡ good x.actions t.entries
  actions_are_read =
      let known = subst (λ n. Each (KnownAction n most_names most_names) x.actions) (sym w.relevant) formed.actions in
      let names : List Name = map (λ (a : tree.Action). a.name) x.actions in
      ap (λ m. series (action t) after_action m [] actions_from) w.actions
      ∙ actions_read t x.actions [] actions_from t.entries known limits.each_action (each_all (λ m. precedes [] (listed m) ≡ true) (λ m. refl) names) formed.names_rise parts_written.actions (omega arith)

  -- the book with so many atoms
  abbrev with_atoms : ℕ → tree.Book
  with_atoms n = record { atoms = n; relevant = x.relevant; always = x.always; goal = x.goal; actions = x.actions }

  -- the book is read, part after part, and nothing is left over
  book_is_read : book t ≡ good x t.entries
  book_is_read =
      book_parts t
      ∙ ap (λ o. then o (after_starts t)) starts_are_read
      ∙ ap (λ o. then o (after_always t x.relevant)) always_are_read
      ∙ ap (λ o. then o (after_goal t x.relevant x.always)) goal_is_read
      ∙ ap (λ o. then o (at_end t x.relevant x.always x.goal)) actions_are_read
      ∙ ap (λ b. unless b 4 t.entries (good (with_atoms t.atoms) t.entries)) (le-leb t.entries t.entries (omega arith))
      ∙ ap (λ n. good (with_atoms n) t.entries) w.atoms

  -- there is an entry, that of the goal
  some_entry : 0 < t.entries
  some_entry = omega (arith, goal_inside, ground_entries x.goal)

  -- and there are not too many
  few_entries : t.entries ≤ 1048576
  few_entries = omega (arith, all_written.ends, limits.entries)

-- Opening.

-- sizes none of which is refused
none_refused : (a b c d : Bool) → a ≡ false → b ≡ false → c ≡ false → d ≡ false
    → refuse_if layer.Book a 1 0 (refuse_if layer.Book b 1 2 (refuse_if layer.Book c 1 3 (refuse_if layer.Book d 1 4 (Ok tt)))) ≡ Ok tt
none_refused a b c d o p q r = rw (o, p, q, r)

-- arrays that are long enough
long_enough : (n : ℕ) (ks os : List ℕ) → n ≤ length ks → n ≤ length os → lengths_fit n ks os ≡ Ok tt
long_enough n ks os k o = rw (le-ltb (length ks) n k, le-ltb (length os) n o)

-- the sizes of a book within the limits
sizes_within : (x : tree.Book) → WellFormed x → WithinLimits x → (z : Sizes) (ks os : List ℕ) → Writes x (given z ks os) → 0 < z.entries → z.entries ≤ 1048576 → sizes_fit z ≡ Ok tt
sizes_within x formed limits z ks os w some few =
    none_refused (ltb 65536 z.atoms) (ltb z.atoms (z.relevant + z.always)) (ltb 1048576 z.actions) (eqb z.entries 0 || ltb 1048576 z.entries)
    (le-ltb 65536 z.atoms (omega (arith, w.atoms, limits.atoms)))
    (le-ltb z.atoms (z.relevant + z.always) (omega (arith, w.atoms, w.relevant, w.always, formed.few)))
    (le-ltb 1048576 z.actions (omega (arith, w.actions, limits.actions)))
    (or_from (eqb z.entries 0) (ltb 1048576 z.entries) (ne_eqb z.entries 0 (λ e. omega arith)) (le-ltb 1048576 z.entries few))

-- a book that is written out in arrays that are long enough opens, and it is that book that stands there
pub what_is_written_opens : WhatIsWrittenOpens
what_is_written_opens x formed limits z ks os w long_kinds long_operands =
    let t : Table = given z ks os in
    let read : book t ≡ good x z.entries = book_is_read x formed limits t w long_operands in
    let sizes : sizes_fit z ≡ Ok tt = sizes_within x formed limits z ks os w (some_entry x formed limits t w long_operands) (few_entries x formed limits t w long_operands) in
    let lengths : lengths_fit z.entries ks os ≡ Ok tt = long_enough z.entries ks os long_kinds long_operands in (
      ap (λ r. and_then r (and_then (lengths_fit z.entries ks os) (done layer.Book (book t)))) sizes
          ∙ ap (λ r. and_then r (done layer.Book (book t))) lengths
          ∙ ap (λ o. done layer.Book o) read,
      ap (λ o. book_in o) read,
    )
