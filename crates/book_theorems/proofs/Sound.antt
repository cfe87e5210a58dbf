-- A table that opens is a book written out.
use Rattle.std.proofs.Common.{◌≡◌, ℕ, ◌+◌, ◌≤◌, Bool, true, false, ◌||◌, eqb, ltb, List, [], map, length, Ok, Err, sym, refl, arith}
use Rattle.std.proofs.lemmas.Bool.{ltb-false, or_parts}
use Rattle.fault.specs.declared.Layer.{Layer}
use Rattle.fault.specs.declared.Layer.TheVariants as layer
use Rattle.table.specs.Reading.{entry, Out, bad, good}
use Rattle.table.specs.Answers.{Answer, done, refuse_if, and_then, is_good}
use Rattle.model.specs.Forming.{Each}
use Rattle.model.specs.Lists.{gather}
use Rattle.model.specs.Books as tree
use Rattle.model.specs.Opening.{ground_levels}
use Rattle.book.specs.Tables.{Table, most_levels}
use Rattle.book.specs.Reads.{start, after_start, always_true, after_atom, action, after_action, book, goal_place, actions_place}
use Rattle.book.specs.Opens.{sizes_fit, lengths_fit, given, accepted, book_of}
use Rattle.book.specs.declared.sizes.Sizes.{Sizes}
use Rattle.book.proofs.Items.{series_each}
use Rattle.book.proofs.Standing.{Stands, stands, Opened, opened}
use Rattle.book.proofs.WellFormed.{opened_books_are_well_formed}
use Rattle.table.proofs.Accepting.{both_accept, not_refused, done_good, long_enough}
use Rattle.book_theorems.specs.Writes.{write_ground, write_action, write_start, write_book, Writes, SmallAction, WithinLimits}
use Rattle.book_theorems.specs.Theorems.{WhatOpensWasWritten}
use Rattle.book_theorems.proofs.Written.{Written, whole_written, written_both, series_written, singles_written}
use Rattle.book_theorems.proofs.Spelling.{ground_written, action_written, start_written, always_written}
use Rattle.book_theorems.proofs.Complete.{what_is_written_opens}

-- sizes that are not refused are within their limits
record Sized (z : Sizes) : Type 0 where
  atoms : z.atoms ≤ 65536
  few : z.relevant + z.always ≤ z.atoms
  actions : z.actions ≤ 1048576
  entries : z.entries ≤ 1048576

sized : (z : Sizes) → sizes_fit z ≡ Ok tt → Sized z
sized z e =
    let a = not_refused layer.Book (ltb 65536 z.atoms) 1 0 _ e in
    let b = not_refused layer.Book (ltb z.atoms (z.relevant + z.always)) 1 2 _ a.1 in
    let c = not_refused layer.Book (ltb 1048576 z.actions) 1 3 _ b.1 in
    let d = not_refused layer.Book (eqb z.entries 0 || ltb 1048576 z.entries) 1 4 _ c.1 in
    record {
      atoms = ltb-false 65536 z.atoms a.0;
      few = ltb-false z.atoms (z.relevant + z.always) b.0;
      actions = ltb-false 1048576 z.actions c.0;
      entries = ltb-false 1048576 z.entries (or_parts (eqb z.entries 0) (ltb 1048576 z.entries) d.0).1;
    }

-- The book in its table.
module _ (t : Table) (formed : accepted t ≡ true) (long : t.entries ≤ length t.operands) where
  abbrev x : tree.Book
  x = book_of t

  abbrev st : Stands t
  st = stands t formed

  abbrev op : Opened t
  op = opened t formed long

  -- the whole table is the book written out
  book_written : Written t (write_book x) 0 t.entries
  unfolding write_book
  book_written =
      written_both t (map write_start x.relevant) _ 0 t.relevant t.entries
      (singles_written t write_start (start t) after_start (start_written t) t.relevant 0 0 x.relevant t.relevant st.starts)
      (written_both t (map (entry 21) x.always) _ t.relevant (goal_place t) t.entries
      (singles_written t (entry 21) (always_true t) after_atom (always_written t) t.always 0 t.relevant x.always (goal_place t) st.always)
      (written_both t (write_ground x.goal) (gather write_action x.actions) (goal_place t) (actions_place t) t.entries
      (ground_written t most_levels (goal_place t) x.goal (actions_place t) st.goal).0
      (series_written t write_action (action t) after_action (λ s i a j e. (action_written t s i a j e).0) t.actions [] (actions_place t) x.actions t.entries st.actions)))

  -- the sizes and the entries of the table are those of the book
  book_writes : Writes x t
  book_writes = record {
    atoms = sym op.atoms;
    relevant = sym op.relevant;
    always = sym op.always_count;
    actions = sym op.actions_count;
    entries = whole_written t (write_book x) book_written;
  }

  -- the goal is not nested too deep
  goal_shallow : ground_levels x.goal ≤ most_levels
  goal_shallow = (ground_written t most_levels (goal_place t) x.goal (actions_place t) st.goal).1

  -- each action is small enough
  actions_small : Each SmallAction x.actions
  actions_small = (series_each SmallAction (action t) after_action (λ s i a j e. (action_written t s i a j e).1) t.actions [] (actions_place t) x.actions t.entries st.actions).0

-- the book is within the limits of a table
book_limited : (z : Sizes) (ks os : List ℕ) → Sized z → accepted (given z ks os) ≡ true → z.entries ≤ length os → WithinLimits (book_of (given z ks os))
book_limited z ks os s formed long =
    let t = given z ks os in
    let o = opened t formed long in
    record {
      atoms = omega (arith, o.atoms, s.atoms);
      actions = omega (arith, o.actions_count, s.actions);
      entries = omega (arith, (book_written t formed long).ends, s.entries);
      goal = goal_shallow t formed long;
      each_action = actions_small t formed long;
    }

-- a table that opens is a book written out, one that is well formed and within the limits, and no other such book
pub what_opens_was_written : WhatOpensWasWritten
what_opens_was_written z ks os e =
    let t = given z ks os in
    let a = both_accept (sizes_fit z) (and_then (lengths_fit z.entries ks os) (done layer.Book (book t))) e in
    let b = both_accept (lengths_fit z.entries ks os) (done layer.Book (book t)) a.1 in
    let formed : accepted t ≡ true = done_good layer.Book (book t) b.1 in
    let long = long_enough layer.Book z.entries ks os b.0 in
    let s = sized z a.0 in
    record {
      written = book_writes t formed long.1;
      formed = opened_books_are_well_formed t formed long.1 s.few;
      limits = book_limited z ks os s formed long.1;
      only = λ x well within writes. sym (what_is_written_opens x well within z ks os writes long.0 long.1).1;
    }
