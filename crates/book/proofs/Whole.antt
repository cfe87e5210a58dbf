-- The whole table, part after part.
use Rattle.std.proofs.Common.{◌≡◌, ℕ, ◌<◌, ◌≤◌, List, map, length, take, IfOk, Ok, Err, Result, sym, ap, ◌∙◌, subst, arith, le-leb}
use borrow.Author.Tests.{lt-leb}
use Rattle.fault.specs.declared.Fault.{Fault}
use Rattle.fault.specs.declared.Layer.TheVariants as layer
use Rattle.fault.specs.Faults.{refusal}
use Rattle.table.specs.Reading.{Out, bad, good, then, unless, next_place}
use Rattle.table.specs.Answers.{done, is_good}
use Rattle.table.proofs.Answering.{refused, read_well, place_after, made_refused}
use Rattle.table.proofs.Reading.{singles_end}
use Rattle.model.specs.Settling.{Ground}
use Rattle.model.specs.Books.{Start, Action}
use Rattle.model.specs.Books as tree
use Rattle.book.specs.Tables.{Table, most_levels}
use Rattle.book.specs.Reads.{start, after_start, starts_in, always_true, after_atom, always_in, ground, actions_in, book, goal_place, actions_place}
use Rattle.book.specs.Groups.{Rises}
use Rattle.book.specs.Records.{Placed}
use Rattle.table.specs.Answers.{whether}
use Rattle.book.specs.Views.{answer}
use Rattle.book.proofs.Atoms.{rises}
use Rattle.book.proofs.Reaching.{reached, reaches_series, reaches_start}
use Rattle.book.proofs.Standing.{at_end, after_goal, after_always, after_starts, book_parts, start_single, always_single, atoms_of_starts}
use Rattle.book.proofs.WellFormed.{atoms_rise}

-- a refusal of a book
done_refused : (o : Out tree.Book) (f : Fault) → Err f ≡ answer o → Err f ≡ done layer.Book o
done_refused (bad n p) f e = let h : f ≡ refusal n layer.Book p = cc in ap Err h
done_refused (good b j) f e = absurd (let z : ◌≡◌ {A = ℕ} 0 1 = cc in omega arith)

-- what a check of all entries promises of its answer
pub record CheckedAll (t : Table) (r : Result ℕ Fault) : Type 0 where
  pub same : whether r ≡ done layer.Book (book t)
  pub placed : IfOk r (Placed t)

pub all_refused : (t : Table) (r : Result ℕ Fault) (f : Fault) → r ≡ Err f → Err f ≡ answer (book t) → CheckedAll t r
all_refused t r f e h = record { same = ap whether e ∙ done_refused (book t) f h; placed = made_refused (Placed t) r f e }

module _ (t : Table) where
  pub starts_refused : (f : Fault) → Err f ≡ answer (starts_in t) → Err f ≡ answer (book t)
  starts_refused f e = refused layer.Book (starts_in t) (after_starts t) f e ∙ sym (ap (λ (o : Out tree.Book). answer o) (book_parts t))

  module _ (i : ℕ) (first : Ok i ≡ answer (starts_in t)) where
    starts_end : i ≡ t.relevant
    starts_end =
        let w = read_well layer.Book (starts_in t) i first in
        let z = singles_end (start t) after_start (start_single t) t.relevant 0 0 w.0 i w.1 in
        omega (arith, z)

    -- the atoms that start true or false stand in the table, and rise
    pub relevant_fit : t.entries ≤ length t.operands → t.relevant ≤ length t.operands
    relevant_fit long =
        let w = read_well layer.Book (starts_in t) i first in
        let z = reached t 0 (starts_in t) w.0 i (reaches_series t (start t) after_start (reaches_start t) t.relevant 0 0 (omega arith)) w.1 in
        omega (arith, z.1, starts_end)

    pub relevant_rise : t.entries ≤ length t.operands → Rises (take t.relevant t.operands)
    relevant_rise long =
        let w = read_well layer.Book (starts_in t) i first in
        let h = relevant_fit long in
        let atoms = map (λ (s : Start). s.atom) w.0 in
        subst (λ xs. Rises xs) (atoms_of_starts t t.relevant 0 0 w.0 i w.1 (omega arith)) (rises atoms (atoms_rise t t.relevant 0 0 w.0 i w.1).rise)

    to_always : (ss : List Start) × (book t ≡ after_starts t ss i)
    to_always = let w = read_well layer.Book (starts_in t) i first in (w.0, book_parts t ∙ ap (λ o. then o (after_starts t)) w.1)

    pub always_in_refused : (f : Fault) → Err f ≡ answer (always_in t i) → Err f ≡ answer (book t)
    always_in_refused f e = refused layer.Book (always_in t i) (after_always t to_always.0) f e ∙ sym (ap (λ (o : Out tree.Book). answer o) to_always.1)

    module _ (j : ℕ) (second : Ok j ≡ answer (always_in t i)) where
      to_goal : (ks : List ℕ) × (book t ≡ after_always t to_always.0 ks j)
      to_goal = let w = read_well layer.Book (always_in t i) j second in (w.0, to_always.1 ∙ ap (λ o. then o (after_always t to_always.0)) w.1)

      goal_begins : j ≡ goal_place t
      goal_begins =
          let w = read_well layer.Book (always_in t i) j second in
          let z = singles_end (always_true t) after_atom (always_single t) t.always 0 i w.0 j w.1 in
          omega (arith, z, starts_end)

      pub goal_refused : (f : Fault) → Err f ≡ answer (ground t most_levels j) → Err f ≡ answer (book t)
      goal_refused f e = refused layer.Book (ground t most_levels j) (after_goal t to_always.0 to_goal.0) f e ∙ sym (ap (λ (o : Out tree.Book). answer o) to_goal.1)

      module _ (k : ℕ) (third : Ok k ≡ answer (ground t most_levels j)) where
        to_actions : (g : Ground) × (book t ≡ after_goal t to_always.0 to_goal.0 g k)
        to_actions = let w = read_well layer.Book (ground t most_levels j) k third in (w.0, to_goal.1 ∙ ap (λ o. then o (after_goal t to_always.0 to_goal.0)) w.1)

        actions_begin : k ≡ actions_place t
        actions_begin = sym (place_after layer.Book (ground t most_levels j) k third) ∙ ap (λ x. next_place (ground t most_levels x)) goal_begins

        pub actions_refused : (f : Fault) → Err f ≡ answer (actions_in t k) → Err f ≡ answer (book t)
        actions_refused f e = refused layer.Book (actions_in t k) (at_end t to_always.0 to_goal.0 to_actions.0) f e ∙ sym (ap (λ (o : Out tree.Book). answer o) to_actions.1)

        module _ (l : ℕ) (fourth : Ok l ≡ answer (actions_in t k)) where
          to_end : (acts : List Action) × (book t ≡ at_end t to_always.0 to_goal.0 to_actions.0 acts l)
          to_end = let w = read_well layer.Book (actions_in t k) l fourth in (w.0, to_actions.1 ∙ ap (λ o. then o (at_end t to_always.0 to_goal.0 to_actions.0)) w.1)

          abbrev read_book : tree.Book
          read_book = record { atoms = t.atoms; relevant = to_always.0; always = to_goal.0; goal = to_actions.0; actions = to_end.0 }

          pub left_over : l < t.entries → Err (refusal 4 layer.Book l) ≡ answer (book t)
          left_over h = sym (ap (λ (o : Out tree.Book). answer o) (to_end.1 ∙ ap (λ b. unless b 4 l (good read_book l)) (lt-leb t.entries l h)))

          pub all_read : t.entries ≤ l → CheckedAll t (Ok k)
          all_read h =
              let e : book t ≡ good read_book l = to_end.1 ∙ ap (λ b. unless b 4 l (good read_book l)) (le-leb t.entries l h) in
              record { same = sym (ap (λ (o : Out tree.Book). done layer.Book o) e); placed = record { formed = ap (λ (o : Out tree.Book). is_good o) e; actions = actions_begin } }
