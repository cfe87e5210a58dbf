-- What follows from a book that stands in its table.
use Rattle.std.proofs.Common.{◌≡◌, ℕ, zero, suc, ◌+◌, ◌<◌, ◌≤◌, true, false, eqb, leb, List, [], ◌∷◌, map, length, get_or, take, drop, sym, refl, ap, ◌∙◌, arith}
use Rattle.std.proofs.lemmas.Bool.{leb-true}
use Rattle.std.proofs.lemmas.List.{get_or-map, drop_more}
use Rattle.table.specs.Reading.{Out, bad, good, then, unless, series, next_place}
use Rattle.table.specs.Answers.{is_good}
use Rattle.table.proofs.Reading.{first_step, passed, series_opens, series_length, singles_end, singles_item}
use Rattle.model.specs.Settling.{Ground}
use Rattle.model.specs.Books.{Action, Start, Book}
use Rattle.book.specs.Tables.{Table, most_levels}
use Rattle.book.specs.Reads.{start, after_start, starts_in, always_true, after_atom, always_in, ground, action, after_action, actions_in, book, goal_place, actions_place}
use Rattle.book.specs.Opens.{accepted, book_in, book_of}
use Rattle.book.specs.Finds.{action_place}
use Rattle.book.proofs.Entries.{start_read, always_read}
use Rattle.book.proofs.Reaching.{reached, reaches_series, reaches_action, ground_reaches}

-- a reading that is good has an item and a place
pub was_good : {A : Type 0} (o : Out A) → is_good o ≡ true → (x : A) × (j : ℕ) × (o ≡ good x j)
was_good (bad n p) e = absurd (let z : ◌≡◌ {A = ℕ} 0 1 = cc in omega arith)
was_good (good x j) e = (x, j, refl)

-- The parts of a book, one after the other.
module _ (t : Table) where
  abbrev pub at_end : List Start → List ℕ → Ground → List Action → ℕ → Out Book
  at_end ss ks g acts l = unless (leb t.entries l) 4 l (good (record { atoms = t.atoms; relevant = ss; always = ks; goal = g; actions = acts }) l)

  abbrev pub after_goal : List Start → List ℕ → Ground → ℕ → Out Book
  after_goal ss ks g k = then (actions_in t k) λ acts l. at_end ss ks g acts l

  abbrev pub after_always : List Start → List ℕ → ℕ → Out Book
  after_always ss ks j = then (ground t most_levels j) λ g k. after_goal ss ks g k

  abbrev pub after_starts : List Start → ℕ → Out Book
  after_starts ss i = then (always_in t i) λ ks j. after_always ss ks j

  pub book_parts : book t ≡ then (starts_in t) (λ ss i. after_starts ss i)
  unfolding book
  book_parts = refl

  -- atoms have an entry each
  pub start_single : (low i : ℕ) (s : Start) (j : ℕ) → start t low i ≡ good s j → j ≡ i + 1
  start_single low i s j e = (start_read t low i s j e).ends

  pub always_single : (low i k j : ℕ) → always_true t low i ≡ good k j → j ≡ i + 1
  always_single low i k j e = (always_read t low i k j e).ends

-- the book, and how each of its parts was read, from place to place
pub record Stands (t : Table) : Type 0 where
  pub whole : book t ≡ good (book_of t) t.entries
  pub atoms : (book_of t).atoms ≡ t.atoms
  pub starts : starts_in t ≡ good (book_of t).relevant t.relevant
  pub always : always_in t t.relevant ≡ good (book_of t).always (goal_place t)
  pub goal : ground t most_levels (goal_place t) ≡ good (book_of t).goal (actions_place t)
  pub actions : actions_in t (actions_place t) ≡ good (book_of t).actions t.entries
  pub inside : actions_place t ≤ t.entries

module _ (t : Table) (b : Book) (n : ℕ) (read : book t ≡ good b n) where
  read_starts : (ss : List Start) × (starts_in t ≡ good ss t.relevant) × (after_starts t ss t.relevant ≡ good b n)
  read_starts =
      let w = first_step (starts_in t) (after_starts t) b n (sym (book_parts t) ∙ read) in
      let z : w.1 ≡ t.relevant = omega (arith, singles_end (start t) after_start (start_single t) t.relevant 0 0 w.0 w.1 w.2) in
      (w.0, w.2 ∙ ap (good w.0) z, ap (after_starts t w.0) (sym z) ∙ w.3)

  read_always : (ks : List ℕ) × (always_in t t.relevant ≡ good ks (goal_place t)) × (after_always t read_starts.0 ks (goal_place t) ≡ good b n)
  read_always =
      let w = first_step (always_in t t.relevant) (after_always t read_starts.0) b n read_starts.2 in
      let z : w.1 ≡ goal_place t = singles_end (always_true t) after_atom (always_single t) t.always 0 t.relevant w.0 w.1 w.2 in
      (w.0, w.2 ∙ ap (good w.0) z, ap (after_always t read_starts.0 w.0) (sym z) ∙ w.3)

  read_goal : (g : Ground) × (ground t most_levels (goal_place t) ≡ good g (actions_place t)) × (after_goal t read_starts.0 read_always.0 g (actions_place t) ≡ good b n)
  read_goal =
      let w = first_step (ground t most_levels (goal_place t)) (after_goal t read_starts.0 read_always.0) b n read_always.2 in
      let z : actions_place t ≡ w.1 = ap (λ o. next_place o) w.2 in
      (w.0, w.2 ∙ ap (good w.0) (sym z), ap (after_goal t read_starts.0 read_always.0 w.0) z ∙ w.3)

  goal_ends : actions_place t ≤ t.entries
  goal_ends = (ground_reaches t most_levels (goal_place t) read_goal.0 (actions_place t) read_goal.1).1

  abbrev with_actions : List Action → Book
  with_actions acts = record { atoms = t.atoms; relevant = read_starts.0; always = read_always.0; goal = read_goal.0; actions = acts }

  read_actions : (acts : List Action) × (actions_in t (actions_place t) ≡ good acts t.entries) × (n ≡ t.entries) × (b ≡ with_actions acts)
  read_actions =
      let w = first_step (actions_in t (actions_place t)) (at_end t read_starts.0 read_always.0 read_goal.0) b n read_goal.2 in
      let v = passed (leb t.entries w.1) 4 w.1 (good (with_actions w.0) w.1) b n w.3 in
      let i = reached t (actions_place t) (actions_in t (actions_place t)) w.0 w.1 (reaches_series t (action t) after_action (reaches_action t) t.actions [] (actions_place t) goal_ends) w.2 in
      let z : w.1 ≡ t.entries = omega (arith, leb-true t.entries w.1 v.0, i.1) in
      let q : good (with_actions w.0) w.1 ≡ good b n = v.1 in
      let m : w.1 ≡ n = cc in
      let s : with_actions w.0 ≡ b = cc in
      (w.0, w.2 ∙ ap (good w.0) z, sym m ∙ z, sym s)

  stands_read : Stands t
  stands_read =
      let is : book_of t ≡ b = ap (λ o. book_in o) read in
      let q : book_of t ≡ with_actions read_actions.0 = is ∙ read_actions.3 in
      record {
        whole = read ∙ ap (good b) read_actions.2 ∙ ap (λ x. good x t.entries) (sym is);
        atoms = ap (λ (x : Book). x.atoms) q;
        starts = read_starts.1 ∙ ap (λ (x : Book). good x.relevant t.relevant) (sym q);
        always = read_always.1 ∙ ap (λ (x : Book). good x.always (goal_place t)) (sym q);
        goal = read_goal.1 ∙ ap (λ (x : Book). good x.goal (actions_place t)) (sym q);
        actions = read_actions.1 ∙ ap (λ (x : Book). good x.actions t.entries) (sym q);
        inside = goal_ends;
      }

pub stands : (t : Table) → accepted t ≡ true → Stands t
stands t h = let w = was_good (book t) h in stands_read t w.0 w.1 w.2

-- the atoms of a series stand in its entries, one after the other
module _ (t : Table) where
  pub atoms_of_starts : (m low i : ℕ) (ss : List Start) (k : ℕ) → series (start t) after_start m low i ≡ good ss k → i + m ≤ length t.operands → map (λ (s : Start). s.atom) ss ≡ take m (drop i t.operands)
  atoms_of_starts zero low i ss k e h = let q : [] ≡ ss = cc in sym (ap (λ (xs : List Start). map (λ (s : Start). s.atom) xs) q)
  atoms_of_starts (suc m) low i ss k e h = series_opens (start t) after_start m low i ss k e λ x j rest r u q.
      let f = start_read t low i x j r in
      let z : j ≡ i + 1 = f.ends in
      ap (λ (xs : List Start). map (λ (s : Start). s.atom) xs) q
      ∙ ap (λ (a : ℕ). a ∷ map (λ (s : Start). s.atom) rest) f.atom
      ∙ ap (λ xs. get_or t.operands i 0 ∷ xs) (atoms_of_starts m (after_start low x) j rest k u (omega arith))
      ∙ ap (λ (n : ℕ). get_or t.operands i 0 ∷ take m (drop n t.operands)) z
      ∙ sym (ap (take (suc m)) (drop_more t.operands i 0 (omega arith)))

  atoms_always : (m low i : ℕ) (ks : List ℕ) (k : ℕ) → series (always_true t) after_atom m low i ≡ good ks k → i + m ≤ length t.operands → ks ≡ take m (drop i t.operands)
  atoms_always zero low i ks k e h = let q : [] ≡ ks = cc in sym q
  atoms_always (suc m) low i ks k e h = series_opens (always_true t) after_atom m low i ks k e λ x j rest r u q.
      let f = always_read t low i x j r in
      let z : j ≡ i + 1 = f.ends in
      q
      ∙ ap (λ (a : ℕ). a ∷ rest) f.atom
      ∙ ap (λ xs. get_or t.operands i 0 ∷ xs) (atoms_always m (after_atom low x) j rest k u (omega arith))
      ∙ ap (λ (n : ℕ). get_or t.operands i 0 ∷ take m (drop n t.operands)) z
      ∙ sym (ap (take (suc m)) (drop_more t.operands i 0 (omega arith)))

-- what is known of the book in an accepted table
pub record Opened (t : Table) : Type 0 where
  pub atoms : (book_of t).atoms ≡ t.atoms
  pub relevant : length (book_of t).relevant ≡ t.relevant
  pub always_count : length (book_of t).always ≡ t.always
  pub actions_count : length (book_of t).actions ≡ t.actions
  pub listed : map (λ (s : Start). s.atom) (book_of t).relevant ≡ take t.relevant t.operands
  pub starting : (j : ℕ) → j < t.relevant → get_or (map (λ (s : Start). s.starts) (book_of t).relevant) j false ≡ eqb (get_or t.kinds j 0) 19
  pub always : (book_of t).always ≡ take t.always (drop t.relevant t.operands)
  pub goal : ground t most_levels (goal_place t) ≡ good (book_of t).goal (actions_place t)
  pub actions : actions_in t (actions_place t) ≡ good (book_of t).actions t.entries
  pub inside : actions_place t ≤ t.entries

pub opened : (t : Table) → accepted t ≡ true → t.entries ≤ length t.operands → Opened t
opened t h long =
    let b = book_of t in
    let s = stands t h in
    let n : length b.relevant ≡ t.relevant = series_length (start t) after_start t.relevant 0 0 b.relevant t.relevant s.starts in
    let goes = (ground_reaches t most_levels (goal_place t) b.goal (actions_place t) s.goal).0 in
    let fits : goal_place t ≤ t.entries = omega (arith, s.inside) in
    record {
      atoms = s.atoms;
      relevant = n;
      always_count = series_length (always_true t) after_atom t.always 0 t.relevant b.always (goal_place t) s.always;
      actions_count = series_length (action t) after_action t.actions [] (actions_place t) b.actions t.entries s.actions;
      listed = atoms_of_starts t t.relevant 0 0 b.relevant t.relevant s.starts (omega arith);
      starting = λ j l.
          let d : Start = record { atom = 0; starts = false } in
          let w = singles_item (start t) after_start (start_single t) d t.relevant 0 0 b.relevant t.relevant s.starts j l in
          let z : 0 + j ≡ j = omega arith in
          let f = start_read t w.0 (0 + j) (get_or b.relevant j d) (0 + j + 1) w.1 in
          get_or-map (λ (s : Start). s.starts) b.relevant j d false (omega (arith, n)) ∙ f.starts ∙ ap (λ (k : ℕ). eqb (get_or t.kinds k 0) 19) z;
      always = atoms_always t t.always 0 t.relevant b.always (goal_place t) s.always (omega arith);
      goal = s.goal;
      actions = s.actions;
      inside = s.inside;
    }

-- Each item of a series, at the place after those before it.
module _ {A S : Type 0} (read : S → ℕ → Out A) (next : S → A → S) where
  -- what is made of a reading ends where it does
  made_place : {B C : Type 0} (o : Out B) (f : B → C) → next_place (then o (λ x k. good (f x) k)) ≡ next_place o
  made_place (bad n p) f = refl
  made_place (good x k) f = refl

  -- the place after one more item
  place_on : (x : ℕ) (s : S) (i : ℕ) (a : A) (j : ℕ) → read s i ≡ good a j → next_place (series read next (suc x) s i) ≡ next_place (series read next x (next s a) j)
  place_on x s i a j e =
      ap (λ o. next_place (then o (λ b k. then (series read next x (next s b) k) λ rest l. good (b ∷ rest) l))) e
      ∙ made_place (series read next x (next s a) j) (λ rest. a ∷ rest)

  pub series_item : (d : A) (m : ℕ) (s : S) (i : ℕ) (xs : List A) (k : ℕ) → series read next m s i ≡ good xs k → (x : ℕ) → x < m
      → (z : S) × (j : ℕ) × (read z (next_place (series read next x s i)) ≡ good (get_or xs x d) j) × (j ≡ next_place (series read next (suc x) s i))
  series_item d zero s i xs k e x h = absurd (omega arith)
  series_item d (suc m) s i xs k e zero h = series_opens read next m s i xs k e λ a j rest r u q.
      (s, j, r ∙ ap (λ ys. good (get_or ys 0 d) j) (sym q), sym (place_on 0 s i a j r))
  series_item d (suc m) s i xs k e (suc x) h = series_opens read next m s i xs k e λ a j rest r u q.
      let w = series_item d m (next s a) j rest k u x (omega arith) in
      (w.0, w.1, ap (λ p. read w.0 p) (place_on x s i a j r) ∙ w.2 ∙ ap (λ ys. good (get_or ys (suc x) d) w.1) (sym q), w.3 ∙ sym (place_on (suc x) s i a j r))

-- the k-th action stands at its place, and the next one after it
pub action_stands : (t : Table) → accepted t ≡ true → (d : Action) (k : ℕ) → k < t.actions
    → (before : List ℕ) × (j : ℕ) × (action t before (action_place t k) ≡ good (get_or (book_of t).actions k d) j) × (j ≡ action_place t (suc k))
action_stands t h d k l = series_item (action t) after_action d t.actions [] (actions_place t) (book_of t).actions t.entries (stands t h).actions k l
