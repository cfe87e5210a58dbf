-- Books written out as the entries of a table.
use Rattle.std.specs.Prelude.{◌≡◌, ℕ, suc, ◌≤◌, cond, List, [], ◌∷◌, ◌++◌, map, length}
use Rattle.table.specs.Reading.{Entry, entry}
use Rattle.model.specs.Lists.{below, gather}
use Rattle.model.specs.Forming.{Each}
use Rattle.model.specs.Trees.{Junction, all, any, Name}
use Rattle.model.specs.Meaning.{Literal}
use Rattle.model.specs.Settling.{Ground, known, fact, negated, group, Grounds, nil, cons}
use Rattle.model.specs.Books as tree
use Rattle.model.specs.Books.{Clause, plain, when, Start}
use Rattle.model.specs.Opening.{ground_levels}
use Rattle.book.specs.Tables.{Table, entry_at, most_levels, most_objects}

-- how many parts
abbrev pub count_grounds : Grounds → ℕ
count_grounds nil = 0
count_grounds (cons g gs) = suc (count_grounds gs)

-- AND or OR
abbrev pub junction_code : Junction → ℕ
junction_code all = 5
junction_code any = 6

-- a formula
abbrev mutual
  pub write_ground : Ground → List Entry
  write_ground (known b) = entry (cond b 0 1) 0 ∷ []
  write_ground (fact j) = entry 13 j ∷ []
  write_ground (negated g) = entry 4 0 ∷ write_ground g
  write_ground (group j gs) = entry (junction_code j) (count_grounds gs) ∷ write_grounds gs

  pub write_grounds : Grounds → List Entry
  write_grounds nil = []
  write_grounds (cons g gs) = write_ground g ++ write_grounds gs

-- FACT, or NOT and FACT
abbrev pub write_literal : Literal → List Entry
write_literal l = cond l.adds (entry 13 l.atom ∷ []) (entry 4 0 ∷ (entry 13 l.atom ∷ []))

-- a literal, or WHEN with its formula and AND of its literals
abbrev pub write_clause : Clause → List Entry
write_clause (plain l) = write_literal l
write_clause (when g ls) = entry 12 0 ∷ (write_ground g ++ (entry 5 (length ls) ∷ gather write_literal ls))

-- AND of the parts of an effect
abbrev pub write_effect : List Clause → List Entry
write_effect cs = entry 5 (length cs) ∷ gather write_clause cs

-- ACTION and its OBJECTs
abbrev pub write_name : Name → List Entry
write_name m = entry 18 m.operator ∷ map (entry 10) m.objects

abbrev pub write_action : tree.Action → List Entry
write_action a = write_name a.name ++ (write_ground a.precondition ++ write_effect a.effect)

-- STARTS-TRUE or STARTS-FALSE
abbrev pub write_start : Start → Entry
write_start s = entry (cond s.starts 19 20) s.atom

-- a book
unfoldable pub write_book : tree.Book → List Entry
write_book b =
    map write_start b.relevant
    ++ (map (entry 21) b.always
    ++ (write_ground b.goal
    ++ gather write_action b.actions))

-- the entries of a table, first to last
abbrev pub entries_of : Table → List Entry
entries_of t = map (entry_at t) (below t.entries)

-- the table is the book written out
pub record Writes (x : tree.Book) (t : Table) : Type 0 where
  pub atoms : t.atoms ≡ x.atoms
  pub relevant : t.relevant ≡ length x.relevant
  pub always : t.always ≡ length x.always
  pub actions : t.actions ≡ length x.actions
  pub entries : entries_of t ≡ write_book x

-- the formula of a WHEN is inside two entries, its effect's AND and itself
abbrev pub ShallowClause : Clause → Type 0
ShallowClause (plain l) = Unit {0}
ShallowClause (when g ls) = ground_levels g ≤ 511

-- an action has few objects, and formulas that are not nested too deep
pub record SmallAction (a : tree.Action) : Type 0 where
  pub objects : length a.name.objects ≤ most_objects
  pub precondition : ground_levels a.precondition ≤ most_levels
  pub effect : Each ShallowClause a.effect

-- a book is within the limits of a table
pub record WithinLimits (x : tree.Book) : Type 0 where
  pub atoms : x.atoms ≤ 65536
  pub actions : length x.actions ≤ 1048576
  pub entries : length (write_book x) ≤ 1048576
  pub goal : ground_levels x.goal ≤ most_levels
  pub each_action : Each SmallAction x.actions
