-- The number of the action with a name, the place of an action, and the fact of an atom.
use Rattle.std.specs.Prelude.{◌≡◌, ℕ, ◌+◌, ◌<◌, cond, List, [], ◌∷◌, map, length, Some, None, Option, slice_index_or}
use Rattle.table.specs.Reading.{series, next_place}
use Rattle.model.specs.Lists.{In, has, position}
use Rattle.model.specs.Trees.{Name}
use Rattle.model.specs.Books.{Action, Start, Book, same_name}
use Rattle.book.specs.Tables.{Table}
use Rattle.book.specs.Reads.{action, after_action, actions_place}

-- the names of actions
abbrev pub names_of : List Action → List Name
names_of = map (λ (a : Action). a.name)

-- the number of the first action with the name, where actions are numbered from k on
abbrev pub number_from : ℕ → List Action → Name → Option ℕ
number_from k [] m = None
number_from k (a ∷ rest) m = cond (same_name m a.name) (Some k) (number_from (k + 1) rest m)

-- `Some i` exactly where the i-th action has the name, `None` where no action has it
abbrev pub Tells : Option ℕ → List Action → Name → Type 0
Tells (Some i) acts m = (i < length acts) × (slice_index_or (names_of acts) i m ≡ m) × ((k : ℕ) → k < length acts → slice_index_or (names_of acts) k m ≡ m → k ≡ i)
Tells None acts m = In m (names_of acts) → ⊥

-- where the k-th action begins: after the k actions before it
abbrev pub action_place : Table → ℕ → ℕ
action_place t k = next_place (series (action t) after_action k [] (actions_place t))

-- the fact that a relevant atom has
abbrev pub fact_of : Book → ℕ → Option ℕ
fact_of b k =
    let rs = map (λ (s : Start). s.atom) b.relevant in
    cond (has k rs) (Some (position k rs)) None
