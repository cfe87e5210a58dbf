-- What the calls of a book's run do: they judge in the image that they fill, and put numbers into the store one by one.
use Rattle.std.specs.Prelude.{ℕ, ◌+◌, Bool, false, cond, List, [], length, Ok, nat_lt}
use Rattle.std.proofs.Math.Option.{Option, some, none}
use Rattle.model.specs.Trees.{Name}
use Rattle.model.specs.Lists.{below, keep}
use Rattle.model.specs.Meaning.{State, Literal}
use Rattle.model.specs.Settling.{ground_value}
use Rattle.model.specs.Books.{Action, Book, find, action_literals, first_facts}
use Rattle.model.specs.Runs.{limit}
use Rattle.store.specs.Sets.{none as empty_set, pictured}
use Rattle.protocol.specs.Shown.{shown}
use Rattle.protocol.specs.Steps.{put_step, put_numbers}
use Rattle.protocol.specs.Machines.{refused, Begun, Judged, Performed}
use Rattle.protocol.specs.BookCalls.{facts}

-- `begin` empties the store and puts the facts that start true
abbrev pub begin_by_puts : Book → ℕ → State → Begun
begin_by_puts b size s =
    cond (nat_lt size (facts b)) (record { set = s; answer = refused 21 (facts b) })
    (record { set = put_numbers size (keep (first_facts b) (below (facts b))) empty_set; answer = Ok 0 })

abbrev pub goal_by_image : Book → ℕ → State → List ℕ → Judged
goal_by_image b size s im =
    cond (nat_lt size (facts b)) (record { image = im; answer = refused 21 (facts b) })
    (cond (nat_lt (length im) (facts b)) (record { image = im; answer = refused 22 (facts b) })
    (record { image = pictured (facts b) s im; answer = Ok (ground_value (shown (pictured (facts b) s im)) b.goal) }))

-- whether there is an action and its precondition is true in the state v
abbrev pub is_taken : State → Option Action → Bool
is_taken v none = false
is_taken v (some a) = ground_value v a.precondition

-- the literals of its effect, conditions judged in the state v
abbrev pub literals_taken : State → Option Action → List Literal
literals_taken v none = []
literals_taken v (some a) = action_literals v a.effect

abbrev pub act_by_puts : ℕ → ℕ → State → List ℕ → Option Action → Performed
act_by_puts size n s seen o =
    cond (is_taken (shown seen) o) (record { steps = n + 1; set = put_step size (literals_taken (shown seen) o) s; image = seen; answer = Ok tt })
    (record { steps = n; set = s; image = seen; answer = refused 24 n })

abbrev pub perform_by_puts : Book → ℕ → ℕ → State → List ℕ → Name → Performed
perform_by_puts b size n s im m =
    cond (nat_lt n limit)
    (cond (nat_lt size (facts b)) (record { steps = n; set = s; image = im; answer = refused 21 (facts b) })
    (cond (nat_lt (length im) (facts b)) (record { steps = n; set = s; image = im; answer = refused 22 (facts b) })
    (act_by_puts size n s (pictured (facts b) s im) (find m b.actions))))
    (record { steps = n; set = s; image = im; answer = refused 26 limit })
