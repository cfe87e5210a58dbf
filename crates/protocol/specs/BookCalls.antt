-- What each call of a book's run leaves and answers, over a store and an image of any size.
use Rattle.std.specs.Prelude.{ℕ, ◌+◌, Bool, cond, List, length, Ok, Result, nat_lt}
use Rattle.std.proofs.Math.Option.{Option, some, none}
use Rattle.fault.specs.declared.Fault.{Fault}
use Rattle.model.specs.Trees.{Name}
use Rattle.model.specs.Meaning.{State}
use Rattle.model.specs.Settling.{ground_value}
use Rattle.model.specs.Books.{Action, Book, find, act, first_facts, truth}
use Rattle.model.specs.Runs.{limit}
use Rattle.store.specs.Sets.{pictured}
use Rattle.protocol.specs.Machines.{refused, Begun, Judged, Performed, Machine}

-- how many facts a book's run keeps: one for each relevant atom
abbrev pub facts : Book → ℕ
facts b = length b.relevant

-- the facts that start true, in whatever the store held
abbrev pub book_begin : Book → ℕ → State → Begun
book_begin b size s =
    cond (nat_lt size (facts b)) (record { set = s; answer = refused 21 (facts b) })
    (record { set = first_facts b; answer = Ok 0 })

-- whether an atom is true: a relevant one by its fact, another if the book lists it as always true
abbrev pub book_holds : Book → ℕ → State → ℕ → Result Bool Fault
book_holds b size s k =
    cond (nat_lt size (facts b)) (refused 21 (facts b))
    (cond (nat_lt k b.atoms) (Ok (truth b s k)) (refused 25 k))

-- the value of the goal, with the image filled
abbrev pub book_goal : Book → ℕ → State → List ℕ → Judged
book_goal b size s im =
    cond (nat_lt size (facts b)) (record { image = im; answer = refused 21 (facts b) })
    (cond (nat_lt (length im) (facts b)) (record { image = im; answer = refused 22 (facts b) })
    (record { image = pictured (facts b) s im; answer = Ok (ground_value s b.goal) }))

-- with the image filled: a step by the action, if there is one and its precondition is true
abbrev pub book_act : ℕ → State → List ℕ → Option Action → Performed
book_act n s seen none = record { steps = n; set = s; image = seen; answer = refused 24 n }
book_act n s seen (some a) =
    cond (ground_value s a.precondition) (record { steps = n + 1; set = act a s; image = seen; answer = Ok tt })
    (record { steps = n; set = s; image = seen; answer = refused 24 n })

-- a step is taken if fewer than the limit are counted, the store and the image have room, and the book has an action of that name
-- whose precondition is true; where it has none, or a false precondition, the image is left filled, and every other refusal leaves
-- all as it was
abbrev pub book_perform : Book → ℕ → ℕ → State → List ℕ → Name → Performed
book_perform b size n s im m =
    cond (nat_lt n limit)
    (cond (nat_lt size (facts b)) (record { steps = n; set = s; image = im; answer = refused 21 (facts b) })
    (cond (nat_lt (length im) (facts b)) (record { steps = n; set = s; image = im; answer = refused 22 (facts b) })
    (book_act n s (pictured (facts b) s im) (find m b.actions))))
    (record { steps = n; set = s; image = im; answer = refused 26 limit })

-- a book's run over a store of that size
abbrev pub book_machine : Book → ℕ → Machine
book_machine b size = record { begins = book_begin b size; performs = book_perform b size; tells = book_holds b size; tells_goal = book_goal b size }
