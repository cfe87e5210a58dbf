-- No literal of a well-formed task's book clashes.
use Rattle.std.proofs.Common.{◌≡◌, false, List, [], ◌∷◌, refl, inl, inr}
use Rattle.std.proofs.Math.Option.{none}
use Rattle.model.specs.Lists.{In}
use Rattle.model.specs.Trees.{Task, Name}
use Rattle.model.specs.Forming.{WellFormed}
use Rattle.model.specs.Settling.{Round, names, round_two, reach}
use Rattle.model.proofs.Members.{in_fits}
use Rattle.book_of_task.proofs.Clashes.{no_literal_clashes}
use Rattle.book_of_task.specs.Clashes.{some_clashes}
use Rattle.book_of_task.specs.Places.{clash_among, first_clash}
use Rattle.runs.proofs.Clashing.{both_none, none_of}

none_among : (t : Task) (r : Round) (ms : List Name) → ((m : Name) → In m ms → some_clashes r (reach t r m) ≡ false) → clash_among t r ms ≡ none
none_among t r [] h = refl
none_among t r (m ∷ ms) h = both_none _ _ (none_of t r m (h m (inl refl))) (none_among t r ms (λ n i. h n (inr i)))

pub nothing_clashes : (t : Task) → WellFormed t → first_clash t ≡ none
unfolding first_clash
nothing_clashes t formed = none_among t (round_two t) (names t) (λ m i. (no_literal_clashes t formed m (in_fits t m i)).two)
