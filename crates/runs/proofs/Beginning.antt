-- The facts that a begin puts into a store are the facts of the task.
use Rattle.std.proofs.Common.{◌≡◌, ℕ, ◌≤◌, ltb, List, [], ◌∷◌, map, Ok, ap, ◌∙◌, arith}
use mathlib.Core.Path.{fun_ext}
use Rattle.std.proofs.lemmas.Bool.{ltb-false}
use Rattle.model.specs.Trees.{Fact, Task, atoms, number}
use Rattle.model.specs.Forming.{Each, Within, KnownFact, WellFormed}
use Rattle.model.specs.Meaning.{State}
use Rattle.model.proofs.Numbers.{number_known}
use Rattle.store.specs.Sets.{none}
use Rattle.protocol.proofs.Puts.{put_numbers_has, has_map}
use Rattle.protocol.proofs.Tests.{unless_passed}
use Rattle.protocol.specs.TaskCalls.{task_begin}
use Rattle.runs.specs.Runs.{begin_by_puts}

module _ (t : Task) where
  -- the number of a fact
  abbrev number_of : Fact → ℕ
  number_of f = number t f.predicate f.arguments

  -- the numbers of known facts are below any size that has room for all atoms
  facts_within : (size : ℕ) → atoms t ≤ size → (fs : List Fact) → Each (KnownFact t) fs → Within size (map number_of fs)
  facts_within size le [] k = tt
  facts_within size le (f ∷ fs) k =
      let h = (number_known t f.predicate f.arguments k.0.predicate k.0.arity k.0.arguments).0 in
      (omega arith, facts_within size le fs k.1)

-- puts of the facts' numbers leave the facts of the task, whatever the store held
pub begins_with_the_facts : (t : Task) → WellFormed t → (size : ℕ) (s : State) → begin_by_puts t size s ≡ task_begin t size s
begins_with_the_facts t formed size s =
    unless_passed (ltb size (atoms t)) _ _ _ (λ e.
    let w = facts_within t size (ltb-false size (atoms t) e) t.facts formed.facts in
    ap (λ (z : State). record { set = z; answer = Ok 0 })
    (fun_ext (λ a. put_numbers_has size (map (number_of t) t.facts) none a w ∙ has_map (number_of t) a t.facts)))
