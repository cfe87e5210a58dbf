use Rattle.runs.specs.Touching.{Touches}
use Rattle.runs.proofs.Touching.{changes_below}
use Rattle.runs.proofs.touched.Touched.by.Given as goal

-- what the operators so far touch was noted
abbrev pub invariant-loop-places : goal.invariant-loop-places
invariant-loop-places l = Touches l.initial.touched (changes_below l.task l.places-index) l.touched
