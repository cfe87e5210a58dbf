use Rattle.std.proofs.Common.{◌≡◌, ℕ, ◌^◌, ◌<◌, List, map, take}
use Rattle.model.specs.Forming.{Within}
use Rattle.model.specs.Meaning.{object_of}
use Rattle.model.specs.Trees.{Term, digits}
use Rattle.adl.specs.Held.{held}
use Rattle.runs.specs.Shown.{bound}
use Rattle.runs.specs.Standing.{TermsAt}
use Rattle.runs.proofs.sheet.Sheet.atom_number.Given as goal

-- the digits of the arguments so far, each of which is an object
abbrev pub invariant-loop-k : goal.invariant-loop-k
invariant-loop-k l =
    (l.digits < 32 ^ l.k)
    × ((ts : List Term) (j : ℕ) → TermsAt (held l.self.task.now) l.self.depth l.predicate l.at ts j
    → (l.digits ≡ digits l.self.task.now.table.sizes.objects (map (object_of (bound l.self)) (take l.k ts)))
    × Within l.self.task.now.table.sizes.objects (map (object_of (bound l.self)) (take l.k ts)))
