use Rattle.std.proofs.Common.{◌≡◌, ◌++◌, ◌∷◌, map, take}
use Rattle.table.specs.Entries.{coded}
use Rattle.table.specs.Reading.{entry}
use Rattle.runs.proofs.action.write_name.Given as goal

abbrev pub invariant-loop-object : goal.invariant-loop-object
invariant-loop-object l = map coded l.out.items ≡ map coded l.fn.out.items ++ (entry 18 l.name.operator ∷ map (entry 10) (take l.object-index l.name.objects.now))
