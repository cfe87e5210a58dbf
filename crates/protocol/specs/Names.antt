-- The name of a step.
use Rattle.model.specs.Trees as tree
use Rattle.protocol.specs.declared.name.Name.{Name}

abbrev pub name_of : Name → tree.Name
name_of m = record { operator = m.operator; objects = m.objects.now }
