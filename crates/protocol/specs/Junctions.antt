-- What a junction of the code stands for.
use Rattle.model.specs.Trees as tree
use Rattle.protocol.specs.declared.junction.Junction.{Junction}
use Rattle.protocol.specs.declared.junction.Junction.TheVariants.{All, Any}

abbrev pub joining : Junction → tree.Junction
joining All = tree.all
joining Any = tree.any
