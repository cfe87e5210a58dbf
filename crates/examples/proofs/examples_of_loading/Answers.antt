use Rattle.examples.proofs.Tasks.{loading, parts, in_no_table}
use Rattle.examples.proofs.examples_of_loading.Goals as goal

pub returns-clause-loads : goal.returns-clause-loads
returns-clause-loads c = loading

pub returns-clause-parts : goal.returns-clause-parts
returns-clause-parts c = parts

pub returns-clause-no_table : goal.returns-clause-no_table
returns-clause-no_table c = in_no_table
