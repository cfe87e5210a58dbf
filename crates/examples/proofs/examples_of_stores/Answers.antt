use Rattle.examples.proofs.Sets.{stores}
use Rattle.examples.proofs.examples_of_stores.Goals as goal

pub returns : goal.returns
returns c = stores
