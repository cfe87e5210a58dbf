use Rattle.examples.proofs.Calls.{answers, calls}
use Rattle.examples.proofs.examples_of_calls.Goals as goal

pub returns-clause-answers : goal.returns-clause-answers
returns-clause-answers c = answers

pub returns-clause-calls : goal.returns-clause-calls
returns-clause-calls c = calls
