use Rattle.names.proofs.Worked.{examples}
use Rattle.names.proofs.examples.worked_examples.Goals as goal

pub returns : goal.returns
returns c = examples
