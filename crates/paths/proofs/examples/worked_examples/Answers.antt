use Rattle.paths.proofs.Worked.{examples}
use Rattle.paths.proofs.examples.worked_examples.Goals as goal

pub returns : goal.returns
returns c = examples
