use Rattle.records.proofs.NameLengths.{examples}
use Rattle.records.proofs.laws.worked_examples.Goals as goal

pub returns : goal.returns
returns c = examples
