use Rattle.records.proofs.RoundTrips.{tells}
use Rattle.records.proofs.laws.records_tell.Goals as goal

pub returns : goal.returns
returns c = tells
