use Rattle.records.proofs.RoundTrips.{reads_back}
use Rattle.records.proofs.laws.written_reads_back.Goals as goal

pub returns : goal.returns
returns c = reads_back
