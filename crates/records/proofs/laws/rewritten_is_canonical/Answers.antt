use Rattle.records.proofs.RoundTrips.{canonical_again}
use Rattle.records.proofs.laws.rewritten_is_canonical.Goals as goal

pub returns : goal.returns
returns c = canonical_again
