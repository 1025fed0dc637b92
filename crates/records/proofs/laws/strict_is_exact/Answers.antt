use Rattle.records.proofs.RoundTrips.{exact}
use Rattle.records.proofs.laws.strict_is_exact.Goals as goal

pub returns : goal.returns
returns c = exact
