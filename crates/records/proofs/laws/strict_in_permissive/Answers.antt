use Rattle.records.proofs.RoundTrips.{permissive}
use Rattle.records.proofs.laws.strict_in_permissive.Goals as goal

pub returns : goal.returns
returns c = permissive
