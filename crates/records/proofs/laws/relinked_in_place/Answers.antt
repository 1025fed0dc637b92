use Rattle.records.proofs.OneLinkChanged.{relinked}
use Rattle.records.proofs.laws.relinked_in_place.Goals as goal

pub returns : goal.returns
returns c = relinked
