use Rattle.records.proofs.MadeAllowed.{made}
use Rattle.records.proofs.laws.made_are_allowed.Goals as goal

pub returns : goal.returns
returns c = made c.args.version
