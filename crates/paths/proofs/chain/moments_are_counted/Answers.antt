use Rattle.paths.proofs.Moments.{most_held}
use Rattle.paths.proofs.chain.moments_are_counted.Goals as goal

pub returns : goal.returns
returns c = most_held
