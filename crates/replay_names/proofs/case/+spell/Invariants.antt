use Rattle.std.proofs.Common.{length}
use Rattle.replay_names.proofs.case.+spell.Given as goal

abbrev pub decreases-spell : goal.decreases-spell
decreases-spell l = length l.parts.now
