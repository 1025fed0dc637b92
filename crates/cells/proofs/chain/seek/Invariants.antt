use Rattle.std.proofs.Common.{◌-◌, length}
use Rattle.cells.specs.Chains.{end_of, Passed}
use Rattle.cells.proofs.chain.seek.Given as goal

abbrev pub invariant-loop-at : goal.invariant-loop-at
invariant-loop-at g l = Passed g.K.PartialEq.eq g.K.Key.hashed l.cells l.key l.link

abbrev pub decreases-loop-at : goal.decreases-loop-at
decreases-loop-at g l = length l.cells - end_of l.link
