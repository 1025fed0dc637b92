use Rattle.std.proofs.Common.{◌≡◌, length}
use Rattle.paths.specs.Pieces.{cut}
use Rattle.paths.specs.Chains.{left}
use Rattle.paths.specs.Trails.{Onward}
use Rattle.paths.proofs.chain.follow.Given as goal

abbrev pub invariant-loop-part : goal.invariant-loop-part
invariant-loop-part l = record {
  lent : l.part-iterator.path.now ≡ l.path;
  onward : Onward l.path (cut 0 l.path) (left l.part-iterator) l.trail;
}

abbrev pub decreases-loop-part : goal.decreases-loop-part
decreases-loop-part l = length (left l.part-iterator)
