use Rattle.std.proofs.Common.{◌-◌, length}
use Rattle.cells.specs.Chains.{end_of, head_at, next_at, In, Step}
use Rattle.cells.proofs.chain.find_gap.Given as goal

abbrev pub invariant-loop-at : goal.invariant-loop-at
invariant-loop-at g l = Step (In g.K.Key.hashed l.cells l.bucket) (head_at l.cells) (next_at l.cells) l.bucket l.f l.before l.after

abbrev pub decreases-loop-at : goal.decreases-loop-at
decreases-loop-at g l = length l.cells - end_of l.after
