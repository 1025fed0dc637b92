use Rattle.std.proofs.Common.{◌≡◌}
use Rattle.names.proofs.FoldedOrder.{folded_cmp}
use Rattle.names.proofs.order.compare_folded.Given as goal

-- what is left gives the answer for the whole
abbrev pub invariant-loop-x : goal.invariant-loop-x
invariant-loop-x g l =
    folded_cmp (g.F.Folding.folds l.folding) l.x-iterator.units.now l.others.units.now ≡ folded_cmp (g.F.Folding.folds l.folding) l.left l.right
