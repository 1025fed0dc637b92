use Rattle.std.proofs.Common.{ap, ◌∙◌, ap₂}
use Rattle.names.proofs.FoldedOrder.{folded_cmp, equal_so_far, decided, right_ends, left_ends, both_end}
use Rattle.names.proofs.order.compare_folded.Goals as goal

pub loop-x-init : goal.loop-x-init
loop-x-init g c =
    ap₂ (folded_cmp (g.F.Folding.folds c.args.folding.now)) (ap (λ s. s.units.now) c.into_iter-x-iterator.ensures.into_iter_gives ∙ c.code_points-x-items.ensures) c.code_points-others.ensures

pub loop-x-preserved : goal.loop-x-preserved
loop-x-preserved g c =
    equal_so_far (g.F.Folding.folds c.args.folding.now) c.loop-x.x-iterator.units.now c.loop-x.others.units.now _ c.loop-x.invariant
    c.in-Some.x c.in-Some-next.y c.fold.result c.fold-in-loop-x.result c.next.new.self.units.now c.next-in-loop-x.new.self.units.now
    c.in-Some.ensures.steps.first c.in-Some-next.ensures.steps.first c.fold.ensures c.fold-in-loop-x.ensures c.in-Equal.ensures

pub returns-in_default-cmp : goal.returns-in_default-cmp
returns-in_default-cmp g c =
    decided (g.F.Folding.folds c.args.folding.now) c.loop-x.x-iterator.units.now c.loop-x.others.units.now _ c.loop-x.invariant
    c.in-Some.x c.in-Some-next.y c.fold.result c.fold-in-loop-x.result c.next.new.self.units.now c.next-in-loop-x.new.self.units.now c.cmp.result
    c.in-Some.ensures.steps.first c.in-Some-next.ensures.steps.first c.fold.ensures c.fold-in-loop-x.ensures c.cmp.ensures c.in_default-cmp.not-Equal

pub returns-in_default : goal.returns-in_default
returns-in_default g c =
    right_ends (g.F.Folding.folds c.args.folding.now) c.loop-x.x-iterator.units.now c.loop-x.others.units.now _ c.loop-x.invariant
    _ _ c.in-Some.ensures.steps.first c.in_default.ensures.steps.first.0

pub returns-in-Some-next-2 : goal.returns-in-Some-next-2
returns-in-Some-next-2 g c =
    left_ends (g.F.Folding.folds c.args.folding.now) c.loop-x.x-iterator.units.now c.loop-x.others.units.now _ c.loop-x.invariant
    _ _ c.in-None.ensures.steps.first.0 c.in-Some-next-2.ensures.steps.first

pub returns-in-None-next : goal.returns-in-None-next
returns-in-None-next g c =
    both_end (g.F.Folding.folds c.args.folding.now) c.loop-x.x-iterator.units.now c.loop-x.others.units.now _ c.loop-x.invariant
    c.in-None.ensures.steps.first.0 c.in-None-next.ensures.steps.first.0
