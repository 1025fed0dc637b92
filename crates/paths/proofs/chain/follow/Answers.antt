use Rattle.std.proofs.Common.{◌*◌, ◌^◌, ◌<◌, length, sym, refl, ◌∙◌, subst, arith, rules}
use Rattle.paths.specs.Pieces.{cut}
use Rattle.paths.specs.Chains.{left, Stands}
use Rattle.paths.specs.Trails.{Onward}
use Rattle.paths.proofs.Cutting.{few_pieces}
use Rattle.paths.proofs.Following.{onward_up, onward_down, onward_read}
use Rattle.paths.proofs.chain.follow.Goals as goal

pub loop-part-preserved-in-Continue-1 : goal.loop-part-preserved-in-Continue-1
loop-part-preserved-in-Continue-1 c =
    let us = c.args.path.now in
    let before = onward_read us (cut 0 us) _ _ _ c.loop-part.trail c.in-Some.ensures.steps c.loop-part.invariant.onward in
    record {
      lent = c.in-Some.ensures.path ∙ c.loop-part.invariant.lent;
      onward = subst (Onward us (cut 0 us) (left c.next.new.self)) (sym c.leave.ensures.after) (onward_up us (cut 0 us) _ _ c.loop-part.trail before c.in-ParentDir.ensures c.in_ok-leave-in-ParentDir.ensures.value);
    }

pub enter-requires : goal.enter-requires
enter-requires c =
    let us = c.args.path.now in
    let few : length us * 2 < 2 ^ 64 = search rules in
    let before = onward_read us (cut 0 us) _ _ _ c.loop-part.trail c.in-Some.ensures.steps c.loop-part.invariant.onward in
    omega (arith, before.room, few_pieces 0 us)

pub loop-part-preserved : goal.loop-part-preserved
loop-part-preserved c =
    let us = c.args.path.now in
    let before = onward_read us (cut 0 us) _ _ _ c.loop-part.trail c.in-Some.ensures.steps c.loop-part.invariant.onward in
    let stands : Stands c.in-Some.part us = subst (Stands c.in-Some.part) c.loop-part.invariant.lent c.in-Some.ensures.lent in
    record {
      lent = c.in-Some.ensures.path ∙ c.loop-part.invariant.lent;
      onward = subst (Onward us (cut 0 us) (left c.next.new.self)) (sym c.enter.ensures) (onward_down us (cut 0 us) _ _ c.loop-part.trail before c.in-Some.part c.in-Normal.ensures refl stands);
    }
