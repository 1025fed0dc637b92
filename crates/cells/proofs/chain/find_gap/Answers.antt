use Rattle.std.proofs.Common.{◌≤◌, sym, arith}
use Rattle.cells.specs.Chains.{end_of}
use Rattle.cells.proofs.Gaps.{gap_next}
use Rattle.cells.proofs.chain.find_gap.Goals as goal

pub loop-at-preserved : goal.loop-at-preserved
loop-at-preserved g c = (gap_next g.K.Key.hashed _ _ _ _ _ _ _ c.requires.kept (omega arith) c.requires.inside c.loop-at.invariant (sym c.in-Some.ensures) c.if-at-f.true).0

pub loop-at-smaller : goal.loop-at-smaller
loop-at-smaller g c = (gap_next g.K.Key.hashed _ _ _ _ _ _ _ c.requires.kept (omega arith) c.requires.inside c.loop-at.invariant (sym c.in-Some.ensures) c.if-at-f.true).1

pub returns : goal.returns
returns g c =
    let past : c.args.f ≤ end_of c.get.result = grind arith in
    record { step = c.loop-at.invariant; past = rw c.get.ensures at past }
