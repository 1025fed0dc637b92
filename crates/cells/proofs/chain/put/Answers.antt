use Rattle.std.proofs.Common.{arith}
use Rattle.cells.proofs.Moves.{put_all}
use Rattle.cells.proofs.chain.put.Goals as goal

pub returns : goal.returns
returns g c =
    let d = put_all g.K.Key.hashed _ _ _ _ _ _ _ _ c.requires.kept (omega arith) c.requires.inside c.requires.free c.hash.ensures.tells c.find_gap-before.ensures (rw c.to.ensures at c.hook.ensures) in
    record { kept = d.0; held = d.1 }
