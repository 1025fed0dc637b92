use Rattle.cells.proofs.Unwrapped.{unwrap}
use Rattle.cells.proofs.table.Table.seek.Goals as goal

pub seek-requires : goal.seek-requires
seek-requires g c = (unwrap c.args.self.now.sound).kept
