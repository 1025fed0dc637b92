use Rattle.std.proofs.Common.{arith}
use Rattle.sector_store.proofs.ListedSectors.{surveyed_laid}
use Rattle.sector_store.proofs.SectorStore.claim.Goals as goal

pub invariant_of-self : goal.invariant_of-self
invariant_of-self c =
    let s = c.in_ok-room.ensures.answer in
    record { laid = surveyed_laid _ _ _ c.args.used c.in_ok-room.room s.2 s.0 (omega arith) }
