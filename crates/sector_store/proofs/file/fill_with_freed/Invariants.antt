use Rattle.std.proofs.Common.{◌≡◌}
use Rattle.sector_store.specs.Sectors.{filled}
use Rattle.sector_store.proofs.file.fill_with_freed.Given as goal

abbrev pub invariant-loop-i : goal.invariant-loop-i
invariant-loop-i l = l.bytes ≡ filled l.initial.bytes l.at l.i
