-- The record of a free entry.
use Rattle.std.proofs.Common.{◌≡◌, length, refl}
use Rattle.stores.specs.Meaning.{freed}

pub length-freed : length freed ≡ 128
unfolding freed
length-freed = refl
