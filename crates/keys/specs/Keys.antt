-- The kinds of key.
--
-- seed        the hash of nothing
-- mixed       a hash with one more number mixed in
-- mixed_all   a hash with the numbers of a list mixed in, one by one
-- Child       a name below a storage: the storage's number and the name's key
-- child_of    the child that a ChildKey stands for
-- same_child  whether two stand for the same child
-- child_hash  the hash of a ChildKey
-- same_sector whether two sector numbers are equal
-- sector_hash the hash of a sector number

use Rattle.std.specs.Prelude.{ℕ, ◌*◌, ◌/◌, ◌%◌, Bool, ◌&&◌, List, fold, ◌==◌, bit_xor}
use Rattle.names.specs.Keys.{Key, keyed, same_key}
use Rattle.keys.specs.declared.child.ChildKey.{ChildKey}
use Rattle.keys.specs.declared.sector.SectorNumber.{SectorNumber}

abbrev pub seed : ℕ
seed = 2166136261

unfoldable pub mixed : ℕ → ℕ → ℕ
mixed hash number = let spread : ℕ = bit_xor hash number * 2654435761 % 4294967296 in bit_xor spread (spread / 32768)

abbrev pub mixed_all : ℕ → List ℕ → ℕ
mixed_all hash numbers = fold mixed hash numbers

pub record Child : Type 0 where
  pub parent : ℕ
  pub name : Key

abbrev pub child_of : ChildKey → Child
child_of k = record { parent = k.parent; name = keyed k.name }

abbrev pub same_child : ChildKey → ChildKey → Bool
same_child x y = (x.parent == y.parent) && same_key x.name y.name

abbrev pub child_hash : ChildKey → ℕ
child_hash k = mixed_all (mixed (mixed seed k.parent) (keyed k.name).units) (keyed k.name).folded

abbrev pub same_sector : SectorNumber → SectorNumber → Bool
same_sector x y = x.0 == y.0

abbrev pub sector_hash : SectorNumber → ℕ
sector_hash x = mixed seed x.0
