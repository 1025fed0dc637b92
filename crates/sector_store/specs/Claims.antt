-- What a store of sectors is made of, and why it cannot be made.
--
--   FirstOutside v n ss i   the first place of the list ss whose sector does not lie in n bytes
--   Surveyed v n ss         no sector stands twice, and all lie in n bytes
--   Unfitting v n ss k u    why not, given k cells: too few of them, else the first sector that stands again, else the first
--                           that lies outside
--   Claimed v n ss k u      what a store is made of whose first u sectors are in use
--   Unclaimed v n ss k u e  why it is not: the list is unfitting, else too few of its sectors can be used, or the header
--                           has no place for the count
use Rattle.std.specs.Prelude.{◌≡◌, ℕ, ◌<◌, ◌≤◌, ◌⊎◌, List, length, Err, IsOk}
use Rattle.fields.specs.declared.version.Version.{Version}
use Rattle.cells.specs.Repeats.{Distinct, FirstRepeat}
use Rattle.stores.specs.declared.unfit.Unfit.{Unfit}
use Rattle.stores.specs.declared.unfit.Unfit.TheVariants.{FewCells, Repeated, Outside, BadCount}
use Rattle.sector_store.specs.Sectors.{Inside, room_for, count_place}

pub record FirstOutside (v : Version) (n : ℕ) (ss : List ℕ) (i : ℕ) : Type 0 where
  pub within : i < length ss
  pub out : Inside v n ss i → ⊥
  pub first : (j : ℕ) → j < i → Inside v n ss j

pub record Surveyed (v : Version) (n : ℕ) (ss : List ℕ) : Type 0 where
  pub distinct : Distinct ss
  pub inside : (i : ℕ) → i < length ss → Inside v n ss i

abbrev pub Unfitting : Version → ℕ → List ℕ → ℕ → Unfit → Type 0
Unfitting v n ss k FewCells = k < length ss
Unfitting v n ss k (Repeated i) = (length ss ≤ k) × FirstRepeat ss i
Unfitting v n ss k (Outside i) = (length ss ≤ k) × Distinct ss × FirstOutside v n ss i
Unfitting v n ss k BadCount = ⊥

pub record Claimed (v : Version) (n : ℕ) (ss : List ℕ) (k u : ℕ) : Type 0 where
  pub cells : length ss ≤ k
  pub sectors : Surveyed v n ss
  pub within : u ≤ room_for v ss
  pub counted : IsOk (count_place v n)

abbrev pub Unclaimed : Version → ℕ → List ℕ → ℕ → ℕ → Unfit → Type 0
Unclaimed v n ss k u e =
    Unfitting v n ss k e
    ⊎ ((e ≡ BadCount) × (length ss ≤ k) × Surveyed v n ss × ((room_for v ss < u) ⊎ (count_place v n ≡ Err BadCount)))
