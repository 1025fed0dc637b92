-- Records in the sectors of a compound file.
--
--   start v ss i             where the sector at place i of the list ss begins
--   place v ss k             where the record k begins: in the sector k / (records per sector) of the list
--   Inside v n ss i          the sector at place i of the list lies in n bytes
--   room_for v ss            how many of the listed sectors can be used: every record in them has a number
--   count_place v n          where a file of n bytes keeps a count: in version 4, and refused if its header is shorter
--   count_of v bs            the count, where one is kept: by version 4, if its header has the place for it
--   sectored v bs ss u r     what the store means of which u sectors are in use and r can be
--   covered v ss i           the place i lies in a listed sector, or in the count
--   sector_beside l v bs ss  what lies beside it: the lender, the list, and the bytes in no listed sector and not in the count
--   Laid v n ss u r          what holds of such a store in n bytes: no sector in use stands twice or outside the bytes
--   filled bs a n            bs with n freed records end to end from the place a on
use Rattle.std.specs.Prelude.{ℕ, zero, suc, ◌+◌, ◌-◌, ◌*◌, ◌/◌, ◌%◌, ◌<◌, ◌≤◌, min, Bool, true, false, cond, List, [], ◌∷◌, length, Some, None, Option, Ok, Err, Result, if◌then◌else◌, ◌≢◌, nat_le, nat_lt, slice_index}
use Rattle.std.proofs.Math.Seq.{paste}
use Rattle.fields.specs.declared.version.Version.{Version}
use Rattle.fields.specs.declared.version.Version.TheVariants.{V3, V4}
use Rattle.fields.specs.Versions.{sector_length, records_per_sector}
use Rattle.records.specs.Bytes.{u32_at}
use Rattle.stores.specs.declared.unfit.Unfit.{Unfit}
use Rattle.stores.specs.declared.unfit.Unfit.TheVariants.{BadCount}
use Rattle.stores.specs.Meaning.{Meaning, Beside, max_records, freed}
use Rattle.stores.specs.Places.{records_at, outside}

abbrev pub start : Version → List ℕ → ℕ → ℕ
start v ss i = (slice_index ss i + 1) * sector_length v

abbrev pub place : Version → List ℕ → ℕ → ℕ
place v ss k = start v ss (k / records_per_sector v) + k % records_per_sector v * 128

abbrev pub Inside : Version → ℕ → List ℕ → ℕ → Type 0
Inside v n ss i = (slice_index ss i + 2) * sector_length v ≤ n

abbrev pub room_for : Version → List ℕ → ℕ
room_for v ss = min (length ss) (max_records / records_per_sector v)

abbrev pub count_place : Version → ℕ → Result (Option ℕ) Unfit
count_place V3 n = Ok None
count_place V4 n = (if nat_le 44 n then Ok (Some 40) else Err BadCount)

abbrev pub count_of : Version → List ℕ → Option ℕ
count_of V3 bs = None
count_of V4 bs = (if nat_le 44 (length bs) then Some (u32_at bs 40) else None)

abbrev pub sectored : Version → List ℕ → List ℕ → ℕ → ℕ → Meaning
sectored v bs ss u r = record { version = v; records = records_at bs (place v ss) (u * records_per_sector v); growth = records_per_sector v; left = r - u; posted = count_of v bs }

abbrev pub in_sector : ℕ → ℕ → ℕ → Bool
in_sector n s i = cond (nat_le ((s + 1) * n) i) (nat_lt i ((s + 2) * n)) false

abbrev pub in_sectors : ℕ → List ℕ → ℕ → Bool
in_sectors n [] i = false
in_sectors n (s ∷ ss) i = cond (in_sector n s i) true (in_sectors n ss i)

abbrev pub in_count : Version → ℕ → Bool
in_count V3 i = false
in_count V4 i = cond (nat_le 40 i) (nat_lt i 44) false

abbrev pub covered : Version → List ℕ → ℕ → Bool
covered v ss i = cond (in_count v i) true (in_sectors (sector_length v) ss i)

abbrev pub sector_beside : ℕ → Version → List ℕ → List ℕ → Beside
sector_beside l v bs ss = record { lender = l; list = ss; outside = outside (covered v ss) bs }

pub record Laid (v : Version) (n : ℕ) (ss : List ℕ) (u r : ℕ) : Type 0 where
  pub few : u ≤ r
  pub listed : r ≤ length ss
  pub numbered : r * records_per_sector v ≤ max_records
  pub inside : (i : ℕ) → i < r → Inside v n ss i
  pub apart : (i j : ℕ) → i < j → j < r → slice_index ss i ≢ slice_index ss j

abbrev pub filled : List ℕ → ℕ → ℕ → List ℕ
filled bs a zero = bs
filled bs a (suc n) = paste (filled bs a n) (a + n * 128) freed (length freed)
