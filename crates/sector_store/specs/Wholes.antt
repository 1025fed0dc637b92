-- What holds of the sizes of a store of sectors, which the law of stores cites.
--
--   split, sector_below        a record's number, as the place of its sector in the list and its place in the sector
--   fit, fit_used, used_room   the records lie in the bytes: those that can be in use, and those that are, which are fewer
--   length-sectored            how many records a store has
--   whole_sectored             the records have their size and come in whole sectors, and their count is a number of 32 bits
use Rattle.std.specs.Prelude.{◌≡◌, ℕ, ◌+◌, ◌*◌, ◌/◌, ◌%◌, ◌<◌, ◌≤◌, List, length}
use Rattle.std.proofs.Common.{ap, ◌∙◌, mod-lt, div-add-mod', arith}
use Rattle.fields.specs.declared.version.Version.{Version}
use Rattle.fields.specs.declared.version.Version.TheVariants.{V3, V4}
use Rattle.fields.specs.Versions.{records_per_sector}
use Rattle.stores.specs.Meaning.{Whole}
use Rattle.stores.specs.Places.{Fit}
use Rattle.stores.proofs.Placed.{length-records_at, sized_records_at}
use Rattle.sector_store.specs.Sectors.{place, sectored, Laid}

-- a number in sectors: the sector's place in the list, and the place in the sector
pub split : (v : Version) (k : ℕ) → (k ≡ k / records_per_sector v * records_per_sector v + k % records_per_sector v) × (k % records_per_sector v < records_per_sector v)
split V3 k = (omega (arith, div-add-mod' k 4), mod-lt k (omega arith))
split V4 k = (omega (arith, div-add-mod' k 32), mod-lt k (omega arith))

pub sector_below : (v : Version) (k r : ℕ) → k < r * records_per_sector v → k / records_per_sector v < r
sector_below V3 k r h = omega (arith, split V3 k)
sector_below V4 k r h = omega (arith, split V4 k)

pub fit : (v : Version) (n : ℕ) (ss : List ℕ) (u r : ℕ) → Laid v n ss u r → Fit (place v ss) (r * records_per_sector v) n
fit V3 n ss u r l k h = omega (arith, split V3 k, l.inside (k / 4) (sector_below V3 k r h))
fit V4 n ss u r l k h = omega (arith, split V4 k, l.inside (k / 32) (sector_below V4 k r h))

-- what is in use can be
pub used_room : (v : Version) (n : ℕ) (ss : List ℕ) (u r : ℕ) → Laid v n ss u r → u * records_per_sector v ≤ r * records_per_sector v
used_room V3 n ss u r l = omega (arith, l.few)
used_room V4 n ss u r l = omega (arith, l.few)

pub fit_used : (v : Version) (n : ℕ) (ss : List ℕ) (u r : ℕ) → Laid v n ss u r → Fit (place v ss) (u * records_per_sector v) n
fit_used v n ss u r l k h = fit v n ss u r l k (omega (arith, used_room v n ss u r l))

pub length-sectored : (v : Version) (bs ss : List ℕ) (u r : ℕ) → length (sectored v bs ss u r).records ≡ u * records_per_sector v
length-sectored v bs ss u r = length-records_at bs (place v ss) (u * records_per_sector v)

pub whole_sectored : (v : Version) (bs ss : List ℕ) (u r : ℕ) → Laid v (length bs) ss u r → Whole (sectored v bs ss u r)
whole_sectored v bs ss u r l = record {
  sized = sized_records_at bs (place v ss) (u * records_per_sector v) (fit_used v (length bs) ss u r l);
  some = some v;
  whole = ap (λ (k : ℕ). k % records_per_sector v) (length-sectored v bs ss u r) ∙ whole v u;
  few = omega (arith, length-sectored v bs ss u r, used_room v (length bs) ss u r l, l.numbered);
}
  where
    some : (v : Version) → 1 ≤ records_per_sector v
    some V3 = omega arith
    some V4 = omega arith

    whole : (v : Version) (u : ℕ) → u * records_per_sector v % records_per_sector v ≡ 0
    whole V3 u = omega arith
    whole V4 u = omega arith
