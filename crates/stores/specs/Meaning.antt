-- What a store of records means, and its changes.
--
--   Meaning              version, records, records to a growth, growths left, and the posted count where one is kept
--   with_record m n r    the record n is r, and all else stands
--   with_bytes m n o bs  the bytes bs stand in the record n from the offset o on, and all else stands
--   with_growth m rs l   the records rs follow the others, l growths are left, and all else stands
--   with_count m c       the posted count is c, where one is kept, and all else stands
--   growths_held m       how many growths the records make
--   freed                the record of a free entry
--   Whole m              records have 128 bytes, a growth adds at least one, the records come in whole growths, and their
--                        count is a number of 32 bits
--   max_records          how many records have a number of their own
--   Beside               what lies beside the meaning in lent memory: who lent it, a list of places, the bytes outside
use Rattle.std.specs.Prelude.{◌≡◌, ℕ, ◌/◌, ◌%◌, ◌^◌, ◌<◌, ◌≤◌, List, [], ◌++◌, length, Option, slice_index_or, slice_set}
use Rattle.std.proofs.Math.Seq.{paste}
use Rattle.std.specs.Option.{option_map}
use Rattle.fields.specs.declared.version.Version.{Version}
use Rattle.records.specs.Entries.{blank}
use Rattle.records.specs.Writing as writing

pub record Meaning : Type 0 where
  pub version : Version
  pub records : List (List ℕ)
  pub growth : ℕ
  pub left : ℕ
  pub posted : Option ℕ

abbrev pub with_record : Meaning → ℕ → List ℕ → Meaning
with_record m n r = record { version = m.version; records = slice_set m.records n r; growth = m.growth; left = m.left; posted = m.posted }

abbrev pub with_bytes : Meaning → ℕ → ℕ → List ℕ → Meaning
with_bytes m n o bs = with_record m n (paste (slice_index_or m.records n []) o bs (length bs))

abbrev pub with_growth : Meaning → List (List ℕ) → ℕ → Meaning
with_growth m rs l = record { version = m.version; records = m.records ++ rs; growth = m.growth; left = l; posted = m.posted }

abbrev pub with_count : Meaning → ℕ → Meaning
with_count m c = record { version = m.version; records = m.records; growth = m.growth; left = m.left; posted = option_map (λ _. c) m.posted }

abbrev pub growths_held : Meaning → ℕ
growths_held m = length m.records / m.growth

unfoldable pub freed : List ℕ
freed = writing.written blank

pub record Whole (m : Meaning) : Type 0 where
  pub sized : (k : ℕ) → k < length m.records → length (slice_index_or m.records k []) ≡ 128
  pub some : 1 ≤ m.growth
  pub whole : length m.records % m.growth ≡ 0
  pub few : length m.records < 2 ^ 32

abbrev pub max_records : ℕ
max_records = 0xffff_fffb

pub record Beside : Type 0 where
  pub lender : ℕ
  pub list : List ℕ
  pub outside : List ℕ
