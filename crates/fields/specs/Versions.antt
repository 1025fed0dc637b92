-- Versions of a compound file, and how closely its records are held to the format.
--
--   version_number v, version_of n  the number of a version, and the version of a number, if it has one
--   sector_length v                 the length of a sector, in bytes
--   records_per_sector v            how many records a sector holds
--   length_mask v                   the bits of a stream's length that count
--   cut v n                         what counts of a stream's length: version 3 has 32 bits of it
--   strict m                        whether nothing is put right
use Rattle.std.specs.Prelude.{ℕ, ◌%◌, Bool, true, false, cond, Some, None, Option, ◌==◌}
use Rattle.fields.specs.declared.version.Version.{Version}
use Rattle.fields.specs.declared.version.Version.TheVariants.{V3, V4}
use Rattle.fields.specs.declared.validate.Validation.{Validation}
use Rattle.fields.specs.declared.validate.Validation.TheVariants.{Permissive, Strict}

abbrev pub version_number : Version → ℕ
version_number V3 = 3
version_number V4 = 4

abbrev pub version_of : ℕ → Option Version
version_of n = cond (n == 3) (Some V3) (cond (n == 4) (Some V4) None)

abbrev pub sector_length : Version → ℕ
sector_length V3 = 512
sector_length V4 = 4096

abbrev pub records_per_sector : Version → ℕ
records_per_sector V3 = 4
records_per_sector V4 = 32

abbrev pub length_mask : Version → ℕ
length_mask V3 = 0xffff_ffff
length_mask V4 = 0xffff_ffff_ffff_ffff

abbrev pub cut : Version → ℕ → ℕ
cut V3 n = n % 0x1_0000_0000
cut V4 n = n

abbrev pub strict : Validation → Bool
strict Permissive = false
strict Strict = true
