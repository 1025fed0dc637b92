-- Rows worked out: those of names, what a name length gives, and the record of a free entry.
--
--   freed n    the record of a free entry, with n for its name length
--   Gives l n  every record with the name length l that is read, but for a root's, gives a name of n units; and the
--              freed record with that length is read so
--   Meets l n  every record with the name length l is refused with the number n
use Rattle.std.specs.Prelude.{◌≡◌, ℕ, false, List, ◌∷◌, ◌++◌, length, replicate, Ok, Err}
use Rattle.names.specs.Examples.{Examples as NameExamples}
use Rattle.fields.specs.declared.version.Version.{Version}
use Rattle.fields.specs.declared.validate.Validation.{Validation}
use Rattle.fields.specs.declared.validate.Validation.TheVariants.{Strict}
use Rattle.fields.specs.declared.malformed.Flaw.{Flaw}
use Rattle.records.specs.declared.direntry.DirEntry.{DirEntry}
use Rattle.records.specs.Bytes.{bytes_of}
use Rattle.fields.specs.Kinds.{is_root}
use Rattle.records.specs.Fields.{name_length, kind_in}
use Rattle.fields.specs.Refusals.{flaw_number}
use Rattle.records.specs.Rules.{reads}
use Rattle.records.specs.Entries.{blank}
use Rattle.records.specs.Writing.{written}

abbrev pub freed : ℕ → List ℕ
freed n = replicate 64 0 ++ (bytes_of 2 n ++ (0 ∷ 0 ∷ (replicate 12 255 ++ replicate 48 0)))

pub record Gives (l n : ℕ) : Type 0 where
  pub every : (bs : List ℕ) (v : Version) (m : Validation) (e : DirEntry) → length bs ≡ 128 → is_root (kind_in bs) ≡ false → name_length bs ≡ l → reads bs v m ≡ Ok e → length e.name ≡ n
  pub some : (v : Version) → (e : DirEntry) × (reads (freed l) v Strict ≡ Ok e) × (length e.name ≡ n)

abbrev pub Meets : ℕ → ℕ → Type 0
Meets l n = (bs : List ℕ) (v : Version) (m : Validation) → name_length bs ≡ l → (f : Flaw) × (reads bs v m ≡ Err f) × (flaw_number f ≡ n)

pub record Examples : Type 0 where
  -- the rows on names
  pub names : NameExamples
  pub empty : Gives 0 0
  pub null : Gives 2 0
  pub full : Gives 64 31
  pub long : Meets 65 20
  pub odd : Meets 3 21
  -- a free record is all zero, but for three empty links and a name length of 2
  pub free : written blank ≡ freed 2
