-- What holds of every record and every entry.
--
--   StrictIsExact         Strict reads a record exactly where an allowed entry stands in it, and gives that entry
--   WrittenReadsBack      an entry is written to 128 bytes; and where it is allowed, Strict reads those as itself
--   StrictInPermissive    what Strict reads, Permissive reads to the same entry
--   RewrittenIsCanonical  what is read in either mode and written again is the record put in order, and Strict reads
--                         that to the same entry
--   RecordsTell           entries whose records are equal are equal
--   RelinkedInPlace       the record of an entry with one link changed is its record with those four bytes changed
--   MadeAreAllowed        entries as they are made are allowed: free ones, the root of an empty directory, a storage
--                         with any time, and a stream with none
use Rattle.std.specs.Prelude.{◌≡◌, ℕ, ◌+◌, ◌^◌, ◌<◌, List, ◌++◌, take, drop, Ok}
use Rattle.fields.specs.declared.objtype.ObjType.TheVariants.{Storage, Stream}
use Rattle.fields.specs.declared.version.Version.{Version}
use Rattle.fields.specs.declared.validate.Validation.{Validation}
use Rattle.fields.specs.declared.validate.Validation.TheVariants.{Permissive, Strict}
use Rattle.fields.specs.declared.link.Link.{Link}
use Rattle.records.specs.declared.direntry.DirEntry.{DirEntry}
use Rattle.records.specs.Bytes.{bytes_of}
use Rattle.fields.specs.Offsets.{link_offset}
use Rattle.records.specs.Rules.{reads}
use Rattle.records.specs.Entries.{fresh, blank, new_root, linked}
use Rattle.records.specs.Writing.{written}
use Rattle.records.specs.Allowed.{IsRecord, Sized, Allowed, Stands, Nameable, Fit, canonical}

abbrev pub StrictIsExact : Type 0
StrictIsExact = (bs : List ℕ) (v : Version) (e : DirEntry) → IsRecord bs →
    (reads bs v Strict ≡ Ok e → Stands bs v e × Allowed v e) × (Stands bs v e × Allowed v e → reads bs v Strict ≡ Ok e)

abbrev pub WrittenReadsBack : Type 0
WrittenReadsBack = (v : Version) (e : DirEntry) → Sized e → IsRecord (written e) × (Allowed v e → reads (written e) v Strict ≡ Ok e)

abbrev pub StrictInPermissive : Type 0
StrictInPermissive = (bs : List ℕ) (v : Version) (e : DirEntry) → reads bs v Strict ≡ Ok e → reads bs v Permissive ≡ Ok e

abbrev pub RewrittenIsCanonical : Type 0
RewrittenIsCanonical = (bs : List ℕ) (v : Version) (m : Validation) (e : DirEntry) → IsRecord bs → reads bs v m ≡ Ok e →
    (written e ≡ canonical bs v) × (reads (canonical bs v) v Strict ≡ Ok e)

abbrev pub RecordsTell : Type 0
RecordsTell = (e f : DirEntry) → Sized e → Sized f → written e ≡ written f → e ≡ f

abbrev pub RelinkedInPlace : Type 0
RelinkedInPlace = (e : DirEntry) (l : Link) (x : ℕ) → Sized e →
    written (linked e l x) ≡ take (link_offset l) (written e) ++ (bytes_of 4 x ++ drop (link_offset l + 4) (written e))

pub record MadeAreAllowed (v : Version) : Type 0 where
  pub free : Fit v blank
  pub root : Fit v new_root
  pub storage : (us : List ℕ) (t : ℕ) → Nameable us → t < 2 ^ 64 → Fit v (fresh us Storage (record { 0 = t }))
  pub stream : (us : List ℕ) → Nameable us → Fit v (fresh us Stream (record { 0 = 0 }))
