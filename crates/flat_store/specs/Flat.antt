-- Records end to end in lent bytes.
--
--   place k           where the record k begins
--   room bs           how many records the bytes have room for, as far as there are numbers for them
--   flat v bs n       what a flat store of n records means
--   flat_beside l bs  what lies beside it: the lender, and the bytes behind the last whole record
use Rattle.std.specs.Prelude.{ℕ, ◌-◌, ◌*◌, ◌/◌, min, List, [], length, None, nat_lt}
use Rattle.fields.specs.declared.version.Version.{Version}
use Rattle.stores.specs.Meaning.{Meaning, Beside, max_records}
use Rattle.stores.specs.Places.{records_at, outside}

abbrev pub place : ℕ → ℕ
place k = k * 128

abbrev pub room : List ℕ → ℕ
room bs = min (length bs / 128) max_records

abbrev pub flat : Version → List ℕ → ℕ → Meaning
flat v bs n = record { version = v; records = records_at bs place n; growth = 1; left = room bs - n; posted = None }

abbrev pub flat_beside : ℕ → List ℕ → Beside
flat_beside l bs = record { lender = l; list = []; outside = outside (λ i. nat_lt i (place (room bs))) bs }
