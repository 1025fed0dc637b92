-- What holds of the sizes of a flat store, which the law of stores cites.
--
--   room_fits bs  the records that there is room for lie in the bytes
--   fit bs n h    so do fewer
--   whole         the records have their size and their number, and the count is a number of 32 bits
use Rattle.std.specs.Prelude.{ℕ, ◌*◌, ◌≤◌, List, length}
use Rattle.std.proofs.Common.{div-add-mod', arith}
use native.Mathlib.Nat.{mod-one}
use Rattle.fields.specs.declared.version.Version.{Version}
use Rattle.stores.specs.Meaning.{Whole}
use Rattle.stores.specs.Places.{Fit}
use Rattle.stores.proofs.Placed.{length-records_at, sized_records_at}
use Rattle.flat_store.specs.Flat.{place, room, flat}

pub room_fits : (bs : List ℕ) → room bs * 128 ≤ length bs
room_fits bs = omega (arith, div-add-mod' (length bs) 128)

pub fit : (bs : List ℕ) (n : ℕ) → n ≤ room bs → Fit place n (length bs)
fit bs n h k hk = omega (arith, room_fits bs)

pub whole : (v : Version) (bs : List ℕ) (n : ℕ) → n ≤ room bs → Whole (flat v bs n)
whole v bs n h = record {
  sized = sized_records_at bs place n (fit bs n h);
  some = omega arith;
  whole = mod-one _;
  few = omega (arith, length-records_at bs place n);
}
