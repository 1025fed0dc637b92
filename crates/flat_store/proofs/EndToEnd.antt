-- Records end to end lie in the bytes and apart from each other, and what a write and a growth make of them.
use Rattle.std.proofs.Common.{◌≡◌, ℕ, ◌+◌, ◌-◌, ◌/◌, ◌<◌, ◌≤◌, min, ltb, List, [], length, get_or, replicate, ap, inl, inr, ⊎_elim, arith, lt-ltb}
use lib.Seq.{paste}
use Rattle.std.proofs.lemmas.Bool.{cases_lt}
use Rattle.fields.specs.declared.version.Version.{Version}
use Rattle.stores.specs.Meaning.{with_bytes, with_growth, freed}
use Rattle.stores.specs.Places.{record_at, Apart}
use Rattle.stores.proofs.Freed.{length-freed}
use Rattle.stores.proofs.Pasted.{length_pasted}
use Rattle.stores.proofs.Placed.{length-records_at, get_or-records_at, written_records, added_record, outside_stands}
use Rattle.flat_store.specs.Flat.{place, room, flat, flat_beside}
use Rattle.flat_store.specs.Wholes.{room_fits, fit}

apart : (n : ℕ) → Apart place n
apart n j k hj hk ne =
    ⊎_elim (λ (a : j < k). inl (omega arith)) (λ (b : k ≤ j). let lt : k < j = omega (arith, ne) in inr (omega arith)) (cases_lt j k)

pub length-flat : (v : Version) (bs : List ℕ) (n : ℕ) → length (flat v bs n).records ≡ n
length-flat v bs n = length-records_at bs place n

pub get_or-flat : (v : Version) (bs : List ℕ) (n k : ℕ) → k < n → get_or (flat v bs n).records k [] ≡ record_at bs (place k)
get_or-flat v bs n k h = get_or-records_at bs place n k h

pub same_room : (bs bs' : List ℕ) → length bs' ≡ length bs → room bs' ≡ room bs
same_room bs bs' e = ap (λ l. min (l / 128) 0xffff_fffb) e

-- a write changes the bytes of its record
pub flat-written : (v : Version) (bs xs : List ℕ) (n j o : ℕ) → n ≤ room bs → j < n → o + length xs ≤ 128
    → flat v (paste bs (place j + o) xs (length xs)) n ≡ with_bytes (flat v bs n) j o xs
flat-written v bs xs n j o h hj ho =
    let f : place j + 128 ≤ length bs = fit bs n h j hj in
    let r : room (paste bs (place j + o) xs (length xs)) ≡ room bs = same_room _ _ (length_pasted bs xs (place j + o) (omega arith)) in
    let w = written_records bs xs place n j o (fit bs n h) (apart n) hj ho in
    rw r (ap (λ (rs : List (List ℕ)). record { version = v; records = rs; growth = 1; left = room bs - n; posted = (flat v bs n).posted }) w)

-- and nothing beside the store
pub flat_beside_written : (l : ℕ) (bs xs : List ℕ) (p : ℕ) → p + length xs ≤ place (room bs)
    → flat_beside l (paste bs p xs (length xs)) ≡ flat_beside l bs
flat_beside_written l bs xs p h =
    let hp : p + length xs ≤ length bs = omega (arith, room_fits bs) in
    let r : room (paste bs p xs (length xs)) ≡ room bs = same_room _ _ (length_pasted bs xs p hp) in
    rw r (ap (λ (os : List ℕ). record { lender = l; list = []; outside = os })
    (outside_stands (λ i. ltb i (place (room bs))) bs xs p hp (λ i lo hi. lt-ltb i (place (room bs)) (omega arith))))

-- a growth adds the freed record
pub flat_grown : (v : Version) (bs : List ℕ) (n : ℕ) → n < room bs
    → flat v (paste bs (place n) freed (length freed)) (n + 1) ≡ with_growth (flat v bs n) (replicate 1 freed) ((room bs - n) - 1)
flat_grown v bs n h =
    let hp : place n + length freed ≤ length bs = omega (arith, room_fits bs, length-freed) in
    let r : room (paste bs (place n) freed (length freed)) ≡ room bs = same_room _ _ (length_pasted bs freed (place n) hp) in
    let l : room bs - (n + 1) ≡ (room bs - n) - 1 = omega arith in
    let a = added_record bs freed place n (fit bs (n + 1) (omega arith)) (apart (n + 1)) length-freed in
    rw (r, l) (ap (λ (rs : List (List ℕ)). record { version = v; records = rs; growth = 1; left = (room bs - n) - 1; posted = (flat v bs n).posted }) a)
