-- What a store of sectors means after a write, a growth and a post, and what lies beside it.
use Rattle.std.proofs.Common.{Bool, ◌≡◌, ℕ, ◌+◌, ◌-◌, ◌*◌, ◌/◌, ◌%◌, ◌^◌, ◌<◌, ◌≤◌, true, false, cond, ltb, leb, List, [], ◌++◌, length, get_or, take, drop, replicate, Some, None, Option, Ok, Err, Result, sym, refl, ap, ◌∙◌, div-add-mod', arith, lt-ltb, le-leb, ⊎_elim}
use lib.Seq.{paste}
use Rattle.std.proofs.lemmas.Bool.{cases_lt, lt-leb}
use Rattle.std.specs.Option.{option_map}
use Rattle.fields.specs.declared.version.Version.{Version}
use Rattle.fields.specs.declared.version.Version.TheVariants.{V3, V4}
use Rattle.fields.specs.Versions.{sector_length, records_per_sector}
use Rattle.records.specs.Bytes.{number, bytes_of, u32_at}
use Rattle.records.proofs.NumbersBack.{number_bytes}
use Rattle.stores.specs.declared.unfit.Unfit.{Unfit}
use Rattle.stores.specs.declared.unfit.Unfit.TheVariants.{BadCount}
use Rattle.stores.specs.Meaning.{with_bytes, with_growth, with_count, growths_held, freed}
use Rattle.stores.specs.Places.{record_at, records_at, Apart}
use Rattle.stores.proofs.Pasted.{length_pasted, part_before, part_here}
use Rattle.stores.proofs.Placed.{get_or-records_at, written_records, outside_stands, records_behind}
use Rattle.sector_store.specs.Sectors.{start, place, count_place, count_of, sectored, covered, sector_beside, filled, Laid}
use Rattle.sector_store.proofs.ListedSectors.{apart, behind_header, covered_sector, in_its_sector}
use Rattle.sector_store.specs.Wholes.{sector_below, used_room, fit_used, length-sectored}
use Rattle.sector_store.proofs.Filled.{length-filled, filled_records, outside-filled, part_before_filled}

pub room_numbered : (v : Version) (n : ℕ) (ss : List ℕ) (u r : ℕ) → Laid v n ss u r → r ≤ 0xffff_fffb
room_numbered V3 n ss u r l = omega (arith, l.numbered)
room_numbered V4 n ss u r l = omega (arith, l.numbered)

pub used_numbered : (v : Version) (n : ℕ) (ss : List ℕ) (u r : ℕ) → Laid v n ss u r → u * records_per_sector v ≤ 0xffff_fffb
used_numbered v n ss u r l = omega (arith, used_room v n ss u r l, l.numbered)

apart_used : (v : Version) (n : ℕ) (ss : List ℕ) (u r : ℕ) → Laid v n ss u r → Apart (place v ss) (u * records_per_sector v)
apart_used v n ss u r l j k hj hk ne = apart v n ss u r l j k (omega (arith, used_room v n ss u r l)) (omega (arith, used_room v n ss u r l)) ne

pub get_or-sectored : (v : Version) (bs ss : List ℕ) (u r k : ℕ) → k < u * records_per_sector v → get_or (sectored v bs ss u r).records k [] ≡ record_at bs (place v ss k)
get_or-sectored v bs ss u r k h = get_or-records_at bs (place v ss) (u * records_per_sector v) k h

-- a record in use lies in the bytes
pub place_fits : (v : Version) (n : ℕ) (ss : List ℕ) (u r k : ℕ) → Laid v n ss u r → k < u * records_per_sector v → place v ss k + 128 ≤ n
place_fits v n ss u r k l h = fit_used v n ss u r l k h

pub index_listed : (v : Version) (n : ℕ) (ss : List ℕ) (u r k : ℕ) → Laid v n ss u r → k < u * records_per_sector v → k / records_per_sector v < length ss
index_listed v n ss u r k l h = omega (arith, sector_below v k u h, l.few, l.listed)

-- a count is kept where the header keeps it
abbrev count_at : Result (Option ℕ) Unfit → List ℕ → Option ℕ
count_at (Ok (Some p)) bs = Some (u32_at bs p)
count_at (Ok None) bs = None
count_at (Err e) bs = None

pub counted_at : (v : Version) (bs : List ℕ) → count_of v bs ≡ count_at (count_place v (length bs)) bs
counted_at V3 bs = refl
counted_at V4 bs = by_room (leb 44 (length bs))
  where
    by_room : (b : Bool) → cond b (Some (u32_at bs 40)) None ≡ count_at (cond b (Ok (Some 40)) (Err BadCount)) bs
    by_room true = refl
    by_room false = refl

pub count_within : (v : Version) (n p : ℕ) → count_place v n ≡ Ok (Some p) → (p ≡ 40) × (44 ≤ n)
count_within V3 n p e = absurd cc
count_within V4 n p e = ⊎_elim
    (λ (lt : n < 44). absurd (let h = simp (lt-leb 44 n lt) at e in cc))
    (λ (le : 44 ≤ n). let h = simp (le-leb 44 n le) at e in (cc, le))
    (cases_lt n 44)

-- the count stands where what is written lies behind it
same_count : (v : Version) (bs bs' : List ℕ) → length bs' ≡ length bs → take 4 (drop 40 bs') ≡ take 4 (drop 40 bs) → count_of v bs' ≡ count_of v bs
same_count v bs bs' l e = counted_at v bs' ∙ rw l (same (count_place v (length bs)) refl) ∙ sym (counted_at v bs)
  where
    same : (r : Result (Option ℕ) Unfit) → count_place v (length bs) ≡ r → count_at r bs' ≡ count_at r bs
    same (Ok (Some p)) h = let q = (count_within v (length bs) p h).0 in rw q (ap (λ (xs : List ℕ). Some (number xs)) e)
    same (Ok None) h = refl
    same (Err u) h = refl

pub sector_written : (v : Version) (bs ss xs : List ℕ) (u r j o : ℕ) → Laid v (length bs) ss u r → j < u * records_per_sector v → o + length xs ≤ 128
    → sectored v (paste bs (place v ss j + o) xs (length xs)) ss u r ≡ with_bytes (sectored v bs ss u r) j o xs
sector_written v bs ss xs u r j o l hj ho =
    let f = place_fits v (length bs) ss u r j l hj in
    let hp : (place v ss j + o) + length xs ≤ length bs = omega arith in
    let c = same_count v bs (paste bs (place v ss j + o) xs (length xs)) (length_pasted bs xs (place v ss j + o) hp)
    (part_before bs xs (place v ss j + o) 40 4 hp (omega (arith, behind_header v ss j))) in
    let w = written_records bs xs (place v ss) (u * records_per_sector v) j o (fit_used v (length bs) ss u r l) (apart_used v (length bs) ss u r l) hj ho in
    ap (λ (rs : List (List ℕ)). record { version = v; records = rs; growth = records_per_sector v; left = r - u; posted = count_of v (paste bs (place v ss j + o) xs (length xs)) }) w
    ∙ ap (λ (k : Option ℕ). record { version = v; records = (with_bytes (sectored v bs ss u r) j o xs).records; growth = records_per_sector v; left = r - u; posted = k }) c

beside_pasted : (l : ℕ) (v : Version) (bs ss xs : List ℕ) (p : ℕ) → p + length xs ≤ length bs → ((i : ℕ) → p ≤ i → i < p + length xs → covered v ss i ≡ true)
    → sector_beside l v (paste bs p xs (length xs)) ss ≡ sector_beside l v bs ss
beside_pasted l v bs ss xs p h inside = ap (λ (os : List ℕ). record { lender = l; list = ss; outside = os }) (outside_stands (covered v ss) bs xs p h inside)

pub beside_written : (n : ℕ) (v : Version) (bs ss xs : List ℕ) (u r j o : ℕ) → Laid v (length bs) ss u r → j < u * records_per_sector v → o + length xs ≤ 128
    → sector_beside n v (paste bs (place v ss j + o) xs (length xs)) ss ≡ sector_beside n v bs ss
beside_written n v bs ss xs u r j o l hj ho =
    let f = place_fits v (length bs) ss u r j l hj in
    let q = in_its_sector v ss j in
    beside_pasted n v bs ss xs (place v ss j + o) (omega arith)
    (λ i lo hi. covered_sector v ss (j / records_per_sector v) i (index_listed v (length bs) ss u r j l hj) (omega (arith, q.0)) (omega (arith, q.1)))

-- the sector that a growth takes
sector_size : (v : Version) → records_per_sector v * 128 ≡ sector_length v
sector_size V3 = refl
sector_size V4 = refl

pub next_fits : (v : Version) (n : ℕ) (ss : List ℕ) (u r : ℕ) → Laid v n ss u r → u < r → start v ss u + records_per_sector v * 128 ≤ n
next_fits v n ss u r l h = more v (l.inside u h)
  where
    more : (v : Version) → (get_or ss u 0 + 2) * sector_length v ≤ n → (get_or ss u 0 + 1) * sector_length v + records_per_sector v * 128 ≤ n
    more V3 h = omega arith
    more V4 h = omega arith

next_places : (v : Version) (ss : List ℕ) (u j : ℕ) → j < records_per_sector v → place v ss (u * records_per_sector v + j) ≡ start v ss u + j * 128
next_places v ss u j h =
    let q : (u * records_per_sector v + j) / records_per_sector v ≡ u = quotient v u j h in
    let m : (u * records_per_sector v + j) % records_per_sector v ≡ j = rest v u j h in
    ap (λ (k : ℕ). start v ss k + (u * records_per_sector v + j) % records_per_sector v * 128) q ∙ ap (λ (k : ℕ). start v ss u + k * 128) m
  where
    quotient : (v : Version) (u j : ℕ) → j < records_per_sector v → (u * records_per_sector v + j) / records_per_sector v ≡ u
    quotient V3 u j h = omega (arith, div-add-mod' (u * 4 + j) 4)
    quotient V4 u j h = omega (arith, div-add-mod' (u * 32 + j) 32)

    rest : (v : Version) (u j : ℕ) → j < records_per_sector v → (u * records_per_sector v + j) % records_per_sector v ≡ j
    rest V3 u j h = omega (arith, div-add-mod' (u * 4 + j) 4)
    rest V4 u j h = omega (arith, div-add-mod' (u * 32 + j) 32)

one_more : (v : Version) (u : ℕ) → (u + 1) * records_per_sector v ≡ u * records_per_sector v + records_per_sector v
one_more V3 u = omega arith
one_more V4 u = omega arith

pub grown_laid : (v : Version) (n : ℕ) (ss : List ℕ) (u r : ℕ) → Laid v n ss u r → u < r → Laid v n ss (u + 1) r
grown_laid v n ss u r l h = record { few = omega arith; listed = l.listed; numbered = l.numbered; inside = l.inside; apart = l.apart }

pub sector_grown : (v : Version) (bs ss : List ℕ) (u r : ℕ) → Laid v (length bs) ss u r → u < r
    → sectored v (filled bs (start v ss u) (records_per_sector v)) ss (u + 1) r ≡ with_growth (sectored v bs ss u r) (replicate (records_per_sector v) freed) ((r - u) - 1)
sector_grown v bs ss u r l h =
    let per = records_per_sector v in
    let a = start v ss u in
    let hn = next_fits v (length bs) ss u r l h in
    let l1 = grown_laid v (length bs) ss u r l h in
    let e = one_more v u in
    let rs : records_at (filled bs a per) (place v ss) ((u + 1) * per) ≡ records_at bs (place v ss) (u * per) ++ replicate per freed
    = rw e (filled_records bs (place v ss) a (u * per) per (next_places v ss u) hn
    (λ k hk. fit_used v (length bs) ss (u + 1) r l1 k (omega (arith, e)))
    (λ j k hj hk. apart_used v (length bs) ss (u + 1) r l1 j k (omega (arith, e)) (omega (arith, e)))) in
    let c = same_count v bs (filled bs a per) (length-filled bs a per hn) (part_before_filled bs a per 40 4 hn (header v (get_or ss u 0))) in
    let lf : r - (u + 1) ≡ (r - u) - 1 = omega arith in
    ap (λ (x : List (List ℕ)). record { version = v; records = x; growth = per; left = r - (u + 1); posted = count_of v (filled bs a per) }) rs
    ∙ ap (λ (x : Option ℕ). record { version = v; records = records_at bs (place v ss) (u * per) ++ replicate per freed; growth = per; left = r - (u + 1); posted = x }) c
    ∙ ap (λ (x : ℕ). record { version = v; records = records_at bs (place v ss) (u * per) ++ replicate per freed; growth = per; left = x; posted = count_of v bs }) lf
  where
    header : (v : Version) (s : ℕ) → 40 + 4 ≤ (s + 1) * sector_length v
    header V3 s = omega arith
    header V4 s = omega arith

pub beside_grown : (n : ℕ) (v : Version) (bs ss : List ℕ) (u r : ℕ) → Laid v (length bs) ss u r → u < r
    → sector_beside n v (filled bs (start v ss u) (records_per_sector v)) ss ≡ sector_beside n v bs ss
beside_grown n v bs ss u r l h =
    ap (λ (os : List ℕ). record { lender = n; list = ss; outside = os })
    (outside-filled (covered v ss) bs (start v ss u) (records_per_sector v) (next_fits v (length bs) ss u r l h)
    (λ i lo hi. covered_sector v ss u i (omega (arith, l.listed)) lo (omega (arith, sector_size v))))

-- the count after a post
held : (v : Version) (bs ss : List ℕ) (u r : ℕ) → growths_held (sectored v bs ss u r) ≡ u
held v bs ss u r = ap (λ (k : ℕ). k / records_per_sector v) (length-sectored v bs ss u r) ∙ back v u
  where
    back : (v : Version) (u : ℕ) → u * records_per_sector v / records_per_sector v ≡ u
    back V3 u = omega arith
    back V4 u = omega arith

pub sector_posted : (v : Version) (bs ss cs : List ℕ) (u r p : ℕ) → Laid v (length bs) ss u r → count_place v (length bs) ≡ Ok (Some p) → u < 2 ^ 32 → cs ≡ bytes_of 4 u
    → sectored v (paste bs p cs (length cs)) ss u r ≡ with_count (sectored v bs ss u r) (growths_held (sectored v bs ss u r))
sector_posted v bs ss cs u r p l hc hu e =
    let w = count_within v (length bs) p hc in
    let lc : length cs ≡ 4 = ap length e in
    let hp : p + length cs ≤ length bs = omega (arith, w.0, w.1) in
    let ln = length_pasted bs cs p hp in
    let rs = records_behind bs cs (place v ss) (u * records_per_sector v) p (fit_used v (length bs) ss u r l) hp (λ k hk. omega (arith, lc, w.0, behind_header v ss k)) in
    let here : u32_at (paste bs p cs (length cs)) p ≡ u
    = ap (λ (n : ℕ). number (take n (drop p (paste bs p cs (length cs))))) (sym lc) ∙ ap number (part_here bs cs p hp ∙ e) ∙ number_bytes 4 u hu in
    let c : count_of v (paste bs p cs (length cs)) ≡ Some u = counted_at v (paste bs p cs (length cs)) ∙ rw (ln, hc) (ap (λ (n : ℕ). Some n) here) in
    let c' : option_map (λ _. growths_held (sectored v bs ss u r)) (count_of v bs) ≡ Some u = ap (option_map (λ _. growths_held (sectored v bs ss u r))) (counted_at v bs) ∙ rw hc (ap (λ (n : ℕ). Some n) (held v bs ss u r)) in
    ap (λ (x : List (List ℕ)). record { version = v; records = x; growth = records_per_sector v; left = r - u; posted = count_of v (paste bs p cs (length cs)) }) rs
    ∙ ap (λ (x : Option ℕ). record { version = v; records = records_at bs (place v ss) (u * records_per_sector v); growth = records_per_sector v; left = r - u; posted = x }) (c ∙ sym c')

-- where none is kept, nothing is posted
pub sector_unposted : (v : Version) (bs ss : List ℕ) (u r n : ℕ) → count_of v bs ≡ None → sectored v bs ss u r ≡ with_count (sectored v bs ss u r) n
sector_unposted v bs ss u r n hc =
    let c : count_of v bs ≡ option_map (λ _. n) (count_of v bs) = rw hc refl in
    ap (λ (x : Option ℕ). record { version = v; records = records_at bs (place v ss) (u * records_per_sector v); growth = records_per_sector v; left = r - u; posted = x }) c

pub beside_posted : (n : ℕ) (v : Version) (bs ss cs : List ℕ) (p : ℕ) → count_place v (length bs) ≡ Ok (Some p) → length cs ≡ 4
    → sector_beside n v (paste bs p cs (length cs)) ss ≡ sector_beside n v bs ss
beside_posted n V3 bs ss cs p hc lc = absurd cc
beside_posted n V4 bs ss cs p hc lc =
    let w = count_within V4 (length bs) p hc in
    beside_pasted n V4 bs ss cs p (omega (arith, w.0, w.1)) (λ i lo hi. counted i (omega (arith, w.0)) (omega (arith, w.0)))
  where
    counted : (i : ℕ) → 40 ≤ i → i < 44 → covered V4 ss i ≡ true
    counted i lo hi = let e : cond (leb 40 i) (ltb i 44) false ≡ true = rw (le-leb 40 i lo, lt-ltb i 44 hi) refl in rw e refl
