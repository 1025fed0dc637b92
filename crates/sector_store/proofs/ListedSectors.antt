-- Where the records of listed sectors lie: in the bytes, apart from each other, and in listed sectors.
use Rattle.std.proofs.Common.{◌≡◌, ℕ, zero, suc, ◌+◌, ◌*◌, ◌/◌, ◌%◌, ◌<◌, ◌≤◌, Bool, true, false, cond, ◌⊎◌, List, [], ◌∷◌, length, get_or, sym, refl, ap, ◌∙◌, inl, inr, ⊎_elim, arith, lt-ltb, le-leb}
use Rattle.std.proofs.lemmas.Bool.{cases_eq, cases_lt}
use Rattle.fields.specs.declared.version.Version.{Version}
use Rattle.fields.specs.declared.version.Version.TheVariants.{V3, V4}
use Rattle.fields.specs.Versions.{sector_length, records_per_sector}
use Rattle.stores.specs.Places.{Apart}
use Rattle.sector_store.specs.Sectors.{start, place, in_sector, in_sectors, in_count, covered, room_for, Laid}
use Rattle.sector_store.specs.Claims.{Surveyed}
use Rattle.sector_store.specs.Wholes.{split, sector_below}

-- places in one sector or in two
near : (v : Version) (a b i j : ℕ) → i < records_per_sector v → j < records_per_sector v → ((a ≡ b → ⊥) ⊎ (i ≡ j → ⊥))
    → ((a + 1) * sector_length v + i * 128 + 128 ≤ (b + 1) * sector_length v + j * 128) ⊎ ((b + 1) * sector_length v + j * 128 + 128 ≤ (a + 1) * sector_length v + i * 128)
near v a b i j hi hj ne = ⊎_elim
    (λ (lt : a < b). inl (below v a b i j hi lt))
    (λ (ge : b ≤ a). ⊎_elim
    (λ (gt : b < a). inr (below v b a j i hj gt))
    (λ (le : a ≤ b). let e : a ≡ b = omega arith in ⊎_elim
    (λ (l : i < j). inl (rw e (omega arith)))
    (λ (g : j ≤ i). ⊎_elim (λ (l : j < i). inr (rw e (omega arith))) (λ (q : i ≤ j). absurd (⊎_elim (λ na. na e) (λ ni. ni (omega arith)) ne)) (cases_lt j i))
    (cases_lt i j))
    (cases_lt b a))
    (cases_lt a b)
  where
    below : (v : Version) (a b i j : ℕ) → i < records_per_sector v → a < b → (a + 1) * sector_length v + i * 128 + 128 ≤ (b + 1) * sector_length v + j * 128
    below V3 a b i j hi lt = omega arith
    below V4 a b i j hi lt = omega arith

pub apart : (v : Version) (n : ℕ) (ss : List ℕ) (u r : ℕ) → Laid v n ss u r → Apart (place v ss) (r * records_per_sector v)
apart v n ss u r l j k hj hk ne =
    let per = records_per_sector v in
    let sj = split v j in
    let sk = split v k in
    near v (get_or ss (j / per) 0) (get_or ss (k / per) 0) (j % per) (k % per) sj.1 sk.1
    (⊎_elim
    (λ (e : j / per ≡ k / per). inr (λ (m : j % per ≡ k % per). ne (sj.0 ∙ ap (λ (x : ℕ). x * per + j % per) e ∙ ap (λ (x : ℕ). k / per * per + x) m ∙ sym sk.0)))
    (λ (d : j / per ≡ k / per → ⊥). inl (λ (e : get_or ss (j / per) 0 ≡ get_or ss (k / per) 0).
    ⊎_elim
    (λ (lt : j / per < k / per). l.apart (j / per) (k / per) lt (sector_below v k r hk) e)
    (λ (ge : k / per ≤ j / per). l.apart (k / per) (j / per) (omega (arith, d)) (sector_below v j r hj) (sym e))
    (cases_lt (j / per) (k / per))))
    (cases_eq (j / per) (k / per)))

-- no record lies in the header
pub behind_header : (v : Version) (ss : List ℕ) (k : ℕ) → 512 ≤ place v ss k
behind_header V3 ss k = omega arith
behind_header V4 ss k = omega arith

either_true : (b c : Bool) → c ≡ true → cond b true c ≡ true
either_true true c h = refl
either_true false c h = h

in_listed : (n : ℕ) (ss : List ℕ) (q i : ℕ) → q < length ss → (get_or ss q 0 + 1) * n ≤ i → i < (get_or ss q 0 + 2) * n → in_sectors n ss i ≡ true
in_listed n [] q i h lo hi = absurd (omega arith)
in_listed n (s ∷ ss) zero i h lo hi =
    let e : in_sector n s i ≡ true = rw (le-leb ((s + 1) * n) i lo, lt-ltb i ((s + 2) * n) hi) refl in
    rw e refl
in_listed n (s ∷ ss) (suc q) i h lo hi = either_true (in_sector n s i) (in_sectors n ss i) (in_listed n ss q i (omega arith) lo hi)

-- a sector of the list is covered
pub covered_sector : (v : Version) (ss : List ℕ) (q i : ℕ) → q < length ss → start v ss q ≤ i → i < start v ss q + sector_length v → covered v ss i ≡ true
covered_sector v ss q i h lo hi =
    either_true (in_count v i) (in_sectors (sector_length v) ss i) (in_listed (sector_length v) ss q i h lo (more v (get_or ss q 0) i hi))
  where
    more : (v : Version) (s i : ℕ) → i < (s + 1) * sector_length v + sector_length v → i < (s + 2) * sector_length v
    more V3 s i h = omega arith
    more V4 s i h = omega arith

-- a record in it lies in it
pub in_its_sector : (v : Version) (ss : List ℕ) (k : ℕ) → (start v ss (k / records_per_sector v) ≤ place v ss k) × (place v ss k + 128 ≤ start v ss (k / records_per_sector v) + sector_length v)
in_its_sector V3 ss k = (omega arith, omega (arith, split V3 k))
in_its_sector V4 ss k = (omega arith, omega (arith, split V4 k))

-- of nothing, everything holds
pub empty_laid : (v : Version) (n : ℕ) (ss : List ℕ) → Laid v n ss 0 0
empty_laid v n ss = record {
  few = omega arith;
  listed = omega arith;
  numbered = none v;
  inside = λ i h. absurd (omega arith);
  apart = λ i j a b e. omega arith;
}
  where
    none : (v : Version) → 0 * records_per_sector v ≤ 0xffff_fffb
    none V3 = omega arith
    none V4 = omega arith

-- a list that was looked over, as far as its records have numbers
pub surveyed_laid : (v : Version) (n : ℕ) (ss : List ℕ) (u r : ℕ) → Surveyed v n ss → r ≡ room_for v ss → u ≤ r → Laid v n ss u r
surveyed_laid v n ss u r s e h = record {
  few = h;
  listed = omega arith;
  numbered = numbered v ss r e;
  inside = λ i lt. s.inside i (omega arith);
  apart = λ i j lt hj same. s.distinct j (omega arith, (i, lt, same));
}
  where
    numbered : (v : Version) (ss : List ℕ) (r : ℕ) → r ≡ room_for v ss → r * records_per_sector v ≤ 0xffff_fffb
    numbered V3 ss r e = omega arith
    numbered V4 ss r e = omega arith
