-- Numbers and their bytes, and units and theirs, give one another back.
use Rattle.std.proofs.Common.{◌≡◌, ℕ, zero, suc, ◌+◌, ◌*◌, ◌/◌, ◌%◌, ◌^◌, ◌<◌, ◌≤◌, ◌⊎◌, List, [], ◌∷◌, ◌++◌, length, get_or, drop, replicate, refl, ap, subst, inl, inr, pow-suc, arith}
use Rattle.std.proofs.lemmas.List.{length-take, length-take-le, length-drop, get_or-take, get_or-drop, get_or_past}
use Rattle.std.proofs.lemmas.Bool.{cases_lt}
use Rattle.records.specs.Bytes.{number, bytes_of, part, units_of, unit_bytes}
use Rattle.records.specs.Allowed.{IsRecord}

pub number_bytes : (w x : ℕ) → x < 256 ^ w → number (bytes_of w x) ≡ x
number_bytes zero x h = omega arith
number_bytes (suc w) x h =
    let p : 256 ^ suc w ≡ 256 ^ w * 256 = pow-suc 256 w in
    let i = number_bytes w (x / 256) (omega arith) in
    omega arith

pub bytes_number : (bs : List ℕ) → ((i : ℕ) → get_or bs i 0 < 256) → bytes_of (length bs) (number bs) ≡ bs
bytes_number [] small = refl
bytes_number (b ∷ bs) small =
    let h = small 0 in
    let r : (b + number bs * 256) % 256 ≡ b = omega arith in
    let q : (b + number bs * 256) / 256 ≡ number bs = omega arith in
    let i = bytes_number bs (λ k. small (suc k)) in
    rw (r, q) (ap (λ l. b ∷ l) i)

-- a number of few bytes is small
pub number_below : (bs : List ℕ) → ((i : ℕ) → get_or bs i 0 < 256) → number bs < 256 ^ length bs
number_below [] small = omega arith
number_below (b ∷ bs) small =
    let h = small 0 in
    let p : 256 ^ suc (length bs) ≡ 256 ^ length bs * 256 = pow-suc 256 (length bs) in
    let i = number_below bs (λ k. small (suc k)) in
    omega arith

-- parts of a record
pub length_part : (bs : List ℕ) (at n : ℕ) → at + n ≤ length bs → length (part at n bs) ≡ n
length_part bs at n h = let d = length-drop at bs in length-take-le n (drop at bs) (omega arith)

pub small_part : (bs : List ℕ) (at n : ℕ) → ((i : ℕ) → get_or bs i 0 < 256) → (i : ℕ) → get_or (part at n bs) i 0 < 256
small_part bs at n small i = by_end (cases_lt i n)
  where
    by_end : (i < n) ⊎ (n ≤ i) → get_or (part at n bs) i 0 < 256
    by_end (inl k) =
        let p : get_or (part at n bs) i 0 ≡ get_or (drop at bs) i 0 = get_or-take n (drop at bs) i 0 k in
        let q = get_or-drop at bs i 0 in
        let s = small (at + i) in
        omega arith
    by_end (inr k) =
        let l : length (part at n bs) ≤ i = let t = length-take n (drop at bs) in omega arith in
        let p : get_or (part at n bs) i 0 ≡ 0 = get_or_past (part at n bs) i 0 l in
        omega arith

pub bytes_back : (bs : List ℕ) (at n : ℕ) → IsRecord bs → at + n ≤ 128 → bytes_of n (number (part at n bs)) ≡ part at n bs
bytes_back bs at n r h =
    let l : length (part at n bs) ≡ n = let k = r.0 in length_part bs at n (omega arith) in
    subst (λ w. bytes_of w (number (part at n bs)) ≡ part at n bs) l (bytes_number (part at n bs) (small_part bs at n r.1))

pub part_below : (bs : List ℕ) (at n : ℕ) → IsRecord bs → at + n ≤ 128 → number (part at n bs) < 256 ^ n
part_below bs at n r h =
    let l : length (part at n bs) ≡ n = let k = r.0 in length_part bs at n (omega arith) in
    subst (λ w. number (part at n bs) < 256 ^ w) l (number_below (part at n bs) (small_part bs at n r.1))

-- units
pub units_back : (us : List ℕ) → ((i : ℕ) → get_or us i 0 < 65536) → units_of (unit_bytes us) ≡ us
units_back [] small = refl
units_back (u ∷ us) small =
    let h = small 0 in
    let n : number (bytes_of 2 u) ≡ u = number_bytes 2 u h in
    let i = units_back us (λ k. small (suc k)) in
    (λ j. n j ∷ i j)

pub length_unit_bytes : (us : List ℕ) → length (unit_bytes us) ≡ 2 * length us
length_unit_bytes [] = refl
length_unit_bytes (u ∷ us) = let i = length_unit_bytes us in omega arith

pub unit_below : (bs : List ℕ) → ((i : ℕ) → get_or bs i 0 < 256) → (k : ℕ) → get_or (units_of bs) k 0 < 65536
unit_below [] small k = omega arith
unit_below (a ∷ []) small k = omega arith
unit_below (a ∷ b ∷ bs) small zero = let x = small 0 in let y = small 1 in omega arith
unit_below (a ∷ b ∷ bs) small (suc k) = unit_below bs (λ i. small (suc (suc i))) k

-- lists of bytes
pub small_append : (xs ys : List ℕ) → ((i : ℕ) → get_or xs i 0 < 256) → ((i : ℕ) → get_or ys i 0 < 256) → (i : ℕ) → get_or (xs ++ ys) i 0 < 256
small_append [] ys f g i = g i
small_append (x ∷ xs) ys f g zero = f 0
small_append (x ∷ xs) ys f g (suc i) = small_append xs ys (λ k. f (suc k)) g i

pub small_cons : (x : ℕ) (xs : List ℕ) → x < 256 → ((i : ℕ) → get_or xs i 0 < 256) → (i : ℕ) → get_or (x ∷ xs) i 0 < 256
small_cons x xs h f zero = h
small_cons x xs h f (suc i) = f i

pub small_bytes : (w x : ℕ) (i : ℕ) → get_or (bytes_of w x) i 0 < 256
small_bytes zero x i = omega arith
small_bytes (suc w) x zero = omega arith
small_bytes (suc w) x (suc i) = small_bytes w (x / 256) i

pub small_units : (us : List ℕ) (i : ℕ) → get_or (unit_bytes us) i 0 < 256
small_units [] i = omega arith
small_units (u ∷ us) i = small_append (bytes_of 2 u) (unit_bytes us) (small_bytes 2 u) (small_units us) i

pub zeros_small : (n i : ℕ) → get_or (replicate n 0) i 0 < 256
zeros_small zero i = omega arith
zeros_small (suc n) zero = omega arith
zeros_small (suc n) (suc i) = zeros_small n i
