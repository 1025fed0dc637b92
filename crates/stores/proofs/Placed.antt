-- Records at places in lent bytes, after bytes were copied into one of them.
use Rattle.std.proofs.Common.{◌≡◌, ℕ, ◌+◌, ◌-◌, ◌<◌, ◌≤◌, Bool, true, cond, ◌⊎◌, List, [], ◌∷◌, ◌++◌, length, get_or, drop, set, sym, refl, ap, ◌∙◌, inl, inr, ⊎_elim, arith}
use lib.Seq.{paste}
use Rattle.std.proofs.lemmas.List.{length-set, get_or-set_same, get_or-set_other, same_lists, length-take, length-drop, get_or-take, get_or-drop}
use Rattle.std.proofs.lemmas.List.FromFn.{map-range_with_len_more, length-map-range_with_len, get_or-map-range_with_len, fill_by_all}
use Rattle.std.proofs.lemmas.Bool.{cases_eq, cases_lt}
use Rattle.stores.specs.Places.{record_at, records_at, Fit, Apart, outside}
use Rattle.stores.proofs.Pasted.{length_pasted, pasted_before, pasted_after, pasted_inside, pasted_whole}

pub length-records_at : (bs : List ℕ) (at : ℕ → ℕ) (n : ℕ) → length (records_at bs at n) ≡ n
length-records_at bs at n = length-map-range_with_len (λ k. record_at bs (at k)) 0 n

pub get_or-records_at : (bs : List ℕ) (at : ℕ → ℕ) (n k : ℕ) → k < n → get_or (records_at bs at n) k [] ≡ record_at bs (at k)
get_or-records_at bs at n k h = get_or-map-range_with_len (λ i. record_at bs (at i)) 0 n k k [] h (omega arith)

pub length-record_at : (bs : List ℕ) (a : ℕ) → a + 128 ≤ length bs → length (record_at bs a) ≡ 128
length-record_at bs a h = simp (length-take, length-drop) (omega arith)

get_or-record_at : (bs : List ℕ) (a i d : ℕ) → i < 128 → get_or (record_at bs a) i d ≡ get_or bs (a + i) d
get_or-record_at bs a i d h = get_or-take 128 (drop a bs) i d h ∙ get_or-drop a bs i d

-- records have 128 bytes
pub sized_records_at : (bs : List ℕ) (at : ℕ → ℕ) (n : ℕ) → Fit at n (length bs) → (k : ℕ) → k < length (records_at bs at n) → length (get_or (records_at bs at n) k []) ≡ 128
sized_records_at bs at n fit k h =
    let hk : k < n = omega (arith, length-records_at bs at n) in
    ap length (get_or-records_at bs at n k hk) ∙ length-record_at bs (at k) (fit k hk)

-- a record that lies apart from the bytes written stands
apart_stands : (bs xs : List ℕ) (p a : ℕ) → p + length xs ≤ length bs → a + 128 ≤ length bs → (p + length xs ≤ a) ⊎ (a + 128 ≤ p)
    → record_at (paste bs p xs (length xs)) a ≡ record_at bs a
apart_stands bs xs p a hp ha side =
    let ln : length (paste bs p xs (length xs)) ≡ length bs = length_pasted bs xs p hp in
    let l1 : length (record_at bs a) ≡ 128 = length-record_at bs a ha in
    let l2 : length (record_at (paste bs p xs (length xs)) a) ≡ 128 = length-record_at (paste bs p xs (length xs)) a (omega arith) in
    same_lists _ _ (l2 ∙ sym l1) (λ i d l.
    let i< : i < 128 = omega (arith, l2) in
    get_or-record_at (paste bs p xs (length xs)) a i d i< ∙
    ⊎_elim (λ (lo : p + length xs ≤ a). pasted_after bs xs p (a + i) d hp (omega arith)) (λ (hi : a + 128 ≤ p). pasted_before bs xs p (a + i) d hp (omega arith)) side
    ∙ sym (get_or-record_at bs a i d i<))

-- the record that is written to
written_here : (bs xs : List ℕ) (a o : ℕ) → a + 128 ≤ length bs → o + length xs ≤ 128
    → record_at (paste bs (a + o) xs (length xs)) a ≡ paste (record_at bs a) o xs (length xs)
written_here bs xs a o ha ho =
    let hp : (a + o) + length xs ≤ length bs = omega arith in
    let ln : length (paste bs (a + o) xs (length xs)) ≡ length bs = length_pasted bs xs (a + o) hp in
    let l0 : length (record_at bs a) ≡ 128 = length-record_at bs a ha in
    let oo : o + length xs ≤ length (record_at bs a) = omega arith in
    let l1 : length (paste (record_at bs a) o xs (length xs)) ≡ 128 = length_pasted (record_at bs a) xs o oo ∙ l0 in
    let l2 : length (record_at (paste bs (a + o) xs (length xs)) a) ≡ 128 = length-record_at (paste bs (a + o) xs (length xs)) a (omega arith) in
    same_lists _ _ (l2 ∙ sym l1) (λ i d l.
    let i< : i < 128 = omega (arith, l2) in
    let r = get_or-record_at (paste bs (a + o) xs (length xs)) a i d i< in
    let b = get_or-record_at bs a i d i< in
    ⊎_elim
    (λ (lo : i < o). r ∙ pasted_before bs xs (a + o) (a + i) d hp (omega arith) ∙ sym (pasted_before (record_at bs a) xs o i d oo lo ∙ b))
    (λ (ge : o ≤ i). ⊎_elim
    (λ (lt : i < o + length xs).
    let w : (a + i) - (a + o) ≡ i - o = omega arith in
    r ∙ pasted_inside bs xs (a + o) (a + i) d hp (omega arith) (omega arith) ∙ ap (λ v. get_or xs v d) w ∙ sym (pasted_inside (record_at bs a) xs o i d oo ge lt))
    (λ (hi : o + length xs ≤ i). r ∙ pasted_after bs xs (a + o) (a + i) d hp (omega arith) ∙ sym (pasted_after (record_at bs a) xs o i d oo hi ∙ b))
    (cases_lt i (o + length xs)))
    (cases_lt i o))

-- one record of many: a write into it changes it, and no other
pub written_records : (bs xs : List ℕ) (at : ℕ → ℕ) (n j o : ℕ) → Fit at n (length bs) → Apart at n → j < n → o + length xs ≤ 128
    → records_at (paste bs (at j + o) xs (length xs)) at n ≡ set (records_at bs at n) j (paste (get_or (records_at bs at n) j []) o xs (length xs))
written_records bs xs at n j o fit apart hj ho =
    let fj : at j + 128 ≤ length bs = fit j hj in
    let hp : (at j + o) + length xs ≤ length bs = omega arith in
    let new : List ℕ = paste (record_at bs (at j)) o xs (length xs) in
    rw (get_or-records_at bs at n j hj)
    (sym (fill_by_all (λ k. record_at (paste bs (at j + o) xs (length xs)) (at k)) (set (records_at bs at n) j (paste (record_at bs (at j)) o xs (length xs))) n []
    (length-set (records_at bs at n) j _ ∙ length-records_at bs at n)
    (λ k hk. ⊎_elim
    (λ (e : k ≡ j).
    let lt : j < length (records_at bs at n) = rw (length-records_at bs at n) hj in
    rw e (get_or-set_same (records_at bs at n) j (paste (record_at bs (at j)) o xs (length xs)) [] lt ∙ sym (written_here bs xs (at j) o fj ho)))
    (λ (ne : k ≡ j → ⊥).
    get_or-set_other (records_at bs at n) j k (paste (record_at bs (at j)) o xs (length xs)) [] ne ∙ get_or-records_at bs at n k hk
    ∙ sym (apart_stands bs xs (at j + o) (at k) hp (fit k hk)
    (⊎_elim (λ (b : at k + 128 ≤ at j). inr (omega arith)) (λ (a : at j + 128 ≤ at k). inl (omega arith)) (apart k j hk hj ne))))
    (cases_eq k j))))

-- a whole record written behind the others follows them
pub added_record : (bs xs : List ℕ) (at : ℕ → ℕ) (n : ℕ) → Fit at (n + 1) (length bs) → Apart at (n + 1) → length xs ≡ 128
    → records_at (paste bs (at n) xs (length xs)) at (n + 1) ≡ records_at bs at n ++ (xs ∷ [])
added_record bs xs at n fit apart h =
    let fn : at n + 128 ≤ length bs = fit n (omega arith) in
    let zero : at n + 0 ≡ at n = omega arith in
    let here : record_at (paste bs (at n) xs (length xs)) (at n) ≡ xs
    = ap (λ p. record_at (paste bs p xs (length xs)) (at n)) (sym zero) ∙ written_here bs xs (at n) 0 fn (omega arith) ∙ pasted_whole (record_at bs (at n)) xs (h ∙ sym (length-record_at bs (at n) fn)) in
    let old : records_at (paste bs (at n) xs (length xs)) at n ≡ records_at bs at n
    = sym (fill_by_all (λ k. record_at (paste bs (at n) xs (length xs)) (at k)) (records_at bs at n) n [] (length-records_at bs at n)
    (λ k hk. get_or-records_at bs at n k hk ∙ sym (apart_stands bs xs (at n) (at k) (omega arith) (fit k (omega arith))
    (⊎_elim (λ (b : at k + 128 ≤ at n). inr b) (λ (a : at n + 128 ≤ at k). inl (omega arith)) (apart k n (omega arith) (omega arith) (λ (e : k ≡ n). omega arith)))))) in
    map-range_with_len_more (λ k. record_at (paste bs (at n) xs (length xs)) (at k)) 0 n n (omega arith)
    ∙ ap (λ rs. rs ++ (record_at (paste bs (at n) xs (length xs)) (at n) ∷ [])) old
    ∙ ap (λ (r : List ℕ). records_at bs at n ++ (r ∷ [])) here

-- bytes written inside leave the outside as it was
pub outside_stands : (c : ℕ → Bool) (bs xs : List ℕ) (p : ℕ) → p + length xs ≤ length bs → ((i : ℕ) → p ≤ i → i < p + length xs → c i ≡ true)
    → outside c (paste bs p xs (length xs)) ≡ outside c bs
outside_stands c bs xs p h inside =
    let ln : length (paste bs p xs (length xs)) ≡ length bs = length_pasted bs xs p h in
    rw ln
    (sym (fill_by_all (λ i. cond (c i) 0 (get_or (paste bs p xs (length xs)) i 0)) (outside c bs) (length bs) 0
    (length-map-range_with_len (λ i. cond (c i) 0 (get_or bs i 0)) 0 (length bs))
    (λ i hi. get_or-map-range_with_len (λ k. cond (c k) 0 (get_or bs k 0)) 0 (length bs) i i 0 hi (omega arith)
    ∙ ⊎_elim
    (λ (lo : i < p). ap (λ v. cond (c i) 0 v) (sym (pasted_before bs xs p i 0 h lo)))
    (λ (ge : p ≤ i). ⊎_elim
    (λ (lt : i < p + length xs). let t : c i ≡ true = inside i ge lt in rw t refl)
    (λ (hi : p + length xs ≤ i). ap (λ v. cond (c i) 0 v) (sym (pasted_after bs xs p i 0 h hi)))
    (cases_lt i (p + length xs)))
    (cases_lt i p))))

-- bytes written before every record leave the records as they were
pub records_behind : (bs xs : List ℕ) (at : ℕ → ℕ) (n p : ℕ) → Fit at n (length bs) → p + length xs ≤ length bs → ((k : ℕ) → k < n → p + length xs ≤ at k)
    → records_at (paste bs p xs (length xs)) at n ≡ records_at bs at n
records_behind bs xs at n p fit h behind =
    sym (fill_by_all (λ k. record_at (paste bs p xs (length xs)) (at k)) (records_at bs at n) n [] (length-records_at bs at n)
    (λ k hk. get_or-records_at bs at n k hk ∙ sym (apart_stands bs xs p (at k) h (fit k hk) (inl (behind k hk)))))
