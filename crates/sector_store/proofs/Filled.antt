-- Bytes with freed records end to end from a place on.
use Rattle.std.proofs.Common.{◌≡◌, ℕ, zero, suc, ◌+◌, ◌*◌, ◌<◌, ◌≤◌, Bool, true, List, [], ◌∷◌, ◌++◌, length, take, drop, replicate, sym, refl, ap, ◌∙◌, append_assoc, add-zero, add-one, arith}
use lib.Seq.{paste}
use Rattle.std.proofs.lemmas.List.{append-nil, replicate_more}
use Rattle.stores.specs.Meaning.{freed}
use Rattle.stores.specs.Places.{records_at, Fit, Apart, outside}
use Rattle.stores.proofs.Freed.{length-freed}
use Rattle.stores.proofs.Pasted.{length_pasted, part_before}
use Rattle.stores.proofs.Placed.{added_record, outside_stands}
use Rattle.sector_store.specs.Sectors.{filled}

pub length-filled : (bs : List ℕ) (a n : ℕ) → a + n * 128 ≤ length bs → length (filled bs a n) ≡ length bs
length-filled bs a zero h = refl
length-filled bs a (suc n) h =
    let l = length-filled bs a n (omega arith) in
    length_pasted (filled bs a n) freed (a + n * 128) (omega (arith, l, length-freed)) ∙ l

pub filled_more : (bs xs ys fs : List ℕ) (a n : ℕ) → xs ≡ filled bs a n → fs ≡ freed → ys ≡ paste xs (a + n * 128) fs (length fs) → ys ≡ filled bs a (n + 1)
filled_more bs xs ys fs a n e f h = rw (add-one n) (h ∙ ap (λ (x : List ℕ). paste x (a + n * 128) fs (length fs)) e ∙ ap (λ (x : List ℕ). paste (filled bs a n) (a + n * 128) x (length x)) f)

-- the freed records follow the others
pub filled_records : (bs : List ℕ) (at : ℕ → ℕ) (a k n : ℕ) → ((j : ℕ) → j < n → at (k + j) ≡ a + j * 128) → a + n * 128 ≤ length bs → Fit at (k + n) (length bs) → Apart at (k + n)
    → records_at (filled bs a n) at (k + n) ≡ records_at bs at k ++ replicate n freed
filled_records bs at a k zero here h fit apart = rw (add-zero k) (sym (append-nil (records_at bs at k)))
filled_records bs at a k (suc n) here h fit apart =
    let l : length (filled bs a n) ≡ length bs = length-filled bs a n (omega arith) in
    let ks : k + suc n ≡ (k + n) + 1 = omega arith in
    let more = added_record (filled bs a n) freed at (k + n) (λ j hj. rw l (fit j (omega arith))) (λ i j hi hj. apart i j (omega arith) (omega arith)) length-freed in
    let rest = filled_records bs at a k n (λ j hj. here j (omega arith)) (omega arith) (λ j hj. fit j (omega arith)) (λ i j hi hj. apart i j (omega arith) (omega arith)) in
    rw ks
    (ap (λ (p : ℕ). records_at (paste (filled bs a n) p freed (length freed)) at ((k + n) + 1)) (sym (here n (omega arith)))
    ∙ more
    ∙ ap (λ (rs : List (List ℕ)). rs ++ (freed ∷ [])) rest
    ∙ append_assoc (records_at bs at k) (replicate n freed) (freed ∷ [])
    ∙ ap (λ (rs : List (List ℕ)). records_at bs at k ++ rs) (replicate_more n freed ∙ ap (λ (x : ℕ). replicate x freed) (add-one n)))

pub outside-filled : (c : ℕ → Bool) (bs : List ℕ) (a n : ℕ) → a + n * 128 ≤ length bs → ((i : ℕ) → a ≤ i → i < a + n * 128 → c i ≡ true) → outside c (filled bs a n) ≡ outside c bs
outside-filled c bs a zero h inside = refl
outside-filled c bs a (suc n) h inside =
    let l : length (filled bs a n) ≡ length bs = length-filled bs a n (omega arith) in
    outside_stands c (filled bs a n) freed (a + n * 128) (omega (arith, l, length-freed)) (λ i lo hi. inside i (omega arith) (omega (arith, hi, length-freed)))
    ∙ outside-filled c bs a n (omega arith) (λ i lo hi. inside i lo (omega arith))

-- a part before them stands
pub part_before_filled : (bs : List ℕ) (a n p k : ℕ) → a + n * 128 ≤ length bs → p + k ≤ a → take k (drop p (filled bs a n)) ≡ take k (drop p bs)
part_before_filled bs a zero p k h hp = refl
part_before_filled bs a (suc n) p k h hp =
    let l : length (filled bs a n) ≡ length bs = length-filled bs a n (omega arith) in
    part_before (filled bs a n) freed (a + n * 128) p k (omega (arith, l, length-freed)) (omega arith) ∙ part_before_filled bs a n p k (omega arith) hp
