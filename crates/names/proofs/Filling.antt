-- Arrays of fixed length that are filled from the front.
use Rattle.std.proofs.Common.{◌≡◌, ℕ, suc, ◌-◌, ◌<◌, ◌≤◌, List, [], ◌∷◌, ◌++◌, length, take, set, replicate, refl, ap, ◌∙◌, append_assoc, arith}
use Rattle.std.proofs.Math.Seq.{take-append_seam}
use Rattle.std.proofs.lemmas.List.{length_push, set_at}
use Rattle.names.specs.Padding.{padded, Counted}

-- at least one zero is left
zeros_more : (k : ℕ) → 0 < k → ◌≡◌ {A = List ℕ} (replicate k 0) (0 ∷ replicate (k - 1) 0)
zeros_more k h = let e : k ≡ suc (k - 1) = omega arith in ap (λ n. replicate n 0) e

-- one more in the next place
pub padded_more : (w : ℕ) (xs ps : List ℕ) (i x : ℕ) → length xs ≡ i → i < w → ps ≡ padded w xs → set ps i x ≡ padded w (xs ++ x ∷ [])
padded_more w xs ps i x l h e =
    let z = zeros_more (w - length xs) (omega arith) in
    let s : set ps i x ≡ xs ++ x ∷ replicate (w - length xs - 1) 0 = rw (e, z) (set_at xs 0 (replicate (w - length xs - 1) 0) x i l) in
    let c : w - length (xs ++ x ∷ []) ≡ w - length xs - 1 = rw (length_push xs x) (omega arith) in
    s ∙ rw (c, append_assoc) refl

-- what fits, padded
pub counted : (w : ℕ) (xs : List ℕ) → length xs ≤ w → Counted w (length xs) (padded w xs)
counted w xs h =
    let front : take (length xs) (padded w xs) ≡ xs = take-append_seam xs (replicate (w - length xs) 0) in
    record { few = h; count = rw front refl; rest = rw front refl }
