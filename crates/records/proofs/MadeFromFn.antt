-- An array that is made by calls of a closure, one for each index.
use Rattle.std.proofs.Common.{◌≡◌, ℕ, zero, suc, ◌+◌, ◌<◌, ◌≤◌, List, get_or, ◌∙◌, subst, arith}
use Rattle.std.specs.Fn.{Mut, Called}
use Rattle.std.specs.Array.{IsFromFnResult, IsFromFnResultFrom}

module _ {F : Type 0} (g : Mut F (ℕ × Unit {0}) ℕ) (h : ℕ → ℕ) (f : F) (m : ℕ) (each : (i y : ℕ) (q : F) → i < m → Called g f (i, tt) y q → (q ≡ f) × (y ≡ h i)) where
  from_place : (ys : List ℕ) (n i k : ℕ) → i + n ≤ m → IsFromFnResultFrom g f ys i n → k < n → get_or ys (i + k) 0 ≡ h (i + k)
  from_place ys zero i k b r l = absurd (omega arith)
  from_place ys (suc n) i zero b r l =
      let t = each i r.1 r.0 (omega arith) r.3 in
      let z : i + 0 ≡ i = omega arith in
      rw z (r.2.1 0 ∙ t.1)
  from_place ys (suc n) i (suc k) b r l =
      let t = each i r.1 r.0 (omega arith) r.3 in
      let z : i + suc k ≡ i + 1 + k = omega arith in
      rw z (from_place ys n (i + 1) k (omega arith) (subst (λ p. IsFromFnResultFrom g p ys (i + 1) n) t.0 r.4) (omega arith))

  pub made_of : (ys : List ℕ) → IsFromFnResult g f ys m → (k : ℕ) → k < m → get_or ys k 0 ≡ h k
  made_of ys r k l = let z : 0 + k ≡ k = omega arith in subst (λ i. get_or ys i 0 ≡ h i) z (from_place ys m 0 k (omega arith) r.each l)
