-- How the code points of a list of units follow from those of what is left of it.
use Rattle.std.proofs.Common.{◌≡◌, ℕ, ◌-◌, ◌<◌, ◌≤◌, Bool, true, false, cond, ◌&&◌, ◌⊎◌, List, [], ◌∷◌, length, get_or, take, drop, sym, ap, subst, inl, inr, arith}
use Rattle.std.proofs.lemmas.List.{take_rest, length-drop}
use Rattle.std.proofs.lemmas.Iterator.{YieldsList}
use Rattle.std.proofs.lemmas.Iterator.Consumers.{YieldsList-from_shown}
use Rattle.names.specs.declared.utf16.CodePoints.{CodePoints}
use Rattle.names.specs.Units.{codes, high, low, joined, Steps}

-- a pair at the front
pub codes_of_pair : (us : List ℕ) (c : ℕ) → 2 ≤ length us → (high (get_or us 0 0) && low (get_or us 1 0)) ≡ true → c ≡ joined (get_or us 0 0) (get_or us 1 0) → codes us ≡ c ∷ codes (take (length us - 2) (drop 2 us))
codes_of_pair [] c h p e = absurd (omega arith)
codes_of_pair (u ∷ []) c h p e = absurd (omega arith)
codes_of_pair (u ∷ v ∷ us) c h p e = rw (take_rest (u ∷ v ∷ us) 2) (rw p (ap (λ x. x ∷ codes us) (sym e)))

-- one unit at the front
pub codes_of_single : (us : List ℕ) (c : ℕ) → 1 ≤ length us → (length us < 2) ⊎ ((high (get_or us 0 0) && low (get_or us 1 0)) ≡ false) → c ≡ get_or us 0 0 → codes us ≡ c ∷ codes (take (length us - 1) (drop 1 us))
codes_of_single [] c h p e = absurd (omega arith)
codes_of_single (u ∷ []) c h p e = rw (take_rest (u ∷ []) 1) (ap (λ x. x ∷ []) (sym e))
codes_of_single (u ∷ v ∷ us) c h (inl p) e = absurd (omega arith)
codes_of_single (u ∷ v ∷ us) c h (inr p) e = rw (take_rest (u ∷ v ∷ us) 1) (rw p (ap (λ x. x ∷ codes (v ∷ us)) (sym e)))

-- what is left is shorter
pub rest_shorter : (us : List ℕ) (n : ℕ) → 1 ≤ n → n ≤ length us → length (take (length us - n) (drop n us)) < length us
rest_shorter us n h l = rw (take_rest us n) (rw (length-drop n us) (omega arith))

-- there are no more code points than units
pub codes_few : (us : List ℕ) → length (codes us) ≤ length us
codes_few [] = omega arith
codes_few (u ∷ []) = omega arith
codes_few (u ∷ v ∷ us) = by_pair (high u && low v) (codes_few us) (codes_few (v ∷ us))
  where
    by_pair : (b : Bool) → length (codes us) ≤ length us → length (codes (v ∷ us)) ≤ length (v ∷ us) → length (cond b (joined u v ∷ codes us) (u ∷ codes (v ∷ us))) ≤ length (u ∷ v ∷ us)
    by_pair true h k = omega arith
    by_pair false h k = omega arith

-- the iterator gives the code points, one by each call of `next`
pub next_codes : (us : List ℕ) {s : CodePoints} → s.units.now ≡ us → YieldsList (λ (t : CodePoints) r (u : CodePoints). Steps t.units.now r u.units.now) (λ c. c) s (codes us)
next_codes us {s} e = subst (YieldsList (λ (t : CodePoints) r (u : CodePoints). Steps t.units.now r u.units.now) (λ c. c) s) (ap codes e)
    (YieldsList-from_shown (λ (t : CodePoints) r (u : CodePoints). Steps t.units.now r u.units.now) (λ c. c) (λ (t : CodePoints). codes t.units.now) (λ t u h. ap length h.first.0) (λ t x u h. h.first) s)
