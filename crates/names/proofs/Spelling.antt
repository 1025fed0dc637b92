-- Well-formed units are exactly those that spell code points, and spell them in one way.
use Rattle.std.proofs.Common.{◌≡◌, ℕ, Bool, true, false, cond, not, ◌&&◌, leb, List, [], ◌∷◌, Decides, sym, refl, ap, ◌∙◌, ⊎_elim, arith}
use Rattle.std.proofs.lemmas.Bool.{and_parts, and_from, and_right, not-true, not_from_false, leb-true, le-leb, lt-leb, cases_Bool, both_ways}
use Rattle.names.specs.Units.{high, low, surrogate, joined, codes, no_surrogate, well_formed, Spells, nothing, single, pair}

-- the first half of a pair is a surrogate
high-surrogate : (u : ℕ) → high u ≡ true → surrogate u ≡ true
high-surrogate u h =
    let b = and_parts (leb 0xd800 u) (leb u 0xdbff) h in
    and_from (leb 0xd800 u) (leb u 0xdfff) b.0 (le-leb u 0xdfff (omega (arith, leb-true u 0xdbff b.1)))

-- a unit that is no surrogate is no first half
no_high : (u v : ℕ) → surrogate u ≡ false → (high u && low v) ≡ false
no_high u v n = ⊎_elim (λ h. absurd (both_ways (surrogate u) n (high-surrogate u h))) (λ e. rw e refl) (cases_Bool (high u))

-- the code point of a pair is no surrogate
joined_single : (h l : ℕ) → surrogate (joined h l) ≡ false
joined_single h l = and_right (leb 0xd800 (joined h l)) (leb (joined h l) 0xdfff) (lt-leb (joined h l) 0xdfff (omega arith))

codes_unit : (u : ℕ) (us : List ℕ) → surrogate u ≡ false → codes (u ∷ us) ≡ u ∷ codes us
codes_unit u [] n = refl
codes_unit u (v ∷ us) n = rw (no_high u v n) refl

pub spells_codes : (us : List ℕ) → well_formed us ≡ true → Spells us (codes us)
spells_codes [] w = nothing
spells_codes (u ∷ []) w = single (not-true (surrogate u) (and_parts (not (surrogate u)) true w).0) nothing
spells_codes (u ∷ v ∷ us) w = by_pair (high u && low v) refl w (spells_codes us) (spells_codes (v ∷ us))
  where
    by_pair : (b : Bool) → (high u && low v) ≡ b → no_surrogate (cond b (joined u v ∷ codes us) (u ∷ codes (v ∷ us))) ≡ true → (well_formed us ≡ true → Spells us (codes us)) → (well_formed (v ∷ us) ≡ true → Spells (v ∷ us) (codes (v ∷ us))) → Spells (u ∷ v ∷ us) (cond b (joined u v ∷ codes us) (u ∷ codes (v ∷ us)))
    by_pair true e w two one =
        let b = and_parts (high u) (low v) e in pair b.0 b.1 (two (and_parts (not (surrogate (joined u v))) (no_surrogate (codes us)) w).1)
    by_pair false e w two one =
        let b = and_parts (not (surrogate u)) (no_surrogate (codes (v ∷ us))) w in single (not-true (surrogate u) b.0) (one b.1)

pub codes-spelled : {us cs : List ℕ} → Spells us cs → cs ≡ codes us
codes-spelled nothing = refl
codes-spelled (single {u} {us} {cs} n s) = ap (λ xs. u ∷ xs) (codes-spelled s) ∙ sym (codes_unit u us n)
codes-spelled (pair {h} {l} {us} {cs} a b s) = rw (and_from (high h) (low l) a b) (ap (λ xs. joined h l ∷ xs) (codes-spelled s))

-- what is spelled has no surrogate among its code points
points_only : {us cs : List ℕ} → Spells us cs → no_surrogate cs ≡ true
points_only nothing = refl
points_only (single {u} {us} {cs} n s) = and_from (not (surrogate u)) (no_surrogate cs) (not_from_false (surrogate u) n) (points_only s)
points_only (pair {h} {l} {us} {cs} a b s) = and_from (not (surrogate (joined h l))) (no_surrogate cs) (not_from_false (surrogate (joined h l)) (joined_single h l)) (points_only s)

pub spelled_well : {us cs : List ℕ} → Spells us cs → well_formed us ≡ true
spelled_well {us} {cs} s = ap no_surrogate (sym (codes-spelled s)) ∙ points_only s

-- a test that answers well-formedness decides whether the units spell their code points
pub decides_spelling : (us : List ℕ) (r : Bool) → r ≡ well_formed us → Decides r (Spells us (codes us))
decides_spelling us r e = ((λ t. spells_codes us (sym e ∙ t)), λ s. e ∙ spelled_well s)
