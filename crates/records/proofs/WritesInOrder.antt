-- Writes that follow one another: what stands before the end of each.
use Rattle.std.proofs.Common.{◌≡◌, ℕ, zero, suc, ◌+◌, ◌-◌, ◌*◌, ◌<◌, ◌≤◌, List, [], ◌∷◌, ◌++◌, length, get_or, take, drop, replicate, sym, refl, ap, ap₂, ◌∙◌, arith}
use Rattle.std.proofs.lemmas.List.{append_assoc, take_all, take_more, take-append-drop, drop-drop, drop-replicate, length-append, length-replicate}
use Rattle.names.specs.Padding.{padded}
use Rattle.records.specs.Bytes.{bytes_of, unit_bytes}
use Rattle.records.specs.Writing.{name_bytes}

-- a write, and what follows straight after it
pub after : (x y z p p' q : List ℕ) (a b c : ℕ) → take b y ≡ take a x ++ p → p ≡ p' → take c z ≡ take b y ++ q → take c z ≡ take a x ++ (p' ++ q)
after x y z p p' q a b c e w f = f ∙ ap (λ l. l ++ q) (e ∙ ap (λ l. take a x ++ l) w) ∙ append_assoc (take a x) p' q

-- the last write
pub last : (x y p p' : List ℕ) (a b : ℕ) → take b y ≡ take a x ++ p → p ≡ p' → take b y ≡ take a x ++ p'
last x y p p' a b e w = e ∙ ap (λ l. take a x ++ l) w

-- the whole record
pub whole : (a b c d e n h l s p : List ℕ) → length e ≡ 128 → take 64 a ≡ n → take 68 b ≡ take 64 a ++ h → take 80 c ≡ take 68 b ++ l → take 116 d ≡ take 80 c ++ s → take 128 e ≡ take 116 d ++ p → e ≡ n ++ (h ++ (l ++ (s ++ p)))
whole a b c d e n h l s p k q0 q1 q2 q3 q4 =
    sym (take_all 128 e (omega arith))
    ∙ after a b e h h (l ++ (s ++ p)) 64 68 128 q1 refl (after b c e l l (s ++ p) 68 80 128 q2 refl (after c d e s s p 80 116 128 q3 refl q4))
    ∙ ap (λ z. z ++ (h ++ (l ++ (s ++ p)))) q0

pub unit_bytes-append : (us vs : List ℕ) → unit_bytes (us ++ vs) ≡ unit_bytes us ++ unit_bytes vs
unit_bytes-append [] vs = refl
unit_bytes-append (u ∷ us) vs = ap (λ l. bytes_of 2 u ++ l) (unit_bytes-append us vs)

pub length-padded : (us : List ℕ) → length us ≤ 31 → length (padded 32 us) ≡ 32
length-padded us few =
    let a = length-append us (replicate (32 - length us) 0) in
    let b : length (replicate {A = ℕ} (32 - length us) 0) ≡ 32 - length us = length-replicate (32 - length us) 0 in
    omega arith

nulls : (n : ℕ) → unit_bytes (replicate n 0) ≡ replicate (2 * n) 0
nulls zero = refl
nulls (suc n) = let t : 2 * suc n ≡ suc (suc (2 * n)) = omega arith in ap (λ l. 0 ∷ 0 ∷ l) (nulls n) ∙ ap (λ k. replicate k 0) (sym t)

-- one more unit, and nulls behind it
pub unit_more : (us x y p : List ℕ) (i : ℕ) → i < length us → length us ≤ 31 → p ≡ bytes_of 2 (get_or us i 0) →
    (take (2 * i) x ≡ unit_bytes (take i us)) × (drop (2 * i) x ≡ replicate (64 - 2 * i) 0) →
    take (2 * i + 2) y ≡ take (2 * i) x ++ p → drop (2 * i + 2) y ≡ drop (2 * i + 2) x →
    (take (2 * (i + 1)) y ≡ unit_bytes (take (i + 1) us)) × (drop (2 * (i + 1)) y ≡ replicate (64 - 2 * (i + 1)) 0)
unit_more us x y p i h few q inv e f =
    let u = get_or us i 0 in
    let n : 2 * (i + 1) ≡ 2 * i + 2 = omega arith in
    let m : 64 - 2 * i - 2 ≡ 64 - 2 * (i + 1) = omega arith in
    let front : take (2 * i + 2) y ≡ unit_bytes (take i us) ++ bytes_of 2 u = last x y p (bytes_of 2 u) (2 * i) (2 * i + 2) e q ∙ ap (λ l. l ++ bytes_of 2 u) inv.0 in
    let units : unit_bytes (take (i + 1) us) ≡ unit_bytes (take i us) ++ bytes_of 2 u = ap unit_bytes (take_more us i 0 h) ∙ unit_bytes-append (take i us) (u ∷ []) in
    let back : drop (2 * i + 2) x ≡ replicate (64 - 2 * i - 2) 0 = sym (drop-drop 2 (2 * i) x) ∙ ap (drop 2) inv.1 ∙ drop-replicate 2 (64 - 2 * i) 0 in
    (ap (λ k. take k y) n ∙ front ∙ sym units, ap (λ k. drop k y) n ∙ f ∙ back ∙ ap (λ k. replicate k 0) m)

-- all of them
pub units_all : (us x : List ℕ) (i : ℕ) → length us ≤ 31 → i ≡ length us → (take (2 * i) x ≡ unit_bytes (take i us)) × (drop (2 * i) x ≡ replicate (64 - 2 * i) 0) → x ≡ name_bytes us
units_all us x i few q inv =
    let k : 64 - 2 * i ≡ 2 * (32 - length us) = omega arith in
    sym (take-append-drop (2 * i) x) ∙ ap₂ (λ a b. a ++ b) (inv.0 ∙ ap unit_bytes (take_all i us (omega arith))) (inv.1 ∙ ap (λ n. replicate n 0) k ∙ sym (nulls (32 - length us)))
    ∙ sym (unit_bytes-append us (replicate (32 - length us) 0))
