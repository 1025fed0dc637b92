-- Units that bytes spell, two bytes each.
use Rattle.std.proofs.Common.{◌≡◌, ℕ, zero, suc, ◌+◌, ◌*◌, ◌/◌, ◌<◌, ◌≤◌, Bool, true, false, cond, not, ltb, List, [], ◌∷◌, length, get_or, take, drop, Ok, Err, Result, sym, refl, ap, ◌∙◌, arith}
use Rattle.std.proofs.lemmas.Bool.{le-ltb}
use Rattle.names.specs.declared.name.Name.{Name}
use Rattle.names.specs.declared.name.NameError.{NameError}
use Rattle.names.specs.declared.name.NameError.TheVariants.{TooLong}
use Rattle.names.specs.Units.{well_formed}
use Rattle.fields.specs.declared.malformed.Flaw.TheVariants.{BadUtf16}
use Rattle.records.specs.Steps.{spell_step}
use Rattle.std.specs.Simd.{first_chunks}
use Rattle.std.proofs.lemmas.List.{take-take, length-take-le, length-drop, drop-drop, ext_get_or}
use Rattle.records.specs.Bytes.{number, part, u16_at, units_of}

twice_suc : (n : ℕ) → 2 * suc n ≡ suc (suc (2 * n))
twice_suc n = omega arith

-- the number of two bytes
number_two : (xs : List ℕ) → length xs ≡ 2 → get_or xs 0 0 + get_or xs 1 0 * 256 ≡ number xs
number_two [] e = absurd (omega arith)
number_two (x ∷ []) e = absurd (omega arith)
number_two (x ∷ y ∷ []) e = omega arith
number_two (x ∷ y ∷ z ∷ xs) e = absurd (omega arith)

pub length_units : (n : ℕ) (xs : List ℕ) → length xs ≡ 2 * n → length (units_of xs) ≡ n
length_units zero [] e = refl
length_units zero (x ∷ xs) e = absurd (omega arith)
length_units (suc n) [] e = absurd (omega arith)
length_units (suc n) (x ∷ []) e = absurd (omega arith)
length_units (suc n) (x ∷ y ∷ xs) e = ap suc (length_units n xs (omega arith))

pub get_or_units : (xs : List ℕ) (k : ℕ) → 2 * k + 2 ≤ length xs → get_or (units_of xs) k 0 ≡ u16_at xs (2 * k)
get_or_units [] k h = absurd (omega arith)
get_or_units (x ∷ []) k h = absurd (omega arith)
get_or_units (x ∷ y ∷ xs) zero h = refl
get_or_units (x ∷ y ∷ xs) (suc k) h = get_or_units xs k (omega arith) ∙ ap (λ n. u16_at (x ∷ y ∷ xs) n) (sym (twice_suc k))

pub take_units : (n : ℕ) (xs : List ℕ) → take n (units_of xs) ≡ units_of (take (2 * n) xs)
take_units zero xs = refl
take_units (suc n) [] = ap (λ m. units_of (take m [])) (sym (twice_suc n))
take_units (suc n) (x ∷ []) = ap (λ m. units_of (take m (x ∷ []))) (sym (twice_suc n))
take_units (suc n) (x ∷ y ∷ xs) = ap (λ us. number (x ∷ y ∷ []) ∷ us) (take_units n xs) ∙ ap (λ m. units_of (take m (x ∷ y ∷ xs))) (sym (twice_suc n))

-- a chunk of two bytes
pair_at : (n k : ℕ) (xs d : List ℕ) → k < n → get_or (first_chunks 2 n xs) k d ≡ part (2 * k) 2 xs
pair_at zero k xs d h = absurd (omega arith)
pair_at (suc n) zero xs d h = refl
pair_at (suc n) (suc k) xs d h = let z : 2 + 2 * k ≡ 2 * suc k = omega arith in pair_at n k (drop 2 xs) d (omega arith) ∙ ap (take 2) (drop-drop (2 * k) 2 xs) ∙ ap (λ j. part j 2 xs) z

-- units, each read from its chunk of their bytes
pub units_read : (bs us : List ℕ) (ps : List (List ℕ)) → length bs ≡ 64 → length us ≡ 32 → ps ≡ first_chunks 2 (length bs / 2) bs →
    ((k : ℕ) → k < 32 → get_or us k 0 ≡ get_or (get_or ps k []) 0 0 + get_or (get_or ps k []) 1 0 * 256) → us ≡ units_of bs
units_read bs us ps l n e f =
    let u : length (units_of bs) ≡ 32 = length_units 32 bs l in
    ext_get_or 0 us (units_of bs) (n ∙ sym u) (λ k h. by_chunk k (omega arith))
  where
    by_chunk : (k : ℕ) → k < 32 → get_or us k 0 ≡ get_or (units_of bs) k 0
    by_chunk k h =
        let p : get_or ps k [] ≡ part (2 * k) 2 bs = ap (λ q. get_or q k []) e ∙ pair_at (length bs / 2) k bs [] (omega arith) in
        let d = length-drop (2 * k) bs in
        let t : length (part (2 * k) 2 bs) ≡ 2 = length-take-le 2 (drop (2 * k) bs) (omega arith) in
        f k h ∙ ap (λ q. get_or q 0 0 + get_or q 1 0 * 256) p ∙ number_two (part (2 * k) 2 bs) t ∙ sym (get_or_units bs k (omega arith))

-- the first of them
units_front : (bs us : List ℕ) (n : ℕ) → n ≤ 31 → us ≡ units_of (part 0 64 bs) → take n us ≡ units_of (part 0 (2 * n) bs)
units_front bs us n h e = rw e (take_units n (take 64 bs) ∙ ap units_of (take-take (2 * n) 64 bs (omega arith)))

-- the name that the first of them spell, or none
module _ (bs us : List ℕ) (n : ℕ) (h : n ≤ 31) (e : us ≡ units_of (part 0 64 bs)) where
  spelt : List ℕ
  spelt = units_of (part 0 (2 * n) bs)

  spell_by : (b : Bool) → b ≡ well_formed (take n us) → cond (not b) (Err BadUtf16) (Ok spelt) ≡ spell_step bs n
  unfolding spelt
  spell_by b w = ap (λ t. cond (not t) (Err BadUtf16) (Ok spelt)) (w ∙ ap well_formed (units_front bs us n h e))

  pub spell_ok : (name : Name) (r : Result Name NameError) → length us ≡ 32 → true ≡ well_formed (take n us) → r ≡ cond (ltb 31 (length (take n us))) (Err TooLong) (Ok (take n us)) → r ≡ Ok name → Ok name ≡ spell_step bs n
  unfolding spelt
  spell_ok name r l w q o =
      let f = units_front bs us n h e in
      let k : length (take n us) ≡ n = length-take-le n us (omega arith) in
      let short : ltb 31 (length (take n us)) ≡ false = le-ltb 31 (length (take n us)) (omega arith) in
      let m : ◌≡◌ {A = Result Name NameError} (Ok name) (Ok (take n us)) = sym o ∙ q ∙ ap (λ b. cond b (Err TooLong) (Ok (take n us))) short in
      let i : name ≡ (take n us) = cc in
      ap Ok (i ∙ f) ∙ spell_by true w

  pub spell_bad : false ≡ well_formed (take n us) → Err BadUtf16 ≡ spell_step bs n
  spell_bad w = spell_by false w
