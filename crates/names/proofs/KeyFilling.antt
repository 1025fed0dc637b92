-- A key that is filled in code point by code point.
use Rattle.std.proofs.Common.{◌≡◌, ℕ, ◌+◌, ◌<◌, ◌≤◌, List, [], ◌∷◌, ◌++◌, length, set, sym, ap, ◌∙◌, length-append, arith}
use Rattle.std.proofs.lemmas.List.{length_push}
use Rattle.names.specs.declared.key.NameKey.{NameKey}
use Rattle.names.specs.Keys.{in_place}
use Rattle.names.specs.Units.{codes}
use Rattle.names.proofs.CodePoints.{codes_few}
use Rattle.names.proofs.Filling.{padded_more}

-- the key of n units whose first code points are xs
abbrev pub so_far : ℕ → List ℕ → NameKey
so_far n xs = in_place (record { units = n; folded = xs })

-- one code point more
pub one_more : (n : ℕ) (k : NameKey) (xs : List ℕ) (x : ℕ) → length xs < 31 → k ≡ so_far n xs → ◌≡◌ {A = NameKey} (record k { code_count = k.code_count + 1; codes = set k.codes k.code_count x }) (so_far n (xs ++ x ∷ []))
one_more n k xs x h e =
    let count : k.code_count ≡ length xs = ap (λ (j : NameKey). j.code_count) e in
    let units : k.unit_count ≡ n = ap (λ (j : NameKey). j.unit_count) e in
    let more : k.code_count + 1 ≡ length (xs ++ x ∷ []) = ap (λ m. m + 1) count ∙ sym (length_push xs x) in
    let codes = padded_more 31 xs k.codes k.code_count x (sym count) (omega arith) (ap (λ (j : NameKey). j.codes) e) in
    λ i. record { unit_count = units i; code_count = more i; codes = codes i }

-- where a code point is left, a place is left
pub room : (us before rest : List ℕ) (c : ℕ) (more : List ℕ) → length us ≤ 31 → before ++ rest ≡ codes us → rest ≡ c ∷ more → length before < 31
room us before rest c more few whole e =
    let all = ap length whole in
    let next = ap length e in
    omega (arith, codes_few us, length-append before rest)
