-- The library's bytes of a number, the low byte first, are those of the definition, for every width.
use Rattle.std.proofs.Common.{◌≡◌, ℕ, zero, suc, ◌/◌, ◌%◌, ◌^◌, ◌∷◌, sym, refl, ap, ◌∙◌, pow-suc}
use Rattle.std.proofs.Math.Nat.{div-one, div-div-eq-div-mul}
use Rattle.std.specs.Int.{byte_at, bytes_low_first}
use Rattle.records.specs.Bytes.{bytes_of}

byte_of : (i n : ℕ) → byte_at i n ≡ n / 256 ^ i % 256
byte_of zero n = ap (λ x. x % 256) (sym (div-one n))
byte_of (suc i) n = refl

from_place : (w i n : ℕ) → bytes_low_first i w n ≡ bytes_of w (n / 256 ^ i)
from_place zero i n = refl
from_place (suc w) i n =
    let here = byte_of i n in
    let shift : n / 256 ^ suc i ≡ n / 256 ^ i / 256 = ap (λ k. n / k) (pow-suc 256 i) ∙ sym (div-div-eq-div-mul n (256 ^ i) 256) in
    let rest = from_place w (suc i) n ∙ ap (bytes_of w) shift in
    λ j. here j ∷ rest j

pub low_first : (w n : ℕ) → bytes_low_first 0 w n ≡ bytes_of w n
low_first w n = from_place w 0 n ∙ ap (bytes_of w) (div-one n)
