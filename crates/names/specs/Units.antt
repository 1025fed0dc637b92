-- UTF-16: what a list of 16-bit units spells.
--
--   high, low       a unit of the first, of the second half of a surrogate pair
--   surrogate       either of the two
--   joined h l      the code point of a pair
--   codes us        the code points of a list of units, from the front: a high unit with a low one after it is one
--                   code point, any other unit is one by itself
--   no_surrogate cs none of the codes is a surrogate
--   well_formed us  no surrogate stands by itself: every high one is followed by a low one, and no low one is alone
--   Spells us cs    us is the UTF-16 of the code points cs, one by one
--   Steps us r vs   r is the first code point of us, and vs are the units after it, fewer than us; r is none where
--                   there are no units
use Rattle.std.specs.Prelude.{◌≡◌, ℕ, ◌+◌, ◌-◌, ◌*◌, ◌<◌, Bool, false, true, cond, not, ◌&&◌, List, [], ◌∷◌, length, Option, MatchOption, nat_le}
use Rattle.std.specs.Iterator.{YieldsFirst}
use Rattle.std.specs.List.{list_all}

abbrev pub high : ℕ → Bool
high u = nat_le 0xd800 u && nat_le u 0xdbff

abbrev pub low : ℕ → Bool
low u = nat_le 0xdc00 u && nat_le u 0xdfff

abbrev pub surrogate : ℕ → Bool
surrogate u = nat_le 0xd800 u && nat_le u 0xdfff

abbrev pub joined : ℕ → ℕ → ℕ
joined h l = 0x10000 + (h - 0xd800) * 0x400 + (l - 0xdc00)

abbrev pub codes : List ℕ → List ℕ
codes [] = []
codes (u ∷ []) = u ∷ []
codes (u ∷ v ∷ us) = cond (high u && low v) (joined u v ∷ codes us) (u ∷ codes (v ∷ us))

abbrev pub no_surrogate : List ℕ → Bool
no_surrogate cs = list_all (λ c. not (surrogate c)) cs

abbrev pub well_formed : List ℕ → Bool
well_formed us = no_surrogate (codes us)

pub data Spells : List ℕ → List ℕ → Type 0 where
  nothing : Spells [] []
  single : {u : ℕ} {us cs : List ℕ} → surrogate u ≡ false → Spells us cs → Spells (u ∷ us) (u ∷ cs)
  pair : {h l : ℕ} {us cs : List ℕ} → high h ≡ true → low l ≡ true → Spells us cs → Spells (h ∷ l ∷ us) (joined h l ∷ cs)

pub record Steps (us : List ℕ) (r : Option ℕ) (vs : List ℕ) : Type 0 where
  pub first : YieldsFirst codes us r vs
  pub shorter : MatchOption r (us ≡ []) (λ _. length vs < length us)
