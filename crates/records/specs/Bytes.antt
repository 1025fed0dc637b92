-- Bytes: how numbers and units stand in a record, the low byte first.
--
--   number bs               the number that bytes spell
--   bytes_of w x            the w bytes that spell x
--   part at n bs            n bytes from an offset on
--   byte_at bs at           the byte at an offset
--   u16_at, u32_at, u64_at  the number of 2, 4, 8 bytes at an offset
--   units_of bs             the units that bytes spell, two bytes each
--   unit_bytes us           the bytes that spell units
use Rattle.std.specs.Prelude.{ℕ, zero, suc, ◌+◌, ◌*◌, ◌/◌, ◌%◌, List, [], ◌∷◌, ◌++◌, take, drop, slice_index}

abbrev pub number : List ℕ → ℕ
number [] = 0
number (b ∷ bs) = b + number bs * 256

abbrev pub bytes_of : ℕ → ℕ → List ℕ
bytes_of zero x = []
bytes_of (suc w) x = x % 256 ∷ bytes_of w (x / 256)

abbrev pub part : ℕ → ℕ → List ℕ → List ℕ
part at n bs = take n (drop at bs)

abbrev pub byte_at : List ℕ → ℕ → ℕ
byte_at bs at = slice_index bs at

abbrev pub u16_at : List ℕ → ℕ → ℕ
u16_at bs at = number (part at 2 bs)

abbrev pub u32_at : List ℕ → ℕ → ℕ
u32_at bs at = number (part at 4 bs)

abbrev pub u64_at : List ℕ → ℕ → ℕ
u64_at bs at = number (part at 8 bs)

abbrev pub units_of : List ℕ → List ℕ
units_of [] = []
units_of (a ∷ []) = []
units_of (a ∷ b ∷ bs) = number (a ∷ b ∷ []) ∷ units_of bs

abbrev pub unit_bytes : List ℕ → List ℕ
unit_bytes [] = []
unit_bytes (u ∷ us) = bytes_of 2 u ++ unit_bytes us
