-- Foldings: the maps from code points to numbers by which names are compared without regard to case.
--
--   ascii_upper c  a to z go to A to Z, every other code to itself
--   paired ps c    the second of the first pair of ps whose first is c; c itself where there is none
--   ascii_fold     the folding that knows ASCII alone
--   table_fold ps  the folding that looks codes above 127 up in a list of pairs
--   KeepsAscii f   the law of every folding: below 128 it is ascii_upper
use Rattle.std.specs.Prelude.{◌≡◌, ℕ, ◌-◌, ◌<◌, cond, ◌&&◌, List, [], ◌∷◌, ◌==◌, nat_le, nat_lt}

abbrev pub ascii_upper : ℕ → ℕ
ascii_upper c = cond (nat_le 97 c && nat_le c 122) (c - 32) c

abbrev pub ascii_fold : ℕ → ℕ
ascii_fold c = ascii_upper c

abbrev pub paired : List (ℕ × ℕ) → ℕ → ℕ
paired [] c = c
paired (p ∷ ps) c = cond (p.0 == c) p.1 (paired ps c)

abbrev pub table_fold : List (ℕ × ℕ) → ℕ → ℕ
table_fold ps c = cond (nat_lt c 128) (ascii_upper c) (paired ps c)

abbrev pub KeepsAscii : (ℕ → ℕ) → Type 0
KeepsAscii f = (c : ℕ) → c < 128 → f c ≡ ascii_upper c
