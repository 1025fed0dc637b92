-- A list in which a number may stand twice.
--
-- Repeats      the number at a place stands at an earlier place too
-- Distinct     there is no such place: the numbers are all distinct
-- FirstRepeat  the first such place

use Rattle.std.specs.Prelude.{◌≡◌, ℕ, ◌<◌, List, length, slice_index}

abbrev pub Repeats : List ℕ → ℕ → Type 0
Repeats xs j = (j < length xs) × ((i : ℕ) × (i < j) × (slice_index xs i ≡ slice_index xs j))

abbrev pub Distinct : List ℕ → Type 0
Distinct xs = (j : ℕ) → Repeats xs j → ⊥

abbrev pub FirstRepeat : List ℕ → ℕ → Type 0
FirstRepeat xs j = Repeats xs j × ((k : ℕ) → k < j → Repeats xs k → ⊥)
