-- Records at places in lent bytes.
--
--   record_at bs a      the 128 bytes that begin at the place a
--   records_at bs at n  the records 0 to n - 1, the record k at the place at k
--   Fit at n len        the records 0 to n - 1 lie in a memory of len bytes
--   Apart at n          they lie in different bytes
--   outside c bs        the bytes with 0 at each place of which c is true: what lies outside those places
use Rattle.std.specs.Prelude.{ℕ, ◌+◌, ◌<◌, ◌≤◌, Bool, cond, ◌⊎◌, List, map, length, take, drop, ◌≢◌, slice_index}
use Rattle.std.specs.List.{range_with_len}

abbrev pub record_at : List ℕ → ℕ → List ℕ
record_at bs a = take 128 (drop a bs)

abbrev pub records_at : List ℕ → (ℕ → ℕ) → ℕ → List (List ℕ)
records_at bs at n = map (λ k. record_at bs (at k)) (range_with_len 0 n)

abbrev pub Fit : (ℕ → ℕ) → ℕ → ℕ → Type 0
Fit at n len = (k : ℕ) → k < n → at k + 128 ≤ len

abbrev pub Apart : (ℕ → ℕ) → ℕ → Type 0
Apart at n = (j k : ℕ) → j < n → k < n → (j ≢ k) → (at j + 128 ≤ at k) ⊎ (at k + 128 ≤ at j)

abbrev pub outside : (ℕ → Bool) → List ℕ → List ℕ
outside c bs = map (λ i. cond (c i) 0 (slice_index bs i)) (range_with_len 0 (length bs))
