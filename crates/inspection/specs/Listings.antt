-- A listing: names in directory order.
--
--   Ascends fold ns        each name stands before those after it, so none is there twice
--   HasAt fold ns us i     the i-th name is the same name as us
--   Splits fold ns us i     the names before i are less than us, and the others greater
--   Enters fold ns n ms    ms is ns with the name n at its place
--   Keeps fold ns n ms h   ms is ns, in which h stands, the same name as n
use Rattle.std.specs.Prelude.{◌≡◌, ℕ, ◌<◌, ◌≤◌, List, length, insert, slice_index_or}
use Rattle.std.specs.declared.cmp.Ordering.TheVariants.{Less, Equal, Greater}
use Rattle.names.specs.declared.name.Name.{Name}
use Rattle.names.specs.Order.{compared}

abbrev pub Ascends : (ℕ → ℕ) → List Name → Type 0
Ascends fold ns = (i j : ℕ) (d : Name) → i < j → j < length ns → compared fold (slice_index_or ns i d) (slice_index_or ns j d) ≡ Less

abbrev pub HasAt : (ℕ → ℕ) → List Name → List ℕ → ℕ → Type 0
HasAt fold ns us i = (d : Name) → compared fold (slice_index_or ns i d) us ≡ Equal

abbrev pub Splits : (ℕ → ℕ) → List Name → List ℕ → ℕ → Type 0
Splits fold ns us i = ((k : ℕ) (d : Name) → k < i → compared fold (slice_index_or ns k d) us ≡ Less) × ((k : ℕ) (d : Name) → i ≤ k → k < length ns → compared fold (slice_index_or ns k d) us ≡ Greater)

abbrev pub Enters : (ℕ → ℕ) → List Name → Name → List Name → Type 0
Enters fold ns n ms = (i : ℕ) × (i ≤ length ns) × (ms ≡ insert ns i n) × Splits fold ns n i

abbrev pub Keeps : (ℕ → ℕ) → List Name → Name → List Name → Name → Type 0
Keeps fold ns n ms h = (ms ≡ ns) × ((i : ℕ) × (i < length ns) × ((d : Name) → h ≡ slice_index_or ns i d)) × (compared fold h n ≡ Equal)
