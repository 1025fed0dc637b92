-- What callers see of a table: a finite map from keys to numbers.
--
-- cells_of     the lent cells of a table
-- size_of      how many cells it has
-- SameCells    two references lead to the same lent cells, as many as before
-- value_in     the value under a key, in a list of what cells hold
-- lookup       the value under a key, or none: the table as a map
-- Puts         one map is another with a value put under a key
-- Drops        one map is another without a key
-- Blank        a map without keys
-- with_key     the number of keys after a key is put, by what was under it
-- without_key  the number of keys after a key is dropped, by what was under it
-- Fresh        a table holds no key
-- Inserted     what an accepted insertion leaves
-- Refused      when an insertion is refused, and what that leaves
-- Empty        every cell is empty

use Rattle.std.specs.Prelude.{◌≡◌, ℕ, ◌+◌, ◌-◌, ◌<◌, Bool, cond, List, [], ◌∷◌, length, Some, None, Option, slice_index_or}
use Rattle.std.specs.Borrow.{MutBor}
use Rattle.std.specs.declared.cmp.PartialEq as Equality
use Rattle.keys.specs.declared.key.Key as Hashing
use Rattle.cells.specs.declared.cell.Entry.{Entry}
use Rattle.cells.specs.declared.cell.Cell.{Cell}
use Rattle.cells.specs.declared.table.Table.{Table}
use Rattle.cells.specs.Chains.{held, emptied}

abbrev pub value_in : {K : Type 0} → (K → K → Bool) → List (Option (Entry K)) → K → Option ℕ
value_in same [] k = None
value_in same (None ∷ vs) k = value_in same vs k
value_in same (Some e ∷ vs) k = cond (same e.key k) (Some e.value) (value_in same vs k)

abbrev pub Puts : {K : Type 0} → (K → K → Bool) → (old new : K → Option ℕ) → K → ℕ → Type 0
Puts {K} same old new key value = (k : K) → new k ≡ cond (same key k) (Some value) (old k)

abbrev pub Drops : {K : Type 0} → (K → K → Bool) → (old new : K → Option ℕ) → K → Type 0
Drops {K} same old new key = (k : K) → new k ≡ cond (same key k) None (old k)

abbrev pub Blank : {K : Type 0} → (K → Option ℕ) → Type 0
Blank {K} map = (k : K) → map k ≡ None

abbrev pub with_key : Option ℕ → ℕ → ℕ
with_key None count = count + 1
with_key (Some _) count = count

abbrev pub without_key : Option ℕ → ℕ → ℕ
without_key None count = count
without_key (Some _) count = count - 1

abbrev pub Empty : {K : Type 0} → List (Cell K) → Type 0
Empty {K} cells = (j : ℕ) (d : Cell K) → j < length cells → slice_index_or cells j d ≡ emptied

pub record SameCells {K : Type 0} (old new : MutBor (List (Cell K))) : Type 0 where
  pub lender : new.ghost_name ≡ old.ghost_name
  pub size : length new.now ≡ length old.now

-- the bounds of a kind of key come with its table
module _ {K : Type 0} {hashing : Hashing.Ghosts K} {equality : Equality.Ghosts K} where
  abbrev pub cells_of : Table K hashing equality → List (Cell K)
  cells_of t = t.cells.now

  abbrev pub size_of : Table K hashing equality → ℕ
  size_of t = length (cells_of t)

  unfoldable pub lookup : Table K hashing equality → K → Option ℕ
  lookup t k = value_in equality.eq (held (cells_of t)) k

  pub record Fresh (t : Table K hashing equality) : Type 0 where
    pub blank : Blank (lookup t)
    pub count : t.count ≡ 0

  pub record Inserted (old new : Table K hashing equality) (key : K) (value : ℕ) : Type 0 where
    pub puts : Puts equality.eq (lookup old) (lookup new) key value
    pub counts : new.count ≡ with_key (lookup old key) old.count

  pub record Refused (old new : Table K hashing equality) (key : K) : Type 0 where
    pub absent : lookup old key ≡ None
    pub full : old.count ≡ size_of old
    pub stays : cells_of new ≡ cells_of old
    pub counts : new.count ≡ old.count
