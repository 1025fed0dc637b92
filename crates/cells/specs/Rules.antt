-- The rules that the cells of a table keep.
--
-- Once    no key is in two cells
-- Dense   the keys are in the first cells, one in each
-- Rules   the cells are chained, no key is in two, and the first ones are taken

use Rattle.std.specs.Prelude.{◌≡◌, ℕ, ◌<◌, ◌≤◌, Bool, true, false, List, length, is_some, Some, None, Option, slice_index_or}
use Rattle.cells.specs.declared.cell.Entry.{Entry}
use Rattle.cells.specs.declared.cell.Cell.{Cell}
use Rattle.cells.specs.Chains.{held, Kept}

abbrev pub Once : {K : Type 0} → (K → K → Bool) → List (Option (Entry K)) → Type 0
Once {K} same vs = (i j : ℕ) (e f : Entry K) → slice_index_or vs i None ≡ Some e → slice_index_or vs j None ≡ Some f → same e.key f.key ≡ true → i ≡ j

pub record Dense {K : Type 0} (vs : List (Option (Entry K))) (count : ℕ) : Type 0 where
  pub size : count ≤ length vs
  pub taken : (j : ℕ) → j < count → is_some (slice_index_or vs j None) ≡ true
  pub free : (j : ℕ) → count ≤ j → is_some (slice_index_or vs j None) ≡ false

pub record Rules {K : Type 0} (hash : K → ℕ) (same : K → K → Bool) (cells : List (Cell K)) (count : ℕ) : Type 0 where
  pub kept : Kept hash cells
  pub once : Once same (held cells)
  pub dense : Dense (held cells) count
