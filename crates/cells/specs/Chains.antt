-- What stands in the cells. Only this crate's own code speaks of it; callers see the map of Maps.
--
-- end_of    how far a link passes: up to its cell, or, where there is none, past every cell
-- emptied   a cell that holds nothing
-- held      what the cells hold, cell by cell, their links left out
-- head_at   the first cell of a bucket's chain, as the cells say it
-- next_at   the next cell of a chain, as the cells say it
-- valued    an entry's value
-- revalued  an entry with another value
-- without   what is held after one cell is emptied, and what the last one holds is moved there
-- Sits      what a cell holds belongs into a bucket
-- In        a cell is taken by an entry of a bucket
-- Link      a number is the first with a property, from a number on; or there is none
-- Chained   every link goes to the next taken cell of its bucket, by number
-- Kept      the cells are chained
-- Holds     a cell holds a key the same as a given one
-- Lacks     no cell holds one
-- Passed    a walk along a key's chain has come to a cell, and the key is in no cell before it
-- Step      a link of a bucket's chain that begins before a given cell
-- Between   the link that goes past a given cell, or to it
-- Hooked    one link was changed, and nothing else

use Rattle.std.specs.Prelude.{◌≡◌, ℕ, ◌+◌, ◌%◌, ◌^◌, ◌<◌, ◌≤◌, Bool, true, ◌⊎◌, List, map, length, get_or, Some, None, Option, ◌≢◌, slice_index_or, slice_set}
use Rattle.cells.specs.declared.cell.Entry.{Entry}
use Rattle.cells.specs.declared.cell.Cell.{Cell}

abbrev pub end_of : Option ℕ → ℕ
end_of None = 2 ^ 64
end_of (Some i) = i

abbrev pub emptied : {K : Type 0} → Cell K
emptied = record { entry = None; next = None; head = None }

abbrev pub held : {K : Type 0} → List (Cell K) → List (Option (Entry K))
held cells = map (λ c. c.entry) cells

abbrev pub head_at : {K : Type 0} → List (Cell K) → ℕ → Option ℕ
head_at cells b = slice_index_or (map (λ c. c.head) cells) b None

abbrev pub next_at : {K : Type 0} → List (Cell K) → ℕ → Option ℕ
next_at cells i = slice_index_or (map (λ c. c.next) cells) i None

abbrev pub valued : {K : Type 0} → Option (Entry K) → Option ℕ
valued None = None
valued (Some e) = Some e.value

abbrev pub revalued : {K : Type 0} → Option (Entry K) → ℕ → Option (Entry K)
revalued None value = None
revalued (Some e) value = Some (record { key = e.key; value = value })

abbrev pub without : {K : Type 0} → List (Option (Entry K)) → ℕ → ℕ → List (Option (Entry K))
without vs hole last =
    let emptied_hole = slice_set vs hole None in slice_set (slice_set emptied_hole last None) hole (slice_index_or emptied_hole last None)

abbrev pub Sits : {K : Type 0} → (K → ℕ) → ℕ → ℕ → Option (Entry K) → Type 0
Sits hash n b None = ⊥
Sits hash n b (Some e) = hash e.key % n ≡ b

abbrev pub In : {K : Type 0} → (K → ℕ) → List (Cell K) → ℕ → ℕ → Type 0
In hash cells b j = Sits hash (length cells) b (slice_index_or (held cells) j None)

pub record Link (p : ℕ → Type 0) (from : ℕ) (x : Option ℕ) : Type 0 where
  pub stands : (i : ℕ) → x ≡ Some i → (from ≤ i) × p i
  pub first : (j : ℕ) → from ≤ j → j < end_of x → p j → ⊥

-- v is what the cells hold, H and N are their links
pub record Chained {K : Type 0} (hash : K → ℕ) (n : ℕ) (v : ℕ → Option (Entry K)) (H N : ℕ → Option ℕ) : Type 0 where
  pub heads : (b : ℕ) → b < n → Link (λ j. Sits hash n b (v j)) 0 (H b)
  pub nexts : (i : ℕ) (e : Entry K) → v i ≡ Some e → Link (λ j. Sits hash n (hash e.key % n) (v j)) (i + 1) (N i)

pub record Kept {K : Type 0} (hash : K → ℕ) (cells : List (Cell K)) : Type 0 where
  pub chained : Chained hash (length cells) (λ j. get_or (held cells) j None) (head_at cells) (next_at cells)

pub record Holds {K : Type 0} (same : K → K → Bool) (cells : List (Cell K)) (k : K) (i : ℕ) : Type 0 where
  pub inside : i < length cells
  pub entry : Entry K
  pub here : get_or (held cells) i None ≡ Some entry
  pub alike : same entry.key k ≡ true

pub record Lacks {K : Type 0} (same : K → K → Bool) (cells : List (Cell K)) (k : K) : Type 0 where
  pub none : (j : ℕ) (e : Entry K) → slice_index_or (held cells) j None ≡ Some e → same e.key k ≢ true

pub record Passed {K : Type 0} (same : K → K → Bool) (hash : K → ℕ) (cells : List (Cell K)) (k : K) (at : Option ℕ) : Type 0 where
  pub stands : (i : ℕ) → at ≡ Some i → In hash cells (hash k % length cells) i
  pub none : (j : ℕ) (e : Entry K) → j < end_of at → slice_index_or (held cells) j None ≡ Some e → same e.key k ≢ true

-- the link comes from the cell `before`, or is the head of bucket b, and goes to x
abbrev pub Step : (p : ℕ → Type 0) → (H N : ℕ → Option ℕ) → (b f : ℕ) → (before x : Option ℕ) → Type 0
Step p H N b f before x =
    ((before ≡ None) × (x ≡ H b) × Link p 0 x) ⊎ ((i : ℕ) × (before ≡ Some i) × (i < f) × p i × (x ≡ N i) × Link p (i + 1) x)

pub record Between {K : Type 0} (hash : K → ℕ) (cells : List (Cell K)) (b f : ℕ) (before x : Option ℕ) : Type 0 where
  pub step : Step (In hash cells b) (head_at cells) (next_at cells) b f before x
  pub past : f ≤ end_of x

-- the link from `before`, or the head of bucket b, goes to x now
pub record Hooked {K : Type 0} (old new : List (Cell K)) (b : ℕ) (before x : Option ℕ) : Type 0 where
  pub size : length new ≡ length old
  pub same : held new ≡ held old
  pub heads : (j : ℕ) → (before ≡ None → j ≢ b) → head_at new j ≡ head_at old j
  pub nexts : (j : ℕ) → before ≢ Some j → next_at new j ≡ next_at old j
  pub head : before ≡ None → head_at new b ≡ x
  pub next : (i : ℕ) → before ≡ Some i → next_at new i ≡ x
