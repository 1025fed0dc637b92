-- One field of one cell: as it is read, and as it is written.
use Rattle.std.proofs.Common.{◌≡◌, ℕ, ◌<◌, List, map, length, get_or, set, None, sym, ap, ◌∙◌}
use lib.Seq.{map-set}
use Rattle.std.proofs.lemmas.List.{get_or-map, length-map, get_or-set_same, get_or-set_other}
use Rattle.cells.specs.declared.cell.Cell.{Cell}
use Rattle.cells.specs.Chains.{held, head_at, next_at}

module _ {K : Type 0} where
  -- a cell that was read, field by field
  pub held_read : (cells : List (Cell K)) (i : ℕ) (c : Cell K) → i < length cells → c ≡ get_or cells i c → get_or (held cells) i None ≡ c.entry
  held_read cells i c h e = get_or-map (λ (x : Cell K). x.entry) cells i c None h ∙ ap (λ (x : Cell K). x.entry) (sym e)

  pub head_read : (cells : List (Cell K)) (i : ℕ) (c : Cell K) → i < length cells → c ≡ get_or cells i c → head_at cells i ≡ c.head
  head_read cells i c h e = get_or-map (λ (x : Cell K). x.head) cells i c None h ∙ ap (λ (x : Cell K). x.head) (sym e)

  pub next_read : (cells : List (Cell K)) (i : ℕ) (c : Cell K) → i < length cells → c ≡ get_or cells i c → next_at cells i ≡ c.next
  next_read cells i c h e = get_or-map (λ (x : Cell K). x.next) cells i c None h ∙ ap (λ (x : Cell K). x.next) (sym e)

  pub length-held : (cells : List (Cell K)) → length (held cells) ≡ length cells
  length-held cells = length-map cells (λ (x : Cell K). x.entry)

  -- one field of one cell is written
  pub heads_set : (cells : List (Cell K)) (i : ℕ) (c : Cell K) (j : ℕ) → (j ≡ i → ⊥) → head_at (set cells i c) j ≡ head_at cells j
  heads_set cells i c j ne = ap (λ l. get_or l j None) (map-set (λ (x : Cell K). x.head) cells i c) ∙ get_or-set_other (map (λ (x : Cell K). x.head) cells) i j c.head None ne

  pub head_set : (cells : List (Cell K)) (i : ℕ) (c : Cell K) → i < length cells → head_at (set cells i c) i ≡ c.head
  head_set cells i c h = ap (λ l. get_or l i None) (map-set (λ (x : Cell K). x.head) cells i c) ∙ get_or-set_same (map (λ (x : Cell K). x.head) cells) i c.head None (rw (length-map cells (λ (x : Cell K). x.head)) h)

  pub nexts_set : (cells : List (Cell K)) (i : ℕ) (c : Cell K) (j : ℕ) → (j ≡ i → ⊥) → next_at (set cells i c) j ≡ next_at cells j
  nexts_set cells i c j ne = ap (λ l. get_or l j None) (map-set (λ (x : Cell K). x.next) cells i c) ∙ get_or-set_other (map (λ (x : Cell K). x.next) cells) i j c.next None ne

  pub next_set : (cells : List (Cell K)) (i : ℕ) (c : Cell K) → i < length cells → next_at (set cells i c) i ≡ c.next
  next_set cells i c h = ap (λ l. get_or l i None) (map-set (λ (x : Cell K). x.next) cells i c) ∙ get_or-set_same (map (λ (x : Cell K). x.next) cells) i c.next None (rw (length-map cells (λ (x : Cell K). x.next)) h)
