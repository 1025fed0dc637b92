-- A walk along a bucket's chain to the place of a cell.
use Rattle.std.proofs.Common.{◌≡◌, ℕ, ◌+◌, ◌-◌, ◌<◌, ◌≤◌, ◌^◌, List, length, get_or, Some, None, Option, sym, refl, ap, ◌∙◌, subst, inl, inr, ⊎_elim, arith}
use Rattle.std.proofs.lemmas.Option.{same_Some}
use Rattle.std.proofs.lemmas.List.{get_or-map}
use Rattle.cells.specs.declared.cell.Cell.{Cell}
use Rattle.cells.specs.Chains.{end_of, held, head_at, next_at, In, Link, Kept, Step, Between}
use Rattle.cells.proofs.Sits.{sits_entry}
use Rattle.cells.proofs.Links.{clash, ends}

module _ {K : Type 0} (hash : K → ℕ) where
  pub gap_start : (cells : List (Cell K)) (b f : ℕ) (c : Cell K) → Kept hash cells → b < length cells → Step (In hash cells b) (head_at cells) (next_at cells) b f None (get_or cells b c).head
  gap_start cells b f c kept h =
      let e : head_at cells b ≡ (get_or cells b c).head = get_or-map (λ (x : Cell K). x.head) cells b c None h in
      inl (refl, sym e, subst (Link (In hash cells b) 0) e (kept.chained.heads b h))

  -- one link on
  gap_inside : (cells : List (Cell K)) (b f i : ℕ) (before x : Option ℕ) → Step (In hash cells b) (head_at cells) (next_at cells) b f before x → x ≡ Some i → In hash cells b i
  gap_inside cells b f i before x s e = ⊎_elim (λ t. (t.2.stands i e).1) (λ t. (t.5.stands i e).1) s

  pub gap_next : (cells : List (Cell K)) (b f i : ℕ) (before x : Option ℕ) (c : Cell K) → Kept hash cells → length cells ≤ 2 ^ 64 → f < length cells → Step (In hash cells b) (head_at cells) (next_at cells) b f before x → x ≡ Some i → i < f →
      Step (In hash cells b) (head_at cells) (next_at cells) b f (Some i) (get_or cells i c).next × (length cells - end_of (get_or cells i c).next < length cells - end_of x)
  gap_next cells b f i before x c kept few inside s is lt =
      let here : In hash cells b i = gap_inside cells b f i before x s is in
      let t = sits_entry hash (length cells) b (get_or (held cells) i None) here in
      let y : Option ℕ = (get_or cells i c).next in
      let g : end_of x ≡ i = ap end_of is in
      let e : next_at cells i ≡ y = get_or-map (λ (z : Cell K). z.next) cells i c None (omega arith) in
      let l : Link (In hash cells b) (i + 1) y = subst (Link (In hash cells b) (i + 1)) e (subst (λ d. Link (In hash cells d) (i + 1) (next_at cells i)) t.2 (kept.chained.nexts i t.0 t.1)) in
      (inr (i, refl, lt, here, sym e, l), ⊎_elim (λ z. let n : end_of y ≡ 2 ^ 64 = ap end_of z in omega arith) (λ q. let n : end_of y ≡ q.0 = ap end_of q.1 in omega (arith, q.2)) (ends y l))

  pub before_inside : (cells : List (Cell K)) (b f : ℕ) (before x : Option ℕ) → Between hash cells b f before x → f < length cells → (i : ℕ) → before ≡ Some i → i < length cells
  before_inside cells b f before x s h i e = ⊎_elim (λ t. absurd (clash t.0 e)) (λ t. let q : t.0 ≡ i = same_Some _ _ (sym t.1 ∙ e) in let k : t.0 < f = t.2 in omega arith) s.step

  pub not_before : (cells : List (Cell K)) (b f : ℕ) (before x : Option ℕ) → Between hash cells b f before x → before ≡ Some f → ⊥
  not_before cells b f before x s e = ⊎_elim (λ t. clash t.0 e) (λ t. let q : t.0 ≡ f = same_Some _ _ (sym t.1 ∙ e) in let k : t.0 < f = t.2 in omega arith) s.step
