-- A walk along the chain of a key meets every cell that could hold the key.
use Rattle.std.proofs.Common.{◌≡◌, ℕ, ◌+◌, ◌-◌, ◌%◌, ◌^◌, ◌<◌, ◌≤◌, Bool, true, false, List, length, get_or, Some, None, Option, sym, ap, ◌∙◌, subst, ⊎_elim, arith}
use Rattle.std.proofs.lemmas.Option.{same_Some}
use Rattle.std.proofs.lemmas.List.{get_or_past}
use Rattle.std.proofs.lemmas.Bool.{both_ways, cases_lt, cases_eq}
use Rattle.cells.specs.declared.cell.Entry.{Entry}
use Rattle.cells.specs.declared.cell.Cell.{Cell}
use Rattle.cells.specs.Chains.{end_of, held, In, Link, Kept, Holds, Lacks, Passed}
use Rattle.cells.proofs.Links.{ends}
use Rattle.cells.proofs.Fields.{held_read, head_read, next_read, length-held}
use Rattle.cells.proofs.Sits.{sits_none, sits_put, sits_entry}

module _ {K : Type 0} where
  -- a number in a bucket is a cell's
  pub in_inside : (hash : K → ℕ) (cells : List (Cell K)) (b j : ℕ) → In hash cells b j → j < length cells
  in_inside hash cells b j h =
      ⊎_elim (λ l. l) (λ g. absurd (sits_none hash (length cells) b (get_or (held cells) j None) h (get_or_past (held cells) j None (rw (length-held cells) g)))) (cases_lt j (length cells))

module _ {K : Type 0} (same : K → K → Bool) (hash : K → ℕ) (agrees : (x y : K) → same x y ≡ true → hash x ≡ hash y) where
  -- a cell with a key like k is in the bucket of k
  alike_in : (cells : List (Cell K)) (k : K) (j : ℕ) (e : Entry K) → get_or (held cells) j None ≡ Some e → same e.key k ≡ true → In hash cells (hash k % length cells) j
  alike_in cells k j e q a = sits_put hash (length cells) (hash k % length cells) (get_or (held cells) j None) e q (ap (λ h. h % length cells) (agrees e.key k a))

  pub passed_start : (cells : List (Cell K)) (k : K) (c : Cell K) (h : ℕ) → Kept hash cells → h ≡ hash k → h % length cells < length cells → c ≡ get_or cells (h % length cells) c → Passed same hash cells k (get_or cells (h % length cells) c).head
  passed_start cells k c h kept q below e =
      let b : ℕ = h % length cells in
      let bk : h % length cells ≡ hash k % length cells = ap (λ x. x % length cells) q in
      let l : Link (In hash cells (hash k % length cells)) 0 c.head = subst (λ x. Link (In hash cells x) 0 c.head) bk (subst (λ x. Link (In hash cells b) 0 x) (head_read cells b c below e) (kept.chained.heads b below)) in
      subst (λ (y : Cell K). Passed same hash cells k y.head) e (record { stands = λ i s. (l.stands i s).1; none = λ j x lt here a. l.first j (omega arith) lt (alike_in cells k j x here a) })

  pub passed_inside : (cells : List (Cell K)) (k : K) (at : Option ℕ) (i : ℕ) → Passed same hash cells k at → at ≡ Some i → i < length cells
  passed_inside cells k at i p is = in_inside hash cells _ i (p.stands i is)

  pub passed_next : (cells : List (Cell K)) (k : K) (at : Option ℕ) (i : ℕ) (c : Cell K) → Kept hash cells → length cells ≤ 2 ^ 64 → Passed same hash cells k at → at ≡ Some i → c ≡ get_or cells i c → ((x : Entry K) → c.entry ≡ Some x → same x.key k ≡ false) → Passed same hash cells k c.next × (length cells - end_of c.next < length cells - end_of at)
  passed_next cells k at i c kept few p is e diff =
      let inside = passed_inside cells k at i p is in
      let t = sits_entry hash (length cells) (hash k % length cells) (get_or (held cells) i None) (p.stands i is) in
      let x : Entry K = t.0 in
      let other : same x.key k ≡ false = diff x (sym (held_read cells i c inside e) ∙ t.1) in
      let l : Link (In hash cells (hash k % length cells)) (i + 1) c.next = subst (λ b. Link (In hash cells b) (i + 1) c.next) t.2 (subst (λ n. Link (In hash cells (hash x.key % length cells)) (i + 1) n) (next_read cells i c inside e) (kept.chained.nexts i x t.1)) in
      let g : end_of at ≡ i = ap end_of is in (
        record {
          stands = λ j s. (l.stands j s).1;
          none = λ j y lt hj a. ⊎_elim (λ before. p.none j y (omega arith) hj a) (λ after.
              ⊎_elim (λ eq. let u : x ≡ y = same_Some _ _ (sym t.1 ∙ ap (λ n. get_or (held cells) n None) (sym eq) ∙ hj) in both_ways (same y.key k) (ap (λ (z : Entry K). same z.key k) (sym u) ∙ other) a)
              (λ ne. l.first j (omega arith) lt (alike_in cells k j y hj a)) (cases_eq j i)) (cases_lt j i);
        },
        ⊎_elim (λ z. let n : end_of c.next ≡ 2 ^ 64 = ap end_of z in omega arith) (λ q. let n : end_of c.next ≡ q.0 = ap end_of q.1 in omega (arith, q.2)) (ends c.next l),
      )

  pub passed_all : (cells : List (Cell K)) (k : K) (at : Option ℕ) → length cells ≤ 2 ^ 64 → Passed same hash cells k at → at ≡ None → Lacks same cells k
  passed_all cells k at few p z = let n : end_of at ≡ 2 ^ 64 = ap end_of z in
      record { none = λ j e here a. p.none j e (let h = in_inside hash cells _ j (alike_in cells k j e here a) in omega arith) here a }

  pub none_all : (cells : List (Cell K)) (k : K) → length cells ≡ 0 → Lacks same cells k
  none_all cells k z = record { none = λ j e here a. let h = in_inside hash cells _ j (alike_in cells k j e here a) in omega arith }

  pub found : (cells : List (Cell K)) (k : K) (at : Option ℕ) (i : ℕ) (c : Cell K) (x : Entry K) → Passed same hash cells k at → at ≡ Some i → c ≡ get_or cells i c → c.entry ≡ Some x → same x.key k ≡ true → Holds same cells k i
  found cells k at i c x p is e y a = let inside = passed_inside cells k at i p is in record { inside = inside; entry = x; here = held_read cells i c inside e ∙ y; alike = a }
