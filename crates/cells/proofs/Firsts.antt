-- The keys stay in the first cells.
use Rattle.std.proofs.Common.{◌≡◌, ℕ, ◌+◌, ◌<◌, ◌≤◌, List, length, get_or, set, is_some, Some, None, Option, ap, ◌∙◌, ⊎_elim, arith}
use Rattle.std.proofs.lemmas.List.{length-set, get_or-set_other}
use Rattle.std.proofs.lemmas.Bool.{both_ways, cases_lt, cases_eq}
use Rattle.cells.specs.declared.cell.Entry.{Entry}
use Rattle.cells.specs.Rules.{Dense}
use Rattle.cells.proofs.Entries.{At, set_here}

module _ {K : Type 0} (vs : List (Option (Entry K))) (count : ℕ) (dense : Dense vs count) where
  pub taken_below : (i : ℕ) (e : Entry K) → At vs i e → i < count
  taken_below i e q = ⊎_elim (λ l. l) (λ g. absurd (both_ways (is_some (get_or vs i None)) (dense.free i g) (ap is_some q))) (cases_lt i count)

  -- the first free place is taken
  pub dense_put : (e : Entry K) → count < length vs → Dense (set vs count (Some e)) (count + 1)
  dense_put e lt = record {
    size = rw (length-set vs count (Some e)) (let k : count + 1 ≤ length vs = omega arith in k);
    taken = λ j h. ⊎_elim (λ q. ap (λ i. is_some (get_or (set vs count (Some e)) i None)) q ∙ ap is_some (set_here vs count (Some e) lt))
        (λ ne. ap is_some (get_or-set_other vs count j (Some e) None ne) ∙ dense.taken j (omega arith)) (cases_eq j count);
    free = λ j h. ap is_some (get_or-set_other vs count j (Some e) None (λ q. omega arith)) ∙ dense.free j (omega arith);
  }

  -- a taken place is taken by another entry
  pub dense_replace : (i : ℕ) (x e : Entry K) → At vs i x → Dense (set vs i (Some e)) count
  dense_replace i x e q =
      let lt : i < count = taken_below i x q in let le = dense.size in let li : i < length vs = omega arith in
      record {
        size = rw (length-set vs i (Some e)) le;
        taken = λ j h. ⊎_elim (λ u. ap (λ k. is_some (get_or (set vs i (Some e)) k None)) u ∙ ap is_some (set_here vs i (Some e) li))
            (λ ne. ap is_some (get_or-set_other vs i j (Some e) None ne) ∙ dense.taken j h) (cases_eq j i);
        free = λ j h. ap is_some (get_or-set_other vs i j (Some e) None (λ u. omega arith)) ∙ dense.free j h;
      }

  -- the last taken place is given up
  pub dense_last : (last : ℕ) → last + 1 ≡ count → Dense (set vs last None) last
  dense_last last z = let le = dense.size in let li : last < length vs = omega arith in
      record {
        size = rw (length-set vs last None) (let k : last ≤ length vs = omega arith in k);
        taken = λ j h. ap is_some (get_or-set_other vs last j None None (λ u. omega arith)) ∙ dense.taken j (omega arith);
        free = λ j h. ⊎_elim (λ u. ap (λ k. is_some (get_or (set vs last None) k None)) u ∙ ap is_some (set_here vs last None li))
            (λ ne. ap is_some (get_or-set_other vs last j None None ne) ∙ dense.free j (omega arith)) (cases_eq j last);
      }

  -- a place before it is given up, and gets the last entry
  pub dense_moved : (i last : ℕ) → last + 1 ≡ count → i < last → (e : Entry K) → Dense (set (set (set vs i None) last None) i (Some e)) last
  dense_moved i last z lt e = let le = dense.size in
      let n1 : length (set vs i None) ≡ length vs = length-set vs i None in
      let n2 : length (set (set vs i None) last None) ≡ length vs = length-set (set vs i None) last None ∙ n1 in
      let l1 : last < length (set vs i None) = omega arith in let l2 : i < length (set (set vs i None) last None) = omega arith in
      let ws : List (Option (Entry K)) = set (set (set vs i None) last None) i (Some e) in
      let at : (j : ℕ) → (j ≡ i → ⊥) → (j ≡ last → ⊥) → is_some (get_or ws j None) ≡ is_some (get_or vs j None) =
      λ j a b. ap is_some (get_or-set_other (set (set vs i None) last None) i j (Some e) None a ∙ get_or-set_other (set vs i None) last j None None b ∙ get_or-set_other vs i j None None a) in
      let hl : get_or ws last None ≡ None = get_or-set_other (set (set vs i None) last None) i last (Some e) None (λ u. omega arith) ∙ set_here (set vs i None) last None l1 in
      record {
        size = rw (length-set (set (set vs i None) last None) i (Some e)) (let k : last ≤ length (set (set vs i None) last None) = omega arith in k);
        taken = λ j h. ⊎_elim (λ u. ap (λ k. is_some (get_or ws k None)) u ∙ ap is_some (set_here (set (set vs i None) last None) i (Some e) l2)) (λ ne. at j ne (λ u. omega arith) ∙ dense.taken j (omega arith)) (cases_eq j i);
        free = λ j h. ⊎_elim (λ u. ap (λ k. is_some (get_or ws k None)) u ∙ ap is_some hl) (λ ne. at j (λ u. omega arith) ne ∙ dense.free j (omega arith)) (cases_eq j last);
      }
