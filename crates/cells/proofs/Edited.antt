-- The entries of a table as a whole, after a key is put, gets another value, or is taken out.
use Rattle.std.proofs.Common.{◌≡◌, ℕ, ◌+◌, ◌-◌, ◌<◌, Bool, true, false, cond, List, length, get_or, set, Some, None, Option, sym, refl, ap, ◌∙◌, subst, ⊎_elim, arith}
use Rattle.std.specs.Cmp.{IsEquivalence, partial_equiv_from_equiv}
use Rattle.std.proofs.lemmas.List.{length-set, get_or-set_other, set-set}
use Rattle.std.proofs.lemmas.Bool.{cases_Bool}
use Rattle.cells.specs.declared.cell.Entry.{Entry}
use Rattle.cells.specs.Chains.{revalued}
use Rattle.cells.specs.Rules.{Once, Dense}
use Rattle.cells.specs.Maps.{value_in}
use Rattle.cells.proofs.Entries.{some_of, none_of, At, set_here}
use Rattle.cells.proofs.Lookups.{find_none, find_some, once_put, look_put, once_gone, look_gone, gone_none}
use Rattle.cells.proofs.Firsts.{taken_below, dense_put, dense_replace, dense_last, dense_moved}

pick : {X : Type 0} (b : Bool) (x y z : X) → cond b x (cond b y z) ≡ cond b x z
pick true x y z = refl
pick false x y z = refl

-- the entries ws, count of them, are a table whose map is `map`
pub record Holding {K : Type 0} (same : K → K → Bool) (ws : List (Option (Entry K))) (count : ℕ) (map : K → Option ℕ) : Type 0 where
  pub once : Once same ws
  pub dense : Dense ws count
  pub looks : (k : K) → value_in same ws k ≡ map k

module _ {K : Type 0} (same : K → K → Bool) (laws : IsEquivalence same) (vs : List (Option (Entry K))) (count : ℕ) (once : Once same vs) (dense : Dense vs count) where
  pub put_new : (e : Entry K) → count < length vs → ((j : ℕ) (x : Entry K) → At vs j x → same x.key e.key ≡ true → ⊥) →
      Holding same (set vs count (Some e)) (count + 1) (λ k. cond (same e.key k) (Some e.value) (value_in same vs k))
  put_new e lt none =
      let free = none_of (get_or vs count None) (dense.free count (omega arith)) in
      record { once = once_put same laws vs count e lt once free none; dense = dense_put vs count dense e lt; looks = look_put same laws vs count e lt once free none }

  module _ (key : K) (i : ℕ) (x : Entry K) (here : At vs i x) (alike : same x.key key ≡ true) where
    below : i < count
    below = taken_below vs count dense i x here

    inside : i < length vs
    inside = let b = below in let s = dense.size in omega arith

    -- the key's entry is out
    out_once : Once same (set vs i None)
    out_once = once_gone same laws vs i x inside once here

    out_looks : (k : K) → value_in same (set vs i None) k ≡ cond (same key k) None (value_in same vs k)
    out_looks k = look_gone same laws vs i x inside once here k ∙ ap (λ b. cond b None (value_in same vs k)) (laws.congr x.key key k alike)

    pub found_value : Some x.value ≡ value_in same vs key
    found_value = sym (find_some same laws vs key i x once here alike)

    pub put_value : (value : ℕ) → Holding same (set vs i (revalued (get_or vs i None) value)) count (λ k. cond (same key k) (Some value) (value_in same vs k))
    put_value value =
        let y : Entry K = record { key = x.key; value = value } in
        let vs1 : List (Option (Entry K)) = set vs i None in
        let n1 : i < length vs1 = rw (length-set vs i None) inside in
        let free = set_here vs i None inside in
        let none = gone_none same laws vs i x inside once here in
        let done : Holding same (set vs i (Some y)) count (λ k. cond (same key k) (Some value) (value_in same vs k)) = record {
          once = subst (Once same) (set-set vs i None (Some y)) (once_put same laws vs1 i y n1 out_once free none);
          dense = dense_replace vs count dense i x y here;
          looks = λ k. ap (λ ws. value_in same ws k) (sym (set-set vs i None (Some y))) ∙ look_put same laws vs1 i y n1 out_once free none k
              ∙ ap (λ b. cond b (Some value) (value_in same vs1 k)) (laws.congr x.key key k alike) ∙ ap (cond (same key k) (Some value)) (out_looks k) ∙ pick (same key k) (Some value) None (value_in same vs k);
        } in
        subst (λ o. Holding same (set vs i (revalued o value)) count (λ k. cond (same key k) (Some value) (value_in same vs k))) (sym here) done

    pub drop_last : i ≡ count - 1 → Holding same (set vs i None) (count - 1) (λ k. cond (same key k) None (value_in same vs k))
    drop_last q = let b = below in
        record { once = out_once; dense = subst (λ j. Dense (set vs j None) (count - 1)) (sym q) (dense_last vs count dense (count - 1) (omega arith)); looks = out_looks }

    pub drop_moved : (i ≡ count - 1 → ⊥) → Holding same (set (set (set vs i None) (count - 1) None) i (get_or (set vs i None) (count - 1) None)) (count - 1) (λ k. cond (same key k) None (value_in same vs k))
    drop_moved ne =
        let b = below in let s = dense.size in
        let last : ℕ = count - 1 in
        let t = some_of (get_or vs last None) (dense.taken last (omega arith)) in let e : Entry K = t.0 in
        let vs1 : List (Option (Entry K)) = set vs i None in
        let vs2 : List (Option (Entry K)) = set vs1 last None in
        let l1 : last < length vs1 = rw (length-set vs i None) (let h : last < length vs = omega arith in h) in
        let l2 : i < length vs2 = rw (length-set vs1 last None) (rw (length-set vs i None) inside) in
        let el : At vs1 last e = get_or-set_other vs i last None None (λ u. ne (sym u)) ∙ t.1 in
        let free : get_or vs2 i None ≡ None = get_or-set_other vs1 last i None None ne ∙ set_here vs i None inside in
        let once2 = once_gone same laws vs1 last e l1 out_once el in
        let none = gone_none same laws vs1 last e l1 out_once el in
        let looks : (k : K) → value_in same (set vs2 i (Some e)) k ≡ value_in same vs1 k = λ k.
        look_put same laws vs2 i e l2 once2 free none k ∙ ap (cond (same e.key k) (Some e.value)) (look_gone same laws vs1 last e l1 out_once el k) ∙ pick (same e.key k) (Some e.value) None (value_in same vs1 k)
        ∙ ⊎_elim (λ a. rw a (sym (find_some same laws vs1 k last e out_once el a))) (λ z. rw z) (cases_Bool (same e.key k)) in
        let done : Holding same (set vs2 i (Some e)) last (λ k. cond (same key k) None (value_in same vs k)) = record {
          once = once_put same laws vs2 i e l2 once2 free none;
          dense = dense_moved vs count dense i last (omega arith) (omega arith) e;
          looks = λ k. looks k ∙ out_looks k;
        } in
        subst (λ o. Holding same (set vs2 i o) last (λ k. cond (same key k) None (value_in same vs k))) (sym el) done

  -- a key that no entry has
  module _ (key : K) (none : (j : ℕ) (e : Entry K) → At vs j e → same e.key key ≡ true → ⊥) where
    pub lacks_value : None ≡ value_in same vs key
    lacks_value = sym (find_none same laws vs key none)

    pub drop_none : (k : K) → value_in same vs k ≡ cond (same key k) None (value_in same vs k)
    drop_none k = ⊎_elim (λ t. rw t (find_none same laws vs k (λ j e q a. none j e q ((partial_equiv_from_equiv laws).trans e.key k key a (laws.symm k key ∙ t))))) (λ z. rw z) (cases_Bool (same key k))
