-- The map that a list of entries is, and how one write changes it.
use Rattle.std.proofs.Common.{◌≡◌, ℕ, zero, suc, ◌<◌, Bool, true, false, cond, ◌⊎◌, List, [], ◌∷◌, length, get_or, set, Some, None, Option, sym, refl, ap, ◌∙◌, inl, inr, ⊎_elim, arith}
use Rattle.std.proofs.lemmas.Option.{none-some}
use Rattle.std.specs.Cmp.{IsEquivalence, partial_equiv_from_equiv}
use Rattle.std.proofs.lemmas.Bool.{both_ways, cases_Bool}
use Rattle.cells.specs.declared.cell.Entry.{Entry}
use Rattle.cells.specs.Rules.{Once}
use Rattle.cells.specs.Maps.{value_in}
use Rattle.cells.proofs.Entries.{At, set_here, at_set, set_at}

turned : {K : Type 0} {same : K → K → Bool} → IsEquivalence same → (x y : K) → same x y ≡ true → same y x ≡ true
turned laws x y h = laws.symm y x ∙ h

joined : {K : Type 0} {same : K → K → Bool} → IsEquivalence same → (x y z : K) → same x y ≡ true → same y z ≡ true → same x z ≡ true
joined laws = (partial_equiv_from_equiv laws).trans

module _ {K : Type 0} (same : K → K → Bool) (laws : IsEquivalence same) where
  pub find_none : (vs : List (Option (Entry K))) (k : K) → ((j : ℕ) (e : Entry K) → At vs j e → same e.key k ≡ true → ⊥) → value_in same vs k ≡ None
  find_none [] k f = refl
  find_none (None ∷ vs) k f = find_none vs k (λ j e q a. f (suc j) e q a)
  find_none (Some x ∷ vs) k f = ⊎_elim (λ t. absurd (f 0 x refl t)) (λ z. rw z (find_none vs k (λ j e q a. f (suc j) e q a))) (cases_Bool (same x.key k))

  tail : (o : Option (Entry K)) (vs : List (Option (Entry K))) → Once same (o ∷ vs) → Once same vs
  tail o vs once i j e f p q a = let h : suc i ≡ suc j = once (suc i) (suc j) e f p q a in omega arith

  pub find_some : (vs : List (Option (Entry K))) (k : K) (i : ℕ) (e : Entry K) → Once same vs → At vs i e → same e.key k ≡ true → value_in same vs k ≡ Some e.value
  find_some [] k i e once q a = absurd (none-some e q)
  find_some (None ∷ vs) k zero e once q a = absurd (none-some e q)
  find_some (None ∷ vs) k (suc i) e once q a = find_some vs k i e (tail None vs once) q a
  find_some (Some x ∷ vs) k zero e once q a = let u : x ≡ e = cc in let t : same x.key k ≡ true = rw u a in rw t (ap (λ (z : Entry K). Some z.value) u)
  find_some (Some x ∷ vs) k (suc i) e once q a =
      ⊎_elim (λ t. absurd (let h : 0 ≡ suc i = once 0 (suc i) x e refl q (joined laws x.key k e.key t (turned laws e.key k a)) in omega arith))
      (λ z. rw z (find_some vs k i e (tail (Some x) vs once) q a)) (cases_Bool (same x.key k))

  Found : List (Option (Entry K)) → K → Type 0
  Found vs k = (i : ℕ) × (e : Entry K) × At vs i e × (same e.key k ≡ true)

  searched : (vs : List (Option (Entry K))) (k : K) → Found vs k ⊎ ((j : ℕ) (e : Entry K) → At vs j e → same e.key k ≡ true → ⊥)
  unfolding Found
  searched [] k = inr (λ j e q a. none-some e q)
  searched (None ∷ vs) k = ⊎_elim (λ h. inl (suc h.0, h.1, h.2, h.3)) (λ f. inr (λ j. past vs k f j)) (searched vs k) where
    past : (vs : List (Option (Entry K))) (k : K) → ((j : ℕ) (e : Entry K) → At vs j e → same e.key k ≡ true → ⊥) → (j : ℕ) (e : Entry K) → At (None ∷ vs) j e → same e.key k ≡ true → ⊥
    past vs k f zero e q a = none-some e q
    past vs k f (suc j) e q a = f j e q a
  searched (Some x ∷ vs) k = ⊎_elim (λ t. inl (0, x, refl, t)) (λ z. ⊎_elim (λ h. inl (suc h.0, h.1, h.2, h.3)) (λ f. inr (λ j. past vs k x z f j)) (searched vs k)) (cases_Bool (same x.key k)) where
    past : (vs : List (Option (Entry K))) (k : K) (x : Entry K) → same x.key k ≡ false → ((j : ℕ) (e : Entry K) → At vs j e → same e.key k ≡ true → ⊥) → (j : ℕ) (e : Entry K) → At (Some x ∷ vs) j e → same e.key k ≡ true → ⊥
    past vs k x z f zero e q a = let u : x ≡ e = cc in both_ways (same e.key k) (rw u at z) a
    past vs k x z f (suc j) e q a = f j e q a

  module _ (vs : List (Option (Entry K))) (f : ℕ) (e : Entry K) (inside : f < length vs) (once : Once same vs) where
    -- a new key
    module _ (free : get_or vs f None ≡ None) (none : (j : ℕ) (x : Entry K) → At vs j x → same x.key e.key ≡ true → ⊥) where
      pub once_put : Once same (set vs f (Some e))
      once_put i j x y p q a =
          ⊎_elim (λ s. ⊎_elim (λ t. s.0 ∙ sym t.0) (λ t. absurd (let u : e ≡ x = let w = s.1 in cc in none j y t.1 (turned laws e.key y.key (rw u a)))) (at_set vs f (Some e) inside j y q))
          (λ s. ⊎_elim (λ t. absurd (let u : e ≡ y = let w = t.1 in cc in none i x s.1 (rw u a))) (λ t. once i j x y s.1 t.1 a) (at_set vs f (Some e) inside j y q))
          (at_set vs f (Some e) inside i x p)

      pub look_put : (k : K) → value_in same (set vs f (Some e)) k ≡ cond (same e.key k) (Some e.value) (value_in same vs k)
      unfolding Found
      look_put k =
          ⊎_elim (λ t. rw t (find_some (set vs f (Some e)) k f e once_put (set_here vs f (Some e) inside) t))
          (λ z. rw z (⊎_elim
          (λ h. find_some (set vs f (Some e)) k h.0 h.1 once_put (set_at vs f (Some e) inside h.0 h.1 (λ q. none-some h.1 (sym free ∙ ap (λ i. get_or vs i None) (sym q) ∙ h.2)) h.2) h.3
          ∙ sym (find_some vs k h.0 h.1 once h.2 h.3))
          (λ n. find_none (set vs f (Some e)) k (λ j x q a. ⊎_elim (λ s. let u : e ≡ x = let w = s.1 in cc in both_ways (same x.key k) (rw u at z) a) (λ s. n j x s.1 a) (at_set vs f (Some e) inside j x q)) ∙ sym (find_none vs k n))
          (searched vs k))) (cases_Bool (same e.key k))

    -- a key given up
    module _ (taken : At vs f e) where
      pub once_gone : Once same (set vs f None)
      once_gone i j x y p q a =
          ⊎_elim (λ s. absurd (none-some x s.1)) (λ s. ⊎_elim (λ t. absurd (none-some y t.1)) (λ t. once i j x y s.1 t.1 a) (at_set vs f None inside j y q)) (at_set vs f None inside i x p)

      pub look_gone : (k : K) → value_in same (set vs f None) k ≡ cond (same e.key k) None (value_in same vs k)
      unfolding Found
      look_gone k =
          ⊎_elim (λ t. rw t (find_none (set vs f None) k (λ j x q a. ⊎_elim (λ s. none-some x s.1) (λ s. s.0 (once j f x e s.1 taken (joined laws x.key k e.key a (turned laws e.key k t)))) (at_set vs f None inside j x q))))
          (λ z. rw z (⊎_elim
          (λ h. find_some (set vs f None) k h.0 h.1 once_gone (set_at vs f None inside h.0 h.1 (λ q. let w : Some e ≡ Some h.1 = sym taken ∙ ap (λ i. get_or vs i None) (sym q) ∙ h.2 in let u : e ≡ h.1 = cc in both_ways (same h.1.key k) (rw u at z) h.3) h.2) h.3
          ∙ sym (find_some vs k h.0 h.1 once h.2 h.3))
          (λ n. find_none (set vs f None) k (λ j x q a. ⊎_elim (λ s. none-some x s.1) (λ s. n j x s.1 a) (at_set vs f None inside j x q)) ∙ sym (find_none vs k n))
          (searched vs k))) (cases_Bool (same e.key k))

      pub gone_none : (j : ℕ) (x : Entry K) → At (set vs f None) j x → same x.key e.key ≡ true → ⊥
      gone_none j x q a = ⊎_elim (λ s. none-some x s.1) (λ s. s.0 (once j f x e s.1 taken a)) (at_set vs f None inside j x q)
