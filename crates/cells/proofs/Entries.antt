-- What stands in a list of entries before and after one place is written.
use Rattle.std.proofs.Common.{◌≡◌, ℕ, ◌<◌, true, false, ◌⊎◌, List, length, get_or, set, is_some, Some, None, Option, sym, refl, ap, ◌∙◌, subst, inl, inr, ⊎_elim}
use Rattle.cells.specs.declared.cell.Entry.{Entry}
use Rattle.std.proofs.lemmas.List.{set-get_or, get_or-set_same, get_or-set_other}
use Rattle.std.proofs.lemmas.Bool.{both_ways, cases_eq}

pub some_of : {X : Type 0} (o : Option X) → is_some o ≡ true → (x : X) × (o ≡ Some x)
some_of None h = absurd (both_ways true (sym h) refl)
some_of (Some x) h = (x, refl)

pub none_of : {X : Type 0} (o : Option X) → is_some o ≡ false → o ≡ None
none_of None h = refl
none_of (Some x) h = absurd (both_ways true h refl)

-- cell j holds the entry e
abbrev pub At : {K : Type 0} → List (Option (Entry K)) → ℕ → Entry K → Type 0
At vs j e = get_or vs j None ≡ Some e

module _ {K : Type 0} (vs : List (Option (Entry K))) (f : ℕ) (o : Option (Entry K)) (inside : f < length vs) where
  pub set_here : get_or (set vs f o) f None ≡ o
  set_here = get_or-set_same vs f o None inside

  pub at_set : (j : ℕ) (x : Entry K) → At (set vs f o) j x → ((j ≡ f) × (o ≡ Some x)) ⊎ ((j ≡ f → ⊥) × At vs j x)
  at_set j x q = ⊎_elim (λ e. inl (e, sym set_here ∙ ap (λ i. get_or (set vs f o) i None) (sym e) ∙ q)) (λ ne. inr (ne, sym (get_or-set_other vs f j o None ne) ∙ q)) (cases_eq j f)

  pub set_at : (j : ℕ) (x : Entry K) → (j ≡ f → ⊥) → At vs j x → At (set vs f o) j x
  set_at j x ne q = get_or-set_other vs f j o None ne ∙ q

-- a place without an entry has none either after another is given up
pub still_free : {K : Type 0} (vs : List (Option (Entry K))) (hole last : ℕ) → get_or vs hole None ≡ None → get_or (set vs last None) hole None ≡ None
still_free vs hole last free =
    ⊎_elim (λ q. let same : set vs hole None ≡ vs = subst (λ o. set vs hole o ≡ vs) free (set-get_or vs hole None) in ap (λ i. get_or (set vs i None) hole None) (sym q) ∙ ap (λ us. get_or us hole None) same ∙ free)
    (λ ne. get_or-set_other vs last hole None None ne ∙ free) (cases_eq hole last)
