-- A table's rules and its map after one of its calls.
use Rattle.std.proofs.Common.{◌≡◌, ℕ, ◌+◌, ◌-◌, ◌<◌, ◌≤◌, Bool, List, length, get_or, set, is_some, Some, None, Option, sym, ap, ◌∙◌, subst, ⊎_elim, arith}
use Rattle.std.proofs.lemmas.Option.{none-some}
use Rattle.std.specs.Cmp.{IsEquivalence}
use Rattle.std.proofs.lemmas.List.{get_or-map, get_or_past, set-get_or, set-set}
use Rattle.std.proofs.lemmas.Bool.{cases_lt, cases_eq}
use Rattle.cells.specs.declared.cell.Entry.{Entry}
use Rattle.cells.specs.declared.cell.Cell.{Cell}
use Rattle.cells.specs.Chains.{emptied, held, valued, revalued, without, Sits, Kept, Holds, Lacks}
use Rattle.cells.specs.Rules.{Rules}
use Rattle.cells.specs.Maps.{value_in, Puts, Drops, Blank, with_key, without_key, Empty}
use Rattle.cells.proofs.Links.{clash}
use Rattle.cells.proofs.Fields.{length-held}
use Rattle.cells.proofs.Entries.{At, set_here}
use Rattle.cells.proofs.Lookups.{find_none}
use Rattle.cells.proofs.Firsts.{taken_below}
use Rattle.cells.proofs.Edited.{Holding, put_new, found_value, put_value, drop_last, drop_moved, lacks_value, drop_none}

-- nothing to move: the hole stays
pub fill_none : {K : Type 0} (vs : List (Option (Entry K))) (hole last : ℕ) → get_or vs hole None ≡ None → None ≡ get_or vs last None → set vs last None ≡ set (set vs last None) hole (get_or vs last None)
fill_none vs hole last free gone =
    let a : set vs last None ≡ vs = subst (λ o. set vs last o ≡ vs) (sym gone) (set-get_or vs last None) in
    let b : set vs hole None ≡ vs = subst (λ o. set vs hole o ≡ vs) free (set-get_or vs hole None) in
    a ∙ sym (ap (λ ws. set ws hole (get_or vs last None)) a ∙ ap (set vs hole) (sym gone) ∙ b)

pub without_none : {K : Type 0} (vs ws us : List (Option (Entry K))) (hole last : ℕ) → hole < length vs → ws ≡ set vs hole None → us ≡ set ws last None → None ≡ get_or ws last None → us ≡ without vs hole last
without_none vs ws us hole last inside e f gone =
    let free : get_or ws hole None ≡ None = ap (λ os. get_or os hole None) e ∙ set_here vs hole None inside in
    f ∙ fill_none ws hole last free gone ∙ ap (λ os. set (set os last None) hole (get_or os last None)) e

-- cells that are all empty
module _ {K : Type 0} (cells : List (Cell K)) (all : Empty cells) where
  free : (j : ℕ) → get_or (held cells) j None ≡ None
  free j = ⊎_elim (λ h. get_or-map (λ (x : Cell K). x.entry) cells j emptied None h ∙ ap (λ (x : Cell K). x.entry) (all j emptied h)) (λ g. get_or_past (held cells) j None (rw (length-held cells) g)) (cases_lt j (length cells))

  nothing : (j : ℕ) (e : Entry K) → At (held cells) j e → ⊥
  nothing j e q = none-some e (sym (free j) ∙ q)

  pub empty_rules : (hash : K → ℕ) (same : K → K → Bool) → Rules hash same cells 0
  empty_rules hash same = record {
    kept = record {
      chained = record {
        heads = λ b h. record {
          stands = λ i e. absurd (clash (get_or-map (λ (x : Cell K). x.head) cells b emptied None h ∙ ap (λ (x : Cell K). x.head) (all b emptied h)) e);
          first = λ j _ _ s. subst (Sits hash (length cells) b) (free j) s;
        };
        nexts = λ i e q. absurd (nothing i e q);
      };
    };
    once = λ i j e f p q a. absurd (nothing i e p);
    dense = record { size = omega arith; taken = λ j h. absurd (omega arith); free = λ j _. ap is_some (free j) };
  }

  pub empty_blank : {same : K → K → Bool} → IsEquivalence same → Blank (value_in same (held cells))
  empty_blank {same} laws k = find_none same laws (held cells) k (λ j e q a. nothing j e q)

module _ {K : Type 0} {hash : K → ℕ} {same : K → K → Bool} (laws : IsEquivalence same) {cells : List (Cell K)} {count : ℕ} (rules : Rules hash same cells count) where
  known : (new : List (Cell K)) (ws : List (Option (Entry K))) (n : ℕ) (map : K → Option ℕ) → Kept hash new → held new ≡ ws → Holding same ws n map → Rules hash same new n × ((k : K) → value_in same (held new) k ≡ map k)
  known new ws n map kept is h =
      let h' : Holding same (held new) n map = subst (λ us. Holding same us n map) (sym is) h in
      (record { kept = kept; once = h'.once; dense = h'.dense }, h'.looks)

  -- a key that is there, in cell i
  module _ (key : K) (i : ℕ) (holds : Holds same cells key i) where
    pub value_there : (v : Option ℕ) → v ≡ valued (get_or (held cells) i None) → v ≡ value_in same (held cells) key
    value_there v q = q ∙ ap valued holds.here ∙ found_value same laws (held cells) count rules.once rules.dense key i holds.entry holds.here holds.alike

    pub below_count : i < count
    below_count = taken_below (held cells) count rules.dense i holds.entry holds.here

    value_is : Some holds.entry.value ≡ value_in same (held cells) key
    value_is = found_value same laws (held cells) count rules.once rules.dense key i holds.entry holds.here holds.alike

    pub insert_there : (new : List (Cell K)) (value : ℕ) → Kept hash new → held new ≡ set (held cells) i (revalued (get_or (held cells) i None) value) →
        Rules hash same new count × Puts same (value_in same (held cells)) (value_in same (held new)) key value × (count ≡ with_key (value_in same (held cells) key) count)
    insert_there new value kept is =
        let d = known new _ count _ kept is (put_value same laws (held cells) count rules.once rules.dense key i holds.entry holds.here holds.alike value) in
        (d.0, d.1, ap (λ o. with_key o count) value_is)

    fewer : count - 1 ≡ without_key (value_in same (held cells) key) count
    fewer = ap (λ o. without_key o count) value_is

    -- what is given up last has nothing to move; else the last entry moves
    pub remove_there : (new : List (Cell K)) → Kept hash new → held new ≡ without (held cells) i (count - 1) →
        Rules hash same new (count - 1) × Drops same (value_in same (held cells)) (value_in same (held new)) key × (count - 1 ≡ without_key (value_in same (held cells) key) count)
    remove_there new kept is =
        let vs : List (Option (Entry K)) = held cells in
        let here : get_or (set vs i None) i None ≡ None = set_here vs i None (rw (length-held cells) holds.inside) in
        let d = ⊎_elim
        (λ q. known new _ (count - 1) _ kept
        (subst (λ j. held new ≡ set (set (set vs i None) j None) i (get_or (set vs i None) j None)) (sym q) is
        ∙ ap (λ us. set us i (get_or (set vs i None) i None)) (set-set vs i None None) ∙ ap (set (set vs i None) i) here ∙ set-set vs i None None)
        (drop_last same laws vs count rules.once rules.dense key i holds.entry holds.here holds.alike q))
        (λ ne. known new _ (count - 1) _ kept is (drop_moved same laws vs count rules.once rules.dense key i holds.entry holds.here holds.alike ne))
        (cases_eq i (count - 1)) in
        (d.0, d.1, fewer)

  -- a key that is not there
  module _ (key : K) (lacks : Lacks same cells key) where
    pub no_value : None ≡ value_in same (held cells) key
    no_value = lacks_value same laws (held cells) count rules.once rules.dense key lacks.none

    pub insert_new : (new : List (Cell K)) (value : ℕ) → count < length cells → Kept hash new → held new ≡ set (held cells) count (Some (record { key = key; value = value })) →
        Rules hash same new (count + 1) × Puts same (value_in same (held cells)) (value_in same (held new)) key value × (count + 1 ≡ with_key (value_in same (held cells) key) count)
    insert_new new value lt kept is =
        let d = known new _ (count + 1) _ kept is (put_new same laws (held cells) count rules.once rules.dense (record { key = key; value = value }) (rw (length-held cells) lt) lacks.none) in
        (d.0, d.1, ap (λ o. with_key o count) no_value)

    pub remove_none : Drops same (value_in same (held cells)) (value_in same (held cells)) key × (count ≡ without_key (value_in same (held cells) key) count)
    remove_none = (drop_none same laws (held cells) count rules.once rules.dense key lacks.none, ap (λ o. without_key o count) no_value)

  pub size_held : count ≤ length cells
  size_held = let s = rules.dense.size in let n = length-held cells in omega arith
