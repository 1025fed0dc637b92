-- The numbers of a list are put into a map, one after another, up to the first that is there already.
use Rattle.std.proofs.Common.{◌≡◌, ℕ, ◌+◌, ◌<◌, ◌≤◌, true, false, cond, List, length, get_or, is_some, Some, Option, Ok, Err, Result, MatchResult, sym, ap, ◌∙◌, ⊎_elim, arith, eq-eqb}
use Rattle.std.specs.declared.cmp.PartialEq as Equality
use Rattle.std.proofs.lemmas.Bool.{both_ways, cases_eq, ne_eqb}
use Rattle.keys.specs.declared.key.Key as Hashing
use Rattle.keys.specs.declared.sector.SectorNumber.{SectorNumber}
use Rattle.keys.specs.Keys.{same_sector}
use Rattle.cells.specs.declared.table.Table.{Table}
use Rattle.cells.specs.Maps.{size_of, Inserted, Refused, Puts, Blank, with_key}
use Rattle.cells.specs.Repeats.{Repeats, Distinct, FirstRepeat}
use Rattle.cells.proofs.Entries.{none_of}

-- while a cell is free, an insertion is accepted
pub accepted : {K A E : Type 0} {hashing : Hashing.Ghosts K} {equality : Equality.Ghosts K} (r : Result A E) (t u : Table K hashing equality) (key : K) (value : ℕ) →
    t.count < size_of t → MatchResult r (λ _. Inserted t u key value) (λ _. Refused t u key) → Inserted t u key value
accepted (Ok a) t u key value room done = done
accepted (Err e) t u key value room refused = absurd (let full = refused.full in omega arith)

-- the first i numbers of xs are the keys of the map, count of them, and are distinct
pub record Marking (xs : List ℕ) (map : SectorNumber → Option ℕ) (count i : ℕ) : Type 0 where
  pub counted : count ≡ i
  pub holds : (k : SectorNumber) (j : ℕ) → j < i → get_or xs j 0 ≡ k.0 → is_some (map k) ≡ true
  pub only : (k : SectorNumber) → is_some (map k) ≡ true → (j : ℕ) × (j < i) × (get_or xs j 0 ≡ k.0)
  pub fresh : (j : ℕ) → j < i → Repeats xs j → ⊥

pub marking_none : (xs : List ℕ) (map : SectorNumber → Option ℕ) (count : ℕ) → Blank map → count ≡ 0 → Marking xs map count 0
marking_none xs map count blank counted = record {
  counted = counted;
  holds = λ k j h e. absurd (omega arith);
  only = λ k h. absurd (both_ways (is_some (map k)) (ap is_some (blank k)) h);
  fresh = λ j h r. absurd (omega arith);
}

module _ (xs : List ℕ) (map : SectorNumber → Option ℕ) (count i : ℕ) (m : Marking xs map count i) where
  pub marking_all : length xs ≤ i → Distinct xs
  marking_all le j r = m.fresh j (omega (arith, r.0)) r

  module _ (key : SectorNumber) (lt : i < length xs) (here : key.0 ≡ get_or xs i 0) where
    pub marking_found : true ≡ is_some (map key) → FirstRepeat xs i
    marking_found h = let w = m.only key (sym h) in ((lt, (w.0, w.1, w.2 ∙ here)), m.fresh)

    -- a number that was not there is put
    module _ (new : SectorNumber → Option ℕ) (puts : Puts same_sector map new key 0) where
      put_here : (k : SectorNumber) → key.0 ≡ k.0 → is_some (new k) ≡ true
      put_here k e = ap is_some (puts k ∙ ap (λ b. cond b (Some 0) (map k)) (eq-eqb key.0 k.0 e))

      put_other : (k : SectorNumber) → (key.0 ≡ k.0 → ⊥) → is_some (new k) ≡ is_some (map k)
      put_other k ne = ap is_some (puts k ∙ ap (λ b. cond b (Some 0) (map k)) (ne_eqb key.0 k.0 ne))

      pub marking_more : (n : ℕ) → false ≡ is_some (map key) → n ≡ with_key (map key) count → Marking xs new n (i + 1)
      marking_more n absent counts = record {
        counted = counts ∙ ap (λ o. with_key o count) (none_of (map key) (sym absent)) ∙ ap (λ z. z + 1) m.counted;
        holds = λ k j h e. ⊎_elim (λ q. put_here k q) (λ ne. put_other k ne ∙ m.holds k j (let d : j ≡ i → ⊥ = λ z. ne (here ∙ ap (λ z. get_or xs z 0) (sym z) ∙ e) in omega arith) e) (cases_eq key.0 k.0);
        only = λ k h. ⊎_elim (λ q. (i, omega arith, sym here ∙ q)) (λ ne. let w = m.only k (sym (put_other k ne) ∙ h) in (w.0, omega (arith, w.1), w.2)) (cases_eq key.0 k.0);
        fresh = λ j h r. ⊎_elim (λ q. both_ways (is_some (map key)) (sym absent) (m.holds key r.1.0 (omega (arith, r.1.1)) (r.1.2 ∙ ap (λ z. get_or xs z 0) q ∙ sym here))) (λ ne. m.fresh j (omega arith) r) (cases_eq j i);
      }
