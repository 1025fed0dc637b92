-- What the store below answers, as the store with copies laid over it answers it.
use Rattle.std.proofs.Common.{◌≡◌, ℕ, ◌-◌, ◌/◌, ◌<◌, ◌≤◌, Bool, cond, ltb, List, [], length, map, get_or, set, replicate, Some, None, Option, Ok, Err, Result, sym, ap, ◌∙◌, ⊎_elim, subst, arith, le-ltb, lt-ltb}
use lib.Seq.{paste}
use Rattle.std.proofs.lemmas.List.{length-set, get_or-set_same, get_or-set_other, set-get_or}
use Rattle.std.proofs.lemmas.Bool.{cases_eq, cases_lt}
use Rattle.stores.specs.declared.fault.Fault.{Fault}
use Rattle.stores.specs.declared.fault.Layer.{Layer}
use Rattle.stores.specs.Meaning.{Meaning, Whole, with_record, with_bytes, with_growth, with_count, freed}
use Rattle.stores.specs.Answers.{NotGiven, Inside, NotWritten, Grows, Posts}
use Rattle.cache_store.specs.declared.copied.Copied.{Copied}
use Rattle.cache_store.specs.Copies.{Sized, blank, over, laid, forgotten, added, patched}
use Rattle.cache_store.specs.Wholes.{length_over, sized_over}
use Rattle.cache_store.proofs.LaidOver.{Lacks, First, over_push, over_miss, get_or_miss, over_free, get_or_hit, over_hit, over_grown, over_behind, over_forgotten}

-- the records of a store changed, and all else as it was
abbrev with_records : Meaning → List (List ℕ) → Meaning
with_records m rs = record { version = m.version; records = rs; growth = m.growth; left = m.left; posted = m.posted }

pub length-laid : (xs : List Copied) (m : Meaning) → length (laid xs m).records ≡ length m.records
length-laid xs m = length_over xs m.records

-- bytes written below and to the copy, where there is one
pub laid-patched : (xs : List Copied) (m : Meaning) (n i o : ℕ) (bs : List ℕ) → First xs n i → n < length m.records → laid (patched xs i o bs) (with_bytes m n o bs) ≡ with_bytes (laid xs m) n o bs
laid-patched xs m n i o bs f h =
    let g = get_or_hit xs m.records n i f h in
    ap (with_records m)
    (over_hit xs m.records n i (paste (get_or m.records n []) o bs (length bs)) (paste (get_or xs i blank).bytes o bs (length bs)) f
    ∙ ap (λ (x : List ℕ). set (over xs m.records) n (paste x o bs (length bs))) (sym g))

pub laid_through : (xs : List Copied) (m : Meaning) (n o : ℕ) (bs : List ℕ) → Lacks xs n → laid xs (with_bytes m n o bs) ≡ with_bytes (laid xs m) n o bs
laid_through xs m n o bs lacks =
    ap (with_records m)
    (over_miss xs m.records n (paste (get_or m.records n []) o bs (length bs)) lacks
    ∙ ap (λ (x : List ℕ). set (over xs m.records) n (paste x o bs (length bs))) (sym (get_or_miss xs m.records n lacks)))

sized_set : (bs : List (List ℕ)) (n : ℕ) (y : List ℕ) → ((k : ℕ) → k < length bs → length (get_or bs k []) ≡ 128) → length y ≡ 128
    → (k : ℕ) → k < length (set bs n y) → length (get_or (set bs n y) k []) ≡ 128
sized_set bs n y hb l k h =
    let ls = length-set bs n y in
    ⊎_elim
    (λ (e : k ≡ n). rw e (ap length (get_or-set_same bs n y [] (omega (arith, ls))) ∙ l))
    (λ (ne : k ≡ n → ⊥). ap length (get_or-set_other bs n k y [] ne) ∙ hb k (omega (arith, ls)))
    (cases_eq k n)

-- a record that may be anything below
laid_free : (xs : List Copied) (m : Meaning) (n : ℕ) (y : List ℕ) → Sized xs → Whole m → length y ≡ 128 → n < length m.records
    → (r : List ℕ) × (length r ≡ 128) × (laid xs (with_record m n y) ≡ with_record (laid xs m) n r)
laid_free xs m n y s w l h =
    let r : List ℕ = get_or (over xs (set m.records n y)) n [] in
    let lr : length r ≡ 128 = sized_over xs (set m.records n y) s (sized_set m.records n y w.sized l) n
    (omega (arith, h, length_over xs (set m.records n y), length-set m.records n y)) in
    (r, lr, ap (with_records m) (over_free xs m.records n y))

-- a count passes through
pub posts_through : {T : Type 0} (p : Fault → Type 0) (xs : List Copied) (m m' : Meaning) (r : Result T Fault) → Posts p m r m' → Posts p (laid xs m) r (laid xs m')
posts_through p xs m m' (Ok x) h = ap (laid xs) h ∙ ap (λ k. with_count (laid xs m) (k / m.growth)) (sym (length-laid xs m))
posts_through p xs m m' (Err f) h = record { at = h.at; present = h.present; free = (h.free.0, ap (laid xs) h.free.1) }

-- a fault of reading
pub not_given_through : (l k : Layer) (p : Fault → Type 0) (xs : List Copied) (m : Meaning) (n : ℕ) (f : Fault) → n < length m.records → NotGiven l p m n f → NotGiven k p (laid xs m) n f
not_given_through l k p xs m n f there h = record {
  at = h.at;
  present = λ _. h.present there;
  absent = λ out. absurd (omega (arith, out, length-laid xs m));
}

-- a fault of writing
pub not_written_through : (l k : Layer) (p : Fault → Type 0) (xs : List Copied) (m m' : Meaning) (n o b : ℕ) (f : Fault) → Sized xs → Whole m → Inside m n o b → NotWritten l p m n o b f m'
    → NotWritten k p (laid xs m) n o b f (laid xs m')
not_written_through l k p xs m m' n o b f s w inside h =
    let x = h.free inside in
    let y = laid_free xs m n x.0 s w x.1 inside.0 in
    record {
      at = h.at;
      present = λ _. h.present inside;
      free = λ _. (y.0, y.1, ap (laid xs) x.2 ∙ y.2);
      absent = λ out. absurd (out (omega (arith, inside.0, length-laid xs m), inside.1));
    }

-- what was forgotten does not show
forgotten_same : (n : ℕ) (xs : List Copied) (m : Meaning) → n ≡ length m.records → laid (map (forgotten n) xs) m ≡ laid xs m
forgotten_same n xs m e = ap (with_records m) (over_forgotten n xs m.records e)

grown_through : {T : Type 0} (p : Fault → Type 0) (n : ℕ) (xs : List Copied) (m m' : Meaning) (r : Result (Option T) Fault) → n ≡ length m.records
    → Grows p m r m' → Grows p (laid (map (forgotten n) xs) m) r (laid (map (forgotten n) xs) m')
grown_through p n xs m m' (Ok None) e h = (h.0, ap (laid (map (forgotten n) xs)) h.1)
grown_through p n xs m m' (Ok (Some slip)) e h = (
  h.0,
  ap (laid (map (forgotten n) xs)) h.1
      ∙ ap (with_records (with_growth m (replicate m.growth freed) (m.left - 1))) (over_grown n xs m.records (replicate m.growth freed) e),
)
grown_through p n xs m m' (Err f) e h =
    let b = over_behind (map (forgotten n) xs) m.records h.free.0 in
    record { at = h.at; present = h.present; some = h.some; free = (b.0, h.free.1, ap (laid (map (forgotten n) xs)) h.free.2 ∙ ap (with_records (with_growth m h.free.0 h.free.1)) b.1) }

-- growing, once what is not there was forgotten
pub grows_through : {T : Type 0} (p : Fault → Type 0) (n : ℕ) (xs : List Copied) (m m' : Meaning) (r : Result (Option T) Fault) → n ≡ length m.records
    → Grows p m r m' → Grows p (laid xs m) r (laid (map (forgotten n) xs) m')
grows_through p n xs m m' r e h =
    subst (λ (x : Meaning). Grows p x r (laid (map (forgotten n) xs) m')) (forgotten_same n xs m e) (grown_through p n xs m m' r e h)

-- a copy of what is read below changes nothing
pub kept_same : (xs ys : List Copied) (m : Meaning) (n : ℕ) (r : List ℕ) → r ≡ get_or m.records n [] → ys ≡ cond (ltb (length xs) 16) (added xs n r) xs → laid ys m ≡ laid xs m
kept_same xs ys m n r e k =
    ⊎_elim
    (λ (lt : length xs < 16).
    let a : ys ≡ added xs n r = k ∙ ap (λ (b : Bool). cond b (added xs n r) xs) (lt-ltb (length xs) 16 lt) in
    ap (λ (zs : List Copied). laid zs m) a
    ∙ ap (with_records m) (over_push xs m.records n r ∙ ap (over xs) (ap (set m.records n) e ∙ set-get_or m.records n [])))
    (λ (ge : 16 ≤ length xs).
    ap (λ (zs : List Copied). laid zs m) (k ∙ ap (λ (b : Bool). cond b (added xs n r) xs) (le-ltb (length xs) 16 ge)))
    (cases_lt (length xs) 16)
