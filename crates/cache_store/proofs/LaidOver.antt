-- Records with copies laid over them.
use Rattle.std.proofs.Common.{◌≡◌, ℕ, zero, suc, ◌<◌, ◌≤◌, Bool, true, false, cond, List, [], ◌∷◌, ◌++◌, length, map, get_or, set, Some, None, sym, refl, ap, ◌∙◌, ⊎_elim, arith, lt-ltb}
use Rattle.std.specs.List.{position, position_or_len}
use Rattle.std.proofs.lemmas.Bool.{cases_lt}
use Rattle.std.proofs.lemmas.List.Quantifiers.{position-Some}
use Rattle.std.proofs.lemmas.List.Sums.{fails_before_first}
use Rattle.std.proofs.lemmas.List.{get_or-set_same, set-set, set-get_or}
use Rattle.cache_store.specs.declared.copied.Copied.{Copied}
use Rattle.cache_store.specs.Copies.{blank, is_of, copy_of, forgotten, put, over}
use Rattle.cache_store.specs.Wholes.{length_over}
use Rattle.cache_store.proofs.Put.{put_miss, get_or-put_miss, put_hit, put_masked, put_before, put_behind, put_forgotten}

-- no copy is of the record n; the copy at place i is, and none before it
abbrev pub Lacks : List Copied → ℕ → Type 0
Lacks xs n = (k : ℕ) → k < length xs → is_of n (get_or xs k blank) ≡ false

pub record First (xs : List Copied) (n i : ℕ) : Type 0 where
  pub within : i < length xs
  pub is : is_of n (get_or xs i blank) ≡ true
  pub first : (k : ℕ) → k < i → is_of n (get_or xs k blank) ≡ false

pub lacking : (xs : List Copied) (n : ℕ) → position (is_of n) xs ≡ None → Lacks xs n
lacking xs n h k lt = ⊎_elim
    (λ (found : position_or_len (is_of n) xs < length xs).
    let some : position (is_of n) xs ≡ Some (position_or_len (is_of n) xs)
    = ap (λ (b : Bool). cond b (Some (position_or_len (is_of n) xs)) None) (lt-ltb _ _ found) in absurd cc)
    (λ (none : length xs ≤ position_or_len (is_of n) xs). fails_before_first (is_of n) xs k blank (omega arith))
    (cases_lt (position_or_len (is_of n) xs) (length xs))

pub found_first : (xs : List Copied) (n i : ℕ) → position (is_of n) xs ≡ Some i → First xs n i
found_first xs n i h = let p = position-Some (is_of n) xs i blank h in record { within = p.0; is = p.1; first = p.2 }

lacks_rest : (x : Copied) (xs : List Copied) (n : ℕ) → Lacks (x ∷ xs) n → Lacks xs n
lacks_rest x xs n lacks k h = lacks (suc k) (omega arith)

first_rest : (x : Copied) (xs : List Copied) (n i : ℕ) → First (x ∷ xs) n (suc i) → First xs n i
first_rest x xs n i f = record { within = omega (arith, f.within); is = f.is; first = λ k h. f.first (suc k) (omega arith) }

-- a copy behind the others lies under them
pub over_push : (xs : List Copied) (bs : List (List ℕ)) (n : ℕ) (r : List ℕ) → over (xs ++ (copy_of n r ∷ [])) bs ≡ over xs (set bs n r)
over_push [] bs n r = refl
over_push (x ∷ xs) bs n r = ap (put x.id x.bytes) (over_push xs bs n r)

-- what is written to a record without a copy shows
pub over_miss : (xs : List Copied) (bs : List (List ℕ)) (n : ℕ) (y : List ℕ) → Lacks xs n → over xs (set bs n y) ≡ set (over xs bs) n y
over_miss [] bs n y lacks = refl
over_miss (x ∷ xs) bs n y lacks =
    ap (put x.id x.bytes) (over_miss xs bs n y (lacks_rest x xs n lacks)) ∙ put_miss x.id x.bytes (over xs bs) n y (lacks 0 (omega arith))

pub get_or_miss : (xs : List Copied) (bs : List (List ℕ)) (n : ℕ) → Lacks xs n → get_or (over xs bs) n [] ≡ get_or bs n []
get_or_miss [] bs n lacks = refl
get_or_miss (x ∷ xs) bs n lacks = get_or-put_miss x.id x.bytes (over xs bs) n (lacks 0 (omega arith)) ∙ get_or_miss xs bs n (lacks_rest x xs n lacks)

-- what is written below a record that is written again does not show
masked : (xs : List Copied) (bs : List (List ℕ)) (n : ℕ) (y r : List ℕ) → set (over xs (set bs n y)) n r ≡ set (over xs bs) n r
masked [] bs n y r = set-set bs n y r
masked (x ∷ xs) bs n y r = put_masked x.id x.bytes (over xs (set bs n y)) (over xs bs) n r (masked xs bs n y r)

-- a record that may be anything below may be something else above, and no other record is touched
pub over_free : (xs : List Copied) (bs : List (List ℕ)) (n : ℕ) (y : List ℕ)
    → over xs (set bs n y) ≡ set (over xs bs) n (get_or (over xs (set bs n y)) n [])
over_free xs bs n y = sym (set-get_or (over xs (set bs n y)) n []) ∙ masked xs bs n y (get_or (over xs (set bs n y)) n [])

-- a record with a copy is its first copy
pub get_or_hit : (xs : List Copied) (bs : List (List ℕ)) (n i : ℕ) → First xs n i → n < length bs → get_or (over xs bs) n [] ≡ (get_or xs i blank).bytes
get_or_hit [] bs n i f h = absurd (omega (arith, f.within))
get_or_hit (x ∷ xs) bs n zero f h =
    rw (put_hit x.id x.bytes (over xs bs) n f.is) (get_or-set_same (over xs bs) n x.bytes [] (omega (arith, length_over xs bs)))
get_or_hit (x ∷ xs) bs n (suc i) f h =
    get_or-put_miss x.id x.bytes (over xs bs) n (f.first 0 (omega arith)) ∙ get_or_hit xs bs n i (first_rest x xs n i f) h

-- what is written to a record and to its first copy shows
pub over_hit : (xs : List Copied) (bs : List (List ℕ)) (n i : ℕ) (y r : List ℕ) → First xs n i
    → over (set xs i (record { id = (get_or xs i blank).id; bytes = r })) (set bs n y) ≡ set (over xs bs) n r
over_hit [] bs n i y r f = absurd (omega (arith, f.within))
over_hit (x ∷ xs) bs n zero y r f =
    put_hit x.id r (over xs (set bs n y)) n f.is ∙ masked xs bs n y r
    ∙ sym (ap (λ (rs : List (List ℕ)). set rs n r) (put_hit x.id x.bytes (over xs bs) n f.is) ∙ set-set (over xs bs) n x.bytes r)
over_hit (x ∷ xs) bs n (suc i) y r f =
    ap (put x.id x.bytes) (over_hit xs bs n i y r (first_rest x xs n i f)) ∙ put_miss x.id x.bytes (over xs bs) n r (f.first 0 (omega arith))

-- records that follow the others show, where what is not of the others was forgotten
pub over_grown : (n : ℕ) (xs : List Copied) (bs fs : List (List ℕ)) → n ≡ length bs → over (map (forgotten n) xs) (bs ++ fs) ≡ over (map (forgotten n) xs) bs ++ fs
over_grown n [] bs fs e = refl
over_grown n (x ∷ xs) bs fs e =
    ap (put (forgotten n x).id x.bytes) (over_grown n xs bs fs e)
    ∙ put_before n x.id x.bytes (over (map (forgotten n) xs) bs) fs (e ∙ sym (length_over (map (forgotten n) xs) bs))

-- whatever follows the others, they stand
pub over_behind : (xs : List Copied) (bs fs : List (List ℕ)) → (gs : List (List ℕ)) × (over xs (bs ++ fs) ≡ over xs bs ++ gs)
over_behind [] bs fs = (fs, refl)
over_behind (x ∷ xs) bs fs =
    let rest = over_behind xs bs fs in
    let here = put_behind x.id x.bytes (over xs bs) rest.0 in
    (here.0, ap (put x.id x.bytes) rest.1 ∙ here.1)

-- a copy of what is not there does not show
pub over_forgotten : (n : ℕ) (xs : List Copied) (bs : List (List ℕ)) → n ≡ length bs → over (map (forgotten n) xs) bs ≡ over xs bs
over_forgotten n [] bs e = refl
over_forgotten n (x ∷ xs) bs e =
    ap (put (forgotten n x).id x.bytes) (over_forgotten n xs bs e) ∙ put_forgotten n x.id x.bytes (over xs bs) (e ∙ sym (length_over xs bs))
