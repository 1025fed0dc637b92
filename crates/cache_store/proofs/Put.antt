-- Records with one copy laid over them.
use Rattle.std.proofs.Common.{◌≡◌, ℕ, ◌-◌, ◌<◌, ◌≤◌, true, false, List, [], ◌++◌, length, get_or, set, Some, None, Option, sym, refl, ap, ◌∙◌, ⊎_elim, arith, eqb-true, eq-eqb, lt-ltb, le-ltb}
use Rattle.std.proofs.lemmas.List.{get_or-set_other, set-set, set_comm, set-append_left, set-append_right, set_past}
use Rattle.std.proofs.lemmas.Bool.{cases_eq, cases_lt, both_ways}
use Rattle.cache_store.specs.Copies.{number_is, below, put}

other : (n k : ℕ) → number_is n (Some k) ≡ false → k ≡ n → ⊥
other n k h e = both_ways (number_is n (Some k)) h (eq-eqb k n e)

-- what is written to another record shows
pub put_miss : (o : Option ℕ) (q : List ℕ) (bs : List (List ℕ)) (n : ℕ) (y : List ℕ) → number_is n o ≡ false → put o q (set bs n y) ≡ set (put o q bs) n y
put_miss None q bs n y h = refl
put_miss (Some m) q bs n y h = set_comm bs n m y q (λ (e : n ≡ m). other n m h (sym e))

pub get_or-put_miss : (o : Option ℕ) (q : List ℕ) (bs : List (List ℕ)) (n : ℕ) → number_is n o ≡ false → get_or (put o q bs) n [] ≡ get_or bs n []
get_or-put_miss None q bs n h = refl
get_or-put_miss (Some m) q bs n h = get_or-set_other bs m n q [] (λ (e : n ≡ m). other n m h (sym e))

-- a copy of a record stands where the record stood
pub put_hit : (o : Option ℕ) (q : List ℕ) (bs : List (List ℕ)) (n : ℕ) → number_is n o ≡ true → put o q bs ≡ set bs n q
put_hit None q bs n h = absurd (both_ways false refl h)
put_hit (Some m) q bs n h = ap (λ (k : ℕ). set bs k q) (eqb-true m n h)

-- what is written again does not show from below
pub put_masked : (o : Option ℕ) (q : List ℕ) (us bs : List (List ℕ)) (n : ℕ) (r : List ℕ) → set us n r ≡ set bs n r → set (put o q us) n r ≡ set (put o q bs) n r
put_masked None q us bs n r h = h
put_masked (Some m) q us bs n r h = ⊎_elim
    (λ (e : m ≡ n). rw e (set-set us n q r ∙ h ∙ sym (set-set bs n q r)))
    (λ (ne : m ≡ n → ⊥). set_comm us m n q r ne ∙ ap (λ (xs : List (List ℕ)). set xs m q) h ∙ sym (set_comm bs m n q r ne))
    (cases_eq m n)

-- a copy that is not of the records that follow is laid over the others
pub put_before : (n : ℕ) (o : Option ℕ) (q : List ℕ) (bs fs : List (List ℕ)) → n ≡ length bs → put (below n o) q (bs ++ fs) ≡ put (below n o) q bs ++ fs
put_before n None q bs fs e = refl
put_before n (Some m) q bs fs e = ⊎_elim
    (λ (lt : m < n). rw (lt-ltb m n lt) (set-append_left bs fs m q (omega arith)))
    (λ (ge : n ≤ m). rw (le-ltb m n ge) refl)
    (cases_lt m n)

-- and does not change that there are others
pub put_behind : (o : Option ℕ) (q : List ℕ) (bs fs : List (List ℕ)) → (gs : List (List ℕ)) × (put o q (bs ++ fs) ≡ put o q bs ++ gs)
put_behind None q bs fs = (fs, refl)
put_behind (Some m) q bs fs = ⊎_elim
    (λ (lt : m < length bs). (fs, set-append_left bs fs m q lt))
    (λ (ge : length bs ≤ m). (
      set fs (m - length bs) q,
      set-append_right bs fs (length bs) m q refl ge ∙ ap (λ (xs : List (List ℕ)). xs ++ set fs (m - length bs) q) (sym (set_past bs m q ge)),
    ))
    (cases_lt m (length bs))

-- a copy of a record that is not there does not show
pub put_forgotten : (n : ℕ) (o : Option ℕ) (q : List ℕ) (bs : List (List ℕ)) → n ≡ length bs → put (below n o) q bs ≡ put o q bs
put_forgotten n None q bs e = refl
put_forgotten n (Some m) q bs e = ⊎_elim
    (λ (lt : m < n). rw (lt-ltb m n lt) refl)
    (λ (ge : n ≤ m). rw (le-ltb m n ge) (sym (set_past bs m q (omega arith))))
    (cases_lt m n)
