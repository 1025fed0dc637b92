-- What holds of the sizes of a store with copies laid over it, which the law of stores cites.
--
--   length_over, sized_over  of the records with the copies: as many as without, and of 128 bytes
--   whole_laid               of the store
use Rattle.std.specs.Prelude.{◌≡◌, ℕ, suc, ◌<◌, List, [], ◌∷◌, length, Some, None, Option, slice_index_or, refl}
use Rattle.std.proofs.Common.{ap, ◌∙◌, ⊎_elim, arith}
use Rattle.std.proofs.lemmas.List.{length-set, get_or-set_same, get_or-set_other}
use Rattle.std.proofs.lemmas.Bool.{cases_eq}
use Rattle.stores.specs.Meaning.{Meaning, Whole}
use Rattle.cache_store.specs.declared.copied.Copied.{Copied}
use Rattle.cache_store.specs.Copies.{put, over, laid, Sized}

length_put : (o : Option ℕ) (q : List ℕ) (bs : List (List ℕ)) → length (put o q bs) ≡ length bs
length_put None q bs = refl
length_put (Some n) q bs = length-set bs n q

pub length_over : (xs : List Copied) (bs : List (List ℕ)) → length (over xs bs) ≡ length bs
length_over [] bs = refl
length_over (x ∷ xs) bs = length_put x.id x.bytes (over xs bs) ∙ length_over xs bs

sized_put : (o : Option ℕ) (q : List ℕ) (bs : List (List ℕ)) → length q ≡ 128 → ((k : ℕ) → k < length bs → length (slice_index_or bs k []) ≡ 128)
    → (k : ℕ) → k < length (put o q bs) → length (slice_index_or (put o q bs) k []) ≡ 128
sized_put None q bs hq hb k h = hb k h
sized_put (Some n) q bs hq hb k h =
    let l = length-set bs n q in
    ⊎_elim
    (λ (e : k ≡ n). rw e (ap length (get_or-set_same bs n q [] (omega (arith, l))) ∙ hq))
    (λ (ne : k ≡ n → ⊥). ap length (get_or-set_other bs n k q [] ne) ∙ hb k (omega (arith, l)))
    (cases_eq k n)

pub sized_over : (xs : List Copied) (bs : List (List ℕ)) → Sized xs → ((k : ℕ) → k < length bs → length (slice_index_or bs k []) ≡ 128)
    → (k : ℕ) → k < length (over xs bs) → length (slice_index_or (over xs bs) k []) ≡ 128
sized_over [] bs hx hb k h = hb k h
sized_over (x ∷ xs) bs hx hb k h =
    sized_put x.id x.bytes (over xs bs) (hx.sized 0 (omega arith)) (sized_over xs bs (record { sized = λ j hj. hx.sized (suc j) (omega arith) }) hb) k h

pub whole_laid : (xs : List Copied) (m : Meaning) → Sized xs → Whole m → Whole (laid xs m)
whole_laid xs m s w = record {
  sized = sized_over xs m.records s w.sized;
  some = w.some;
  whole = rw (length_over xs m.records) w.whole;
  few = omega (arith, length_over xs m.records, w.few);
}
