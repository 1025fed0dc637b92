-- Copies of records, and what a store means with copies laid over it.
--
--   number_is n o        whether a copy's number is n
--   is_of n x            whether x is a copy of the record n
--   copy_of n r          the copy of the record n, which is r
--   rewritten x o bs     x with the bytes bs in it from the offset o on
--   below n o            a copy's number, or none where it is not below n
--   forgotten n x        x, as a copy of no record if that of which it is one has no number below n
--   put o r bs           the records bs with the copy r laid over them, of the record whose number is o
--   over xs bs           the records bs with the copies xs laid over them: a record is its first copy
--   laid xs m            what a store means that means m with the copies xs laid over it
--   added xs n r         one copy more: r, of the record n
--   patched xs i o bs    the bytes bs stand in the copy at place i from the offset o on
--   Remembers xs n r ys  xs became ys when the record n was read as r: one copy more, if it had none and there was room
--   Sized xs             the copies have 128 bytes
--   blank                a copy of no record, without bytes
use Rattle.std.specs.Prelude.{◌≡◌, ℕ, ◌<◌, ◌≤◌, Bool, false, List, [], ◌∷◌, ◌++◌, length, Some, None, Option, IsSome, if◌then◌else◌, nat_eq, nat_lt, slice_index_or, slice_set}
use Rattle.std.specs.List.{position}
use Rattle.std.proofs.Math.Seq.{paste}
use Rattle.stores.specs.Meaning.{Meaning}
use Rattle.cache_store.specs.declared.copied.Copied.{Copied}

abbrev pub number_is : ℕ → Option ℕ → Bool
number_is n None = false
number_is n (Some k) = nat_eq k n

abbrev pub is_of : ℕ → Copied → Bool
is_of n x = number_is n x.id

abbrev pub copy_of : ℕ → List ℕ → Copied
copy_of n r = record { id = Some n; bytes = r }

abbrev pub blank : Copied
blank = record { id = None; bytes = [] }

abbrev pub rewritten : Copied → ℕ → List ℕ → Copied
rewritten x o bs = record { id = x.id; bytes = paste x.bytes o bs (length bs) }

abbrev pub below : ℕ → Option ℕ → Option ℕ
below n None = None
below n (Some k) = (if nat_lt k n then Some k else None)

abbrev pub forgotten : ℕ → Copied → Copied
forgotten n x = record { id = below n x.id; bytes = x.bytes }

abbrev pub put : Option ℕ → List ℕ → List (List ℕ) → List (List ℕ)
put None r bs = bs
put (Some n) r bs = slice_set bs n r

abbrev pub over : List Copied → List (List ℕ) → List (List ℕ)
over [] bs = bs
over (x ∷ xs) bs = put x.id x.bytes (over xs bs)

abbrev pub laid : List Copied → Meaning → Meaning
laid xs m = record { version = m.version; records = over xs m.records; growth = m.growth; left = m.left; posted = m.posted }

abbrev pub added : List Copied → ℕ → List ℕ → List Copied
added xs n r = xs ++ copy_of n r ∷ []

abbrev pub patched : List Copied → ℕ → ℕ → List ℕ → List Copied
patched xs i o bs = slice_set xs i (rewritten (slice_index_or xs i blank) o bs)

pub record Remembers (xs : List Copied) (n : ℕ) (r : List ℕ) (ys : List Copied) : Type 0 where
  pub again : IsSome (position (is_of n) xs) → ys ≡ xs
  pub anew : position (is_of n) xs ≡ None → length xs < 16 → ys ≡ added xs n r
  pub full : position (is_of n) xs ≡ None → 16 ≤ length xs → ys ≡ xs

pub record Sized (xs : List Copied) : Type 0 where
  pub sized : (k : ℕ) → k < length xs → length (slice_index_or xs k blank).bytes ≡ 128
