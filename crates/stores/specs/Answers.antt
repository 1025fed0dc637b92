-- What a store's calls answer, for a store that meant m before the call and m' after it.
--
--   Given m n bs                 the record n is there, and bs is it
--   NotGiven l p m n f           the fault f of reading the record n: where the record is there it is one of p; where it is
--                                not, the layer l names it itself
--   Inside m n o k               the record n is there, and k bytes from the offset o on are in it
--   NotWritten l p m n o k f m'  the fault f of writing k bytes: where they are inside it is one of p, and the record n may
--                                be anything of its size; where not, nothing is changed, and the layer l names it itself
--   Grew m m' g                  growing without a fault: no slip exactly where no growth is left, else freed records
--   NotGrown p m m' f            the fault f of growing, one of p: the old records stand in front of whatever there is now
--   NotPosted p m m' f           the fault f of posting, one of p: the count may be anything
--   Reads l p m n bs r           the answer r of reading the record n into bs: Given or NotGiven
--   Writes l p m n o bs r m'     that of writing bs into the record n from the offset o on: Inside and written, or NotWritten
--   Grows p m r m'               that of growing: Grew or NotGrown
--   Posts p m r m'               that of posting: the count is that of the growths held, where one is kept, or NotPosted
use Rattle.std.specs.Prelude.{◌≡◌, ℕ, ◌+◌, ◌-◌, ◌<◌, ◌≤◌, List, [], length, replicate, Some, None, Option, Result, MatchResult, slice_index_or}
use Rattle.stores.specs.declared.fault.Fault.{Fault}
use Rattle.stores.specs.declared.fault.Layer.{Layer}
use Rattle.stores.specs.Faults.{missing, At}
use Rattle.stores.specs.Meaning.{Meaning, with_record, with_bytes, with_growth, with_count, growths_held, freed}

pub record Given (m : Meaning) (n : ℕ) (bs : List ℕ) : Type 0 where
  pub there : n < length m.records
  pub is : bs ≡ slice_index_or m.records n []

pub record NotGiven (l : Layer) (p : Fault → Type 0) (m : Meaning) (n : ℕ) (f : Fault) : Type 0 where
  pub at : At f n 0
  pub present : n < length m.records → p f
  pub absent : length m.records ≤ n → f ≡ missing l n 0

abbrev pub Inside : Meaning → ℕ → ℕ → ℕ → Type 0
Inside m n o k = (n < length m.records) × (o + k ≤ 128)

pub record NotWritten (l : Layer) (p : Fault → Type 0) (m : Meaning) (n o k : ℕ) (f : Fault) (m' : Meaning) : Type 0 where
  pub at : At f n o
  pub present : Inside m n o k → p f
  pub free : Inside m n o k → (r : List ℕ) × (length r ≡ 128) × (m' ≡ with_record m n r)
  pub absent : (Inside m n o k → ⊥) → (f ≡ missing l n o) × (m' ≡ m)

abbrev pub Grew : {T : Type 0} → Meaning → Meaning → Option T → Type 0
Grew m m' None = (m.left ≡ 0) × (m' ≡ m)
Grew m m' (Some slip) = (0 < m.left) × (m' ≡ with_growth m (replicate m.growth freed) (m.left - 1))

pub record NotGrown (p : Fault → Type 0) (m m' : Meaning) (f : Fault) : Type 0 where
  pub at : At f 0 0
  pub present : p f
  pub some : 0 < m.left
  pub free : (rs : List (List ℕ)) × (l : ℕ) × (m' ≡ with_growth m rs l)

pub record NotPosted (p : Fault → Type 0) (m m' : Meaning) (f : Fault) : Type 0 where
  pub at : At f 0 0
  pub present : p f
  pub free : (c : ℕ) × (m' ≡ with_count m c)

abbrev pub Reads : {T : Type 0} → Layer → (Fault → Type 0) → Meaning → ℕ → List ℕ → Result T Fault → Type 0
Reads l p m n bs r = MatchResult r (λ _. Given m n bs) (λ f. NotGiven l p m n f)

abbrev pub Writes : {T : Type 0} → Layer → (Fault → Type 0) → Meaning → ℕ → ℕ → List ℕ → Result T Fault → Meaning → Type 0
Writes l p m n o bs r m' = MatchResult r (λ _. Inside m n o (length bs) × (m' ≡ with_bytes m n o bs)) (λ f. NotWritten l p m n o (length bs) f m')

abbrev pub Grows : {T : Type 0} → (Fault → Type 0) → Meaning → Result (Option T) Fault → Meaning → Type 0
Grows p m r m' = MatchResult r (λ g. Grew m m' g) (λ f. NotGrown p m m' f)

abbrev pub Posts : {T : Type 0} → (Fault → Type 0) → Meaning → Result T Fault → Meaning → Type 0
Posts p m r m' = MatchResult r (λ _. m' ≡ with_count m (growths_held m)) (λ f. NotPosted p m m' f)
