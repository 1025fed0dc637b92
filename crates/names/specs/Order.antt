-- The order of names in a directory: shorter first, and names of one length by their folded code points.
--
--   order j k      how two keys compare: by unit count, then by folded code points, that is by the first place where they
--                  differ, a list before its longer ones
--   First xs ys    xs stands before ys in the order of lists, as a relation
--   Before j k     j stands before k in the order of keys, as a relation
--   Precedes fold  the relation on names, by their keys
--   compared fold  the answer on names, by their keys
--   Ordered fold   what the order of names keeps under a folding: it is total
use Rattle.std.specs.Prelude.{◌≡◌, ℕ, ◌<◌, ◌⊎◌, List, [], ◌∷◌}
use Rattle.std.specs.declared.cmp.Ordering.TheVariants.{Equal}
use Rattle.std.specs.declared.cmp.Ordering.{Ordering}
use Rattle.std.specs.Ordering.{MatchOrdering, nat_cmp, ordering_then, ordering_reverse}
use Rattle.std.specs.Cmp.Lexicographic.{slice_cmp}
use Rattle.names.specs.Keys.{Key, key_of}

abbrev pub order : Key → Key → Ordering
order j k = ordering_then (nat_cmp j.units k.units) (slice_cmp nat_cmp j.folded k.folded)

pub data First : List ℕ → List ℕ → Type 0 where
  shorter : {y : ℕ} {ys : List ℕ} → First [] (y ∷ ys)
  lower : {x y : ℕ} {xs ys : List ℕ} → x < y → First (x ∷ xs) (y ∷ ys)
  later : {x : ℕ} {xs ys : List ℕ} → First xs ys → First (x ∷ xs) (x ∷ ys)

abbrev pub Before : Key → Key → Type 0
Before j k = (j.units < k.units) ⊎ ((j.units ≡ k.units) × First j.folded k.folded)

-- exactly one of three
abbrev pub OneOf : Type 0 → Type 0 → Type 0 → Type 0
OneOf P Q R = (P × (Q → ⊥) × (R → ⊥)) ⊎ (((P → ⊥) × Q × (R → ⊥)) ⊎ ((P → ⊥) × (Q → ⊥) × R))

-- the order of names under a folding, as a relation on their units
abbrev pub Precedes : (ℕ → ℕ) → List ℕ → List ℕ → Type 0
Precedes fold a b = Before (key_of fold a) (key_of fold b)

abbrev pub compared : (ℕ → ℕ) → List ℕ → List ℕ → Ordering
compared fold a b = order (key_of fold a) (key_of fold b)

pub record Ordered (fold : ℕ → ℕ) : Type 0 where
  -- the answer tells the relation
  pub told : (a b : List ℕ) → MatchOrdering (compared fold a b) (Precedes fold a b) (key_of fold a ≡ key_of fold b) (Precedes fold b a)
  -- exactly one of less, equal, greater
  pub total : (a b : List ℕ) → OneOf (Precedes fold a b) (key_of fold a ≡ key_of fold b) (Precedes fold b a)
  pub transitive : (a b c : List ℕ) → Precedes fold a b → Precedes fold b c → Precedes fold a c
  -- swapped names give the answer turned round
  pub turned : (a b : List ℕ) → compared fold b a ≡ ordering_reverse (compared fold a b)
  -- equal exactly when the keys are equal
  pub same : (a b : List ℕ) → (compared fold a b ≡ Equal → key_of fold a ≡ key_of fold b) × (key_of fold a ≡ key_of fold b → compared fold a b ≡ Equal)
