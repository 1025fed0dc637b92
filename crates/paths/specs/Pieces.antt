-- Paths: what a list of units with `/` between names means.
--
--   Piece            a part of a path: the place of its first unit, and its units
--   cut at us        the pieces between separators, the first of them at place `at`
--   nothing us       an empty piece or `.`: it is dropped
--   parent us        `..`: it takes away the name before it
--   kind_of us       which of the two a piece is, or a name
--   Walk             what a list of pieces does from a storage on: so many names taken away, then these names
--   walk ps          that of the pieces ps
--   deepest d ps     the most names held at any moment, from d names on
--   held_after ps n  how many names are held after the first n pieces
--   Most ps m        m is the most names held at any moment
--   path_refusal us  why a path is refused: bad UTF-16 anywhere, else above the root anywhere, else over 64 names
--   resolved us      the names that a path leaves
--   path_number e    the number of a refusal
--   AllWellFormed    each of the pieces is UTF-16
use Rattle.std.specs.Prelude.{◌≡◌, ℕ, zero, suc, ◌+◌, ◌-◌, ◌≤◌, max, Bool, true, false, cond, ◌&&◌, List, [], ◌∷◌, length, take, Some, None, Option, ◌==◌, nat_lt}
use Rattle.std.specs.List.{AllByRecursion}
use Rattle.paths.specs.declared.PathError.{PathError}
use Rattle.paths.specs.declared.PathError.TheVariants.{BadUtf16, AboveRoot, TooManyNames}
use Rattle.paths.specs.declared.Component.{Component}
use Rattle.paths.specs.declared.Component.TheVariants.{CurDir, ParentDir, Normal}
use Rattle.names.specs.Units.{well_formed}

pub record Piece : Type 0 where
  pub place : ℕ
  pub units : List ℕ

-- the first piece with one more unit before it
abbrev pub longer : ℕ → ℕ → List Piece → List Piece
longer at u [] = []
longer at u (p ∷ ps) = record { place = at; units = u ∷ p.units } ∷ ps

abbrev pub cut : ℕ → List ℕ → List Piece
cut at [] = record { place = at; units = [] } ∷ []
cut at (u ∷ us) = cond (u == 47) (record { place = at; units = [] } ∷ cut (at + 1) us) (longer at u (cut (at + 1) us))

abbrev pub nothing : List ℕ → Bool
nothing [] = true
nothing (u ∷ []) = u == 46
nothing (u ∷ v ∷ us) = false

abbrev pub parent : List ℕ → Bool
parent [] = false
parent (u ∷ []) = false
parent (u ∷ v ∷ []) = u == 46 && v == 46
parent (u ∷ v ∷ w ∷ us) = false

abbrev pub kind_of : List ℕ → Component
kind_of us = cond (nothing us) CurDir (cond (parent us) ParentDir Normal)

pub record Walk : Type 0 where
  pub ups : ℕ
  pub names : List Piece

-- `..` before a walk, and a name before a walk: the first name taken away is this one
abbrev pub climb : Walk → Walk
climb w = record { ups = w.ups + 1; names = w.names }

abbrev pub enter_at : ℕ → Piece → List Piece → Walk
enter_at zero p ns = record { ups = 0; names = p ∷ ns }
enter_at (suc k) p ns = record { ups = k; names = ns }

abbrev pub enter : Piece → Walk → Walk
enter p w = enter_at w.ups p w.names

abbrev pub walk : List Piece → Walk
walk [] = record { ups = 0; names = [] }
walk (p ∷ ps) = cond (nothing p.units) (walk ps) (cond (parent p.units) (climb (walk ps)) (enter p (walk ps)))

abbrev pub deepest : ℕ → List Piece → ℕ
deepest d [] = d
deepest d (p ∷ ps) = max d (cond (nothing p.units) (deepest d ps) (cond (parent p.units) (deepest (d - 1) ps) (deepest (d + 1) ps)))

abbrev pub held_after : List Piece → ℕ → ℕ
held_after ps n = length (walk (take n ps)).names

pub record Most (ps : List Piece) (m : ℕ) : Type 0 where
  pub never_more : (n : ℕ) → held_after ps n ≤ m
  pub reached : (n : ℕ) × (held_after ps n ≡ m)

abbrev pub resolved : List ℕ → List Piece
resolved us = (walk (cut 0 us)).names

-- a walk from the root may take no name away
abbrev pub step_refusal : List Piece → Option PathError
step_refusal ps = cond (nat_lt 0 (walk ps).ups) (Some AboveRoot) (cond (nat_lt 64 (deepest 0 ps)) (Some TooManyNames) None)

abbrev pub path_refusal : List ℕ → Option PathError
path_refusal us = cond (well_formed us) (step_refusal (cut 0 us)) (Some BadUtf16)

abbrev pub path_number : PathError → ℕ
path_number BadUtf16 = 4
path_number AboveRoot = 5
path_number TooManyNames = 6

abbrev pub AllWellFormed : List Piece → Type 0
AllWellFormed ps = AllByRecursion (λ p. well_formed p.units ≡ true) ps
