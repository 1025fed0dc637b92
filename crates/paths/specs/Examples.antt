-- Worked examples of paths, with those of names.
--
--   Examples   the table: each row is a fact about the definitions that the contracts use
--   slash_a n  a path of n names, each of them `a`
use Rattle.std.specs.Prelude.{◌≡◌, ℕ, zero, suc, List, [], ◌∷◌, Some, None}
use Rattle.names.specs.Examples.{Examples as NameExamples}
use Rattle.paths.specs.declared.PathError.TheVariants.{AboveRoot, TooManyNames}
use Rattle.paths.specs.Pieces.{resolved, path_refusal}

abbrev pub slash_a : ℕ → List ℕ
slash_a zero = []
slash_a (suc n) = 47 ∷ 97 ∷ slash_a n

pub record Examples : Type 0 where
  -- the rows on names
  pub names : NameExamples
  -- the empty path is the root
  pub root_accepted : path_refusal [] ≡ None
  pub root_empty : resolved [] ≡ []
  -- /a//./b/../c leaves a at place 1 and c at place 11
  pub resolved_accepted : path_refusal (47 ∷ 97 ∷ 47 ∷ 47 ∷ 46 ∷ 47 ∷ 98 ∷ 47 ∷ 46 ∷ 46 ∷ 47 ∷ 99 ∷ []) ≡ None
  pub resolved_names : resolved (47 ∷ 97 ∷ 47 ∷ 47 ∷ 46 ∷ 47 ∷ 98 ∷ 47 ∷ 46 ∷ 46 ∷ 47 ∷ 99 ∷ []) ≡ record { place = 1; units = 97 ∷ [] } ∷ record { place = 11; units = 99 ∷ [] } ∷ []
  -- `..` alone is above the root
  pub above_root : path_refusal (46 ∷ 46 ∷ []) ≡ Some AboveRoot
  -- 64 names are a path, 65 are not
  pub sixty_four : path_refusal (slash_a 64) ≡ None
  pub sixty_five : path_refusal (slash_a 65) ≡ Some TooManyNames
