-- Lists that are kept in an array of fixed length.
--
--   padded w xs     xs, then zeros up to the length w
--   Counted w n xs  the first n of the w elements xs count, and the others are zeros
use Rattle.std.specs.Prelude.{◌≡◌, ℕ, ◌-◌, ◌≤◌, List, ◌++◌, length, take, replicate}

abbrev pub padded : ℕ → List ℕ → List ℕ
padded w xs = xs ++ replicate (w - length xs) 0

pub record Counted (w n : ℕ) (xs : List ℕ) : Type 0 where
  pub few : n ≤ w
  pub count : n ≡ length (take n xs)
  pub rest : xs ≡ padded w (take n xs)
