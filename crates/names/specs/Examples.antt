-- Worked examples of names and their order.
--
--   Examples  the table: each row is a fact about the definitions that the contracts use
use Rattle.std.specs.Prelude.{◌≡◌, ℕ, [], ◌∷◌}
use Rattle.std.specs.declared.cmp.Ordering.TheVariants.{Less, Equal, Greater}
use Rattle.names.specs.Foldings.{KeepsAscii, ascii_fold}
use Rattle.names.specs.Order.{compared}

pub record Examples : Type 0 where
  -- `B` before `ab`: the shorter first, under every folding
  pub short_first : (fold : ℕ → ℕ) → compared fold (66 ∷ []) (97 ∷ 98 ∷ []) ≡ Less
  -- U+10000, which takes two units, after U+E000 twice: by code points and not by units
  pub by_code_points : compared ascii_fold (0xd800 ∷ 0xdc00 ∷ []) (0xe000 ∷ 0xe000 ∷ []) ≡ Greater
  -- `a` is the same name as `A`, under every folding that keeps the law
  pub case_apart : (fold : ℕ → ℕ) → KeepsAscii fold → compared fold (97 ∷ []) (65 ∷ []) ≡ Equal
