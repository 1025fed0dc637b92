-- The worked examples, computed.
use Rattle.std.proofs.Common.{[], ◌∷◌, refl, ap₂, arith}
use Rattle.std.specs.Ordering.{nat_cmp}
use Rattle.std.specs.Cmp.Lexicographic.{slice_cmp}
use Rattle.names.specs.Examples.{Examples}

pub examples : Examples
examples = record {
  short_first = λ fold. refl;
  by_code_points = refl;
  case_apart = λ fold keeps. ap₂ (λ x y. slice_cmp nat_cmp (x ∷ []) (y ∷ [])) (keeps 97 (omega arith)) (keeps 65 (omega arith));
}
