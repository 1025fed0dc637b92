-- The worked examples, computed.
use Rattle.std.proofs.Common.{refl}
use Rattle.names.proofs.Worked.{examples as name_examples}
use Rattle.paths.specs.Examples.{Examples}

pub examples : Examples
examples = record {
  names = name_examples;
  root_accepted = refl;
  root_empty = refl;
  resolved_accepted = refl;
  resolved_names = refl;
  above_root = refl;
  sixty_four = refl;
  sixty_five = refl;
}
