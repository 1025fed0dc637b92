use Rattle.std.proofs.Common.{◌≡◌, ◌++◌, map, length}
use Rattle.names.specs.declared.key.NameKey.{NameKey}
use Rattle.names.specs.Units.{codes}
use Rattle.names.proofs.KeyFilling.{so_far}
use Rattle.names.proofs.key.name_key.Given as goal

-- the array holds what was yielded, and what is left comes after it
abbrev pub invariant-loop-code : goal.invariant-loop-code
invariant-loop-code g l = record {
  held : ◌≡◌ {A = NameKey} (record { unit_count = length l.name; code_count = l.count; codes = l.codes }) (so_far (length l.name) (map (g.F.Folding.folds l.folding) l.yielded));
  left : l.yielded ++ codes l.code-iterator.units.now ≡ codes l.name;
}
