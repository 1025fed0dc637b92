use Rattle.std.proofs.Common.{◌++◌, length, sym, subst, ap₂, arith}
use Rattle.std.proofs.lemmas.List.{drop-replicate}
use Rattle.names.specs.Padding.{Counted}
use Rattle.names.proofs.Filling.{counted}
use Rattle.names.proofs.name.Name.new.Goals as goal

pub invariant_of-result : goal.invariant_of-result
invariant_of-result c =
    let n = length c.args.units.now in
    subst (Counted 31 n) (sym (ap₂ (λ us zeros. us ++ zeros) c.copy_from_slice.ensures.after (drop-replicate n 31 0))) (counted 31 c.args.units.now (omega arith))
