use Rattle.std.proofs.Common.{rules, refl}
use Rattle.cells.specs.Maps.{lookup, Empty}
use Rattle.cells.proofs.Tables.{empty_rules, empty_blank}
use Rattle.cells.proofs.table.Table.clear.Goals as goal

pub invariant_of-self : goal.invariant_of-self
invariant_of-self g c = let all : Empty c.fill.new.self = search rules in record { sound = ∣ empty_rules _ all g.K.Key.hashed g.K.PartialEq.eq ∣₁ }

pub returns-clause-fresh : goal.returns-clause-fresh
unfolding lookup
returns-clause-fresh g c = record { blank = let all : Empty c.fill.new.self = search rules in empty_blank _ all g.met.K.Eq.laws; count = refl }
