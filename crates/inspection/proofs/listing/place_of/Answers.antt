use Rattle.std.proofs.Common.{rules}
use Rattle.std.proofs.lemmas.Fn.{always_returns_same}
use Rattle.names.specs.Order.{compared}
use Rattle.inspection.proofs.Ascending.{searched}
use Rattle.inspection.proofs.listing.place_of.Goals as goal

pub returns-clause-place : goal.returns-clause-place
returns-clause-place g c =
    let fold = g.F.Folding.folds c.args.folding.now in
    let us = c.args.units.now in
    searched fold c.args.names.now us c.binary_search_by.result c.names_are_ordered.ensures c.requires (c.binary_search_by.ensures.position (λ n. compared fold n us) (always_returns_same _ _ _ (λ a r h k. (search rules, search rules))))
