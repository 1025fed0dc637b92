use Rattle.std.proofs.Common.{◌∙◌, eqb, rules, tests}
use Rattle.std.proofs.lemmas.Iterator.{YieldsList-from_slice}
use Rattle.std.proofs.lemmas.Iterator.Search.{position_from_yields_List}
use Rattle.paths.proofs.Cutting.{place_or_end}
use Rattle.paths.proofs.reader.until_separator.Goals as goal

pub returns-clause-value : goal.returns-clause-value
returns-clause-value c =
    let us = c.args.units.now in
    c.unwrap_or.ensures
    ∙ place_or_end us c.position.result (position_from_yields_List (λ u. eqb u 47) c.position.new.self _ c.position.result c.position.ensures.ran (YieldsList-from_slice us cc) (λ x b q k. search (rules, tests)))
