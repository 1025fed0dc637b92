use Rattle.std.proofs.Common.{eqb, rules, tests}
use Rattle.std.proofs.lemmas.Iterator.{YieldsList-from_slice}
use Rattle.std.proofs.lemmas.Iterator.Search.{find_from_yields_List}
use Rattle.names.proofs.Pairs.{paired_found}
use Rattle.names.proofs.folding.look_up.Goals as goal

pub returns : goal.returns
returns c =
    let ps = c.args.pairs.now in
    paired_found ps c.args.code c.find.result c.map_or.result _
    (find_from_yields_List (λ p. eqb p.0 c.args.code) c.find.new.self _ c.find.result c.find.ensures.ran (YieldsList-from_slice ps cc) (λ x b q k. search (rules, tests)))
    c.map_or.ensures (λ p k. search rules)
