use Rattle.std.proofs.Common.{get_or}
use Rattle.std.proofs.lemmas.List.{get_or_default}
use Rattle.cells.proofs.Moves.{revalued_all}
use Rattle.cells.proofs.chain.replace.Goals as goal

pub returns-in-Some : goal.returns-in-Some
returns-in-Some g c =
    let d = revalued_all g.K.Key.hashed _ _ c.args.value c.in-Some.entry (get_or c.args.cells.now c.args.at c.index-cells-at.result) c.requires.kept c.requires.inside (get_or_default _ _ _ _ c.requires.inside) c.in-Some.is in
    record { kept = d.0; held = d.1 }
