use Rattle.std.proofs.Common.{◌≡◌, get_or, Some, sym, ap, ◌∙◌, arith}
use Rattle.std.proofs.lemmas.List.{get_or_default}
use Rattle.cells.proofs.Fields.{held_read}
use Rattle.cells.proofs.Moves.{gone_all, gone_none}
use Rattle.cells.proofs.chain.give_up.Goals as goal

pub returns-in_err-entry-clause-held : goal.returns-in_err-entry-clause-held
returns-in_err-entry-clause-held g c = gone_none _ _ (get_or c.args.cells.now c.args.f c.index-cells-f.result) c.requires.inside (get_or_default _ _ _ _ c.requires.inside) c.in_err-entry.was

pub returns : goal.returns
returns g c =
    let is = get_or_default _ _ _ _ c.requires.inside in
    let taken : (get_or c.args.cells.now c.args.f c.index-cells-f-2.result).entry ≡ Some c.in_ok-entry.entry = ap (λ r. r.entry) (get_or_default _ _ c.index-cells-f-2.result c.index-cells-f.result c.requires.inside) ∙ c.in_ok-entry.was in
    let d = gone_all g.K.Key.hashed _ _ _ _ _ _ c.in_ok-entry.entry (get_or c.args.cells.now c.args.f c.index-cells-f-2.result) c.requires.kept (omega arith) c.requires.inside is taken c.hash.ensures.tells c.find_gap-before.ensures c.hook.ensures in
    record { kept = d.0; held = d.1; given = sym (held_read _ _ _ c.requires.inside (get_or_default _ _ c.index-cells-f.result _ c.requires.inside) ∙ c.in_ok-entry.was) }
